-- Laws of the members of a list: what each has, and which pass a test.
use mathlib.Core.Bool.{Bool, true, false, cond}
use mathlib.Core.List.Memᴰ
use mathlib.Core.List.{List, [], ◌∷◌, Memᴰ}
use mathlib.Core.Path.{◌≡◌, refl, sym, ap, subst, ◌∙◌}
use Rattle.arith.specs.Lists.{every, keep}
use Rattle.arith.specs.Members.{Each}
use Rattle.arith.proofs.Tests.{and_left, and_right}

module _ {A : Type 0} (P : A → Type 0) where
  pub each_in : (xs : List A) → ((x : A) → Memᴰ x xs → P x) → Each P xs
  each_in [] h = tt
  each_in (x ∷ xs) h = (h x (Memᴰ.head refl), each_in xs (λ y m. h y (Memᴰ.tail m)))

  pub each-out : {x : A} {xs : List A} → Each P xs → Memᴰ x xs → P x
  each-out h (Memᴰ.head e) = subst P (sym e) h.0
  each-out h (Memᴰ.tail m) = each-out h.1 m

module _ {A : Type 0} (test : A → Bool) where
  pub every-each : (xs : List A) → Each (λ (x : A). test x ≡ true) xs → every test xs ≡ true
  every-each [] h = refl
  every-each (x ∷ xs) h = rw h.0 (every-each xs h.1)

  pub each-every : (xs : List A) → every test xs ≡ true → Each (λ (x : A). test x ≡ true) xs
  each-every [] h = tt
  each-every (x ∷ xs) h = (and_left (test x) (every test xs) h, each-every xs (and_right (test x) (every test xs) h))

  pub keep-in : {x : A} {xs : List A} → Memᴰ x xs → test x ≡ true → Memᴰ x (keep test xs)
  keep-in (Memᴰ.head e) h = rw (sym (ap test e) ∙ h) (Memᴰ.head e)
  keep-in {x = x} (Memᴰ.tail {x = y} {xs = xs} m) h = go (test y) (keep-in m h)
    where
      go : (t : Bool) → Memᴰ x (keep test xs) → Memᴰ x (cond t (y ∷ keep test xs) (keep test xs))
      go true k = Memᴰ.tail k
      go false k = k

  pub keep_out : (xs : List A) {x : A} → Memᴰ x (keep test xs) → Memᴰ x xs × (test x ≡ true)
  keep_out [] m = absurd (Memᴰ.not-nil m)
  keep_out (y ∷ xs) {x} m = go (test y) refl m (λ k. keep_out xs k)
    where
      later : Memᴰ x xs × (test x ≡ true) → Memᴰ x (y ∷ xs) × (test x ≡ true)
      later r = (Memᴰ.tail r.0, r.1)

      go : (t : Bool) → test y ≡ t → Memᴰ x (cond t (y ∷ keep test xs) (keep test xs))
          → (Memᴰ x (keep test xs) → Memᴰ x xs × (test x ≡ true)) → Memᴰ x (y ∷ xs) × (test x ≡ true)
      go true e (Memᴰ.head q) f = (Memᴰ.head q, ap test q ∙ e)
      go true e (Memᴰ.tail k) f = later (f k)
      go false e k f = later (f k)

  pub keep-none : (xs : List A) → ((x : A) → Memᴰ x xs → test x ≡ false) → keep test xs ≡ []
  keep-none [] h = refl
  keep-none (x ∷ xs) h = rw (h x (Memᴰ.head refl)) (keep-none xs (λ y m. h y (Memᴰ.tail m)))
