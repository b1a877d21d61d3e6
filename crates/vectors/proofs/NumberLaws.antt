-- Numbers read from a text, byte by byte and one after the other.
use Rattle.std.specs.Prelude
use Rattle.std.specs.Prelude.{IfSome, IfNone}
use Rattle.std.specs.Option.{unwrap_or}
use Rattle.std.proofs.Common.{ℕ, zero, suc, ◌≡◌, ◌≢◌, ◌+◌, ◌-◌, ◌*◌, ◌^◌, ◌≤◌, ◌<◌, ◌++◌, min, Bool, true, false, List, [], ◌∷◌, length, take, drop, get_or, refl, sym, ap, ◌∙◌, arith, append_assoc, append-nil, add-one, ap₂, eqb, length-append}
use Rattle.std.proofs.lemmas.Bool.{eqb-true}
use Rattle.std.proofs.Math.Seq.{drop-cons}
use Rattle.std.specs.Char.{is_ascii_digit}
use Rattle.vectors.specs.Numbers.{zero_digit, with_digit, with_digits, after_digits, first_numbers, space, after_space}

pub one-dropped : (bs : List ℕ) (i : ℕ) → i < length bs → drop i bs ≡ get_or bs i 0 ∷ drop (i + 1) bs
one-dropped bs i h = drop-cons bs i 0 h ∙ ap (λ (n : ℕ). get_or bs i 0 ∷ drop n bs) (sym (add-one i))

-- ---- one number

-- digit by digit, each product and each sum cut
pub digit-more : (n b m s : ℕ) → m ≡ min (n * 10) (2 ^ 32 - 1) → s ≡ min (m + (b - zero_digit)) (2 ^ 32 - 1) → s ≡ with_digit n b
unfolding with_digit
digit-more n b m s e f = omega arith

module _ (n : ℕ) (bs : List ℕ) (i : ℕ) (h : i < length bs) where
  pub digits-more : is_ascii_digit (get_or bs i 0) ≡ true → with_digits n (drop i bs) ≡ with_digits (with_digit n (get_or bs i 0)) (drop (i + 1) bs)
  unfolding with_digits
  digits-more e = ap (with_digits n) (one-dropped bs i h) ∙ rw e refl

  pub digits-end : is_ascii_digit (get_or bs i 0) ≡ false → with_digits n (drop i bs) ≡ n
  unfolding with_digits
  digits-end e = ap (with_digits n) (one-dropped bs i h) ∙ rw e refl

module _ (bs : List ℕ) (i : ℕ) (h : i < length bs) where
  pub after-more : is_ascii_digit (get_or bs i 0) ≡ true → after_digits (drop i bs) ≡ after_digits (drop (i + 1) bs)
  unfolding after_digits
  after-more e = ap after_digits (one-dropped bs i h) ∙ rw e refl

  pub after-end : is_ascii_digit (get_or bs i 0) ≡ false → after_digits (drop i bs) ≡ drop (i + 1) bs
  unfolding after_digits
  after-end e = ap after_digits (one-dropped bs i h) ∙ rw e refl

-- ---- one after the other

empty : (bs : List ℕ) → length bs ≡ 0 → bs ≡ []
empty [] h = refl
empty (b ∷ bs) h = absurd (omega arith)

first-more : (n m : ℕ) (bs : List ℕ) → n ≡ suc m → 0 < length bs → first_numbers n bs ≡ with_digits 0 bs ∷ first_numbers m (after_digits bs)
unfolding first_numbers
first-more n m [] e h = absurd (omega arith)
first-more n m (b ∷ bs) e h = rw e refl

first-none : (n : ℕ) → first_numbers n [] ≡ []
unfolding first_numbers
first-none zero = refl
first-none (suc n) = refl

module _ (n : ℕ) (items bs start : List ℕ) (is : items ++ first_numbers (n - length items) bs ≡ start) where
  -- the next number is taken too
  pub one-taken : (v : ℕ) (more rest : List ℕ) → length items < n → 0 < length bs → more ≡ items ++ v ∷ [] → v ≡ with_digits 0 bs → rest ≡ after_digits bs
      → more ++ first_numbers (n - length more) rest ≡ start
  one-taken v more rest room some m e r =
      let one : n - length items ≡ suc (n - length more) = omega (arith, ap length m, length-append items (v ∷ [])) in
      ap₂ (λ (l t : List ℕ). l ++ first_numbers (n - length more) t) m r
      ∙ append_assoc items (v ∷ []) (first_numbers (n - length more) (after_digits bs))
      ∙ ap (λ (x : ℕ). items ++ (x ∷ first_numbers (n - length more) (after_digits bs))) e
      ∙ ap (λ (l : List ℕ). items ++ l) (sym (first-more (n - length items) (n - length more) bs one some))
      ∙ is

  -- the text is read
  pub none-left : length bs ≡ 0 → items ≡ start
  none-left h =
      let none : bs ≡ [] = empty bs h in
      sym (append-nil items) ∙ ap (λ (l : List ℕ). items ++ l) (sym (ap (first_numbers (n - length items)) none ∙ first-none (n - length items))) ∙ is

  -- there is no more room
  pub no-room : n ≤ length items → items ≡ start
  unfolding first_numbers
  no-room h =
      let none : n - length items ≡ 0 = omega arith in
      sym (append-nil items) ∙ ap (λ (l : List ℕ). items ++ l) (sym (ap (λ (k : ℕ). first_numbers k bs) none)) ∙ is

-- ---- the space before them

dropped : (rest : List ℕ) → after_space (space ∷ rest) ≡ rest
unfolding after_space
dropped rest = refl

kept_first : (b : ℕ) (bs : List ℕ) (t : Bool) → eqb b space ≡ t → (b ≢ space) → after_space (b ∷ bs) ≡ b ∷ bs
unfolding after_space
kept_first b bs true e ne = absurd (ne (eqb-true b space e))
kept_first b bs false e ne = rw e refl

kept : (text : List ℕ) → take 1 text ≢ space ∷ [] → after_space text ≡ text
unfolding after_space
kept [] ne = refl
kept (b ∷ bs) ne = kept_first b bs (eqb b space) refl (λ e. ne (ap (λ (x : ℕ). x ∷ []) e))

pub space-dropped : {T : Type 0} (now : T → List ℕ) (text : T) (found : Prelude.Option T) → IfSome found (λ rest. now text ≡ space ∷ now rest)
    → IfNone found (take 1 (now text) ≢ space ∷ []) → now (unwrap_or found text) ≡ after_space (now text)
space-dropped now text (Prelude.Some rest) e h = sym (ap after_space e ∙ dropped (now rest))
space-dropped now text Prelude.None h ne = sym (kept (now text) ne)
