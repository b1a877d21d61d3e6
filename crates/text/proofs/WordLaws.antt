-- Laws of words: a word at a place, and as a whole field.
use Prim.Native.Nat.{ℕ, zero, suc, ◌+◌, ◌≤◌}
use mathlib.Core.Bool.{true, false, ◌&&◌}
use mathlib.Core.List.{List, [], ◌∷◌}
use mathlib.Core.Option.{none, some}
use mathlib.Core.Path.{◌≡◌, refl, ap, sym, ◌∙◌}
use native.Mathlib.Omega.{arith}
use lib.Dec.{eqb, ltb, leb-suc-suc}
use lib.ListN.{length, get_or, take, drop, length-drop}
use lib.Seq.{drop-drop}
use borrow.Author.Tests.{ne_eqb, lt-ltb, le-ltb}
use Rattle.std.proofs.lemmas.Bool.Decides.{nat_tests}
use Rattle.std.proofs.lemmas.Grind.{common_steps}
use Rattle.std.proofs.Math.Bool.{and-true, and-false, and_assoc}
use Rattle.arith.proofs.Tests.{clash, and_right}
use Rattle.text.specs.Text.{is, begins, after}
use Rattle.std.specs.Cmp.Lexicographic.{pointwise}

-- ---- a word at the front, and a byte at a place

eqb-sym : (a b : ℕ) → eqb a b ≡ eqb b a
eqb-sym a b = grind (arith, nat_tests)

-- what `starts_with` of slices tests
pub begins_starts : (w s : List ℕ) → pointwise eqb w (take (length w) s) ≡ begins w s
unfolding begins
begins_starts [] s = refl
begins_starts (x ∷ w) [] = refl
begins_starts (x ∷ w) (b ∷ s) = rw (begins_starts w s, eqb-sym x b)

-- a word of one byte, at a place
pub byte_at : (x : ℕ) (s : List ℕ) (i : ℕ) → begins (x ∷ []) (drop i s) ≡ ltb i (length s) && eqb (get_or s i 0) x
unfolding begins
byte_at x [] zero = refl
byte_at x [] (suc i) = rw (le-ltb (suc i) 0 (omega arith))
byte_at x (b ∷ s) zero = rw (lt-ltb 0 (suc (length s)) (omega arith)) (and-true (eqb b x))
byte_at x (b ∷ s) (suc i) = byte_at x s i ∙ ap (◌&& eqb (get_or s i 0) x) (sym (leb-suc-suc (suc i) (length s)))

-- by these `starts_with` and the byte that `get` gives are the test of the definition
pub ruleset at_place = (common_steps, nat_tests, begins_starts, byte_at)

pub is-length : (w s : List ℕ) → is w s ≡ true → length s ≡ length w
unfolding is
is-length [] [] h = refl
is-length [] (b ∷ s) h = clash h refl
is-length (x ∷ w) [] h = clash h refl
is-length (x ∷ w) (b ∷ s) h = ap suc (is-length w s (and_right (eqb b x) (is w s) h))

-- ---- a word at a place

-- a word is no longer than what begins with it
pub begins-length : (w s : List ℕ) → begins w s ≡ true → length w ≤ length s
unfolding begins
begins-length [] s h = omega arith
begins-length (x ∷ w) [] h = clash h refl
begins-length (x ∷ w) (b ∷ s) h = omega (arith, begins-length w s (and_right (eqb b x) (begins w s) h))

-- where a word stands, its bytes are there
pub word_room : (w s : List ℕ) (i : ℕ) → i ≤ length s → begins w (drop i s) ≡ true → i + length w ≤ length s
word_room w s i l h = omega (arith, begins-length w (drop i s) h, length-drop i s)

-- a word at a place, and the place after it
pub after-word : (w s : List ℕ) (i : ℕ) → begins w (drop i s) ≡ true → after w (drop i s) ≡ some (drop (i + length w) s)
unfolding after
after-word w s i h = rw (h, drop-drop (length w) i s)

pub no_word : (w s : List ℕ) → begins w s ≡ false → after w s ≡ none
unfolding after
no_word w s h = rw h

-- a word of one, two and three bytes, by the length and the bytes
pub is_one : (a : ℕ) (s : List ℕ) → is (a ∷ []) s ≡ eqb (length s) 1 && eqb (get_or s 0 0) a
unfolding is
is_one a [] = refl
is_one a (x ∷ []) = simp and-true
is_one a (x ∷ y ∷ s) = rw (ne_eqb (suc (suc (length s))) 1 (λ e. omega arith)) (simp and-false)

pub is_two : (a b : ℕ) (s : List ℕ) → is (a ∷ b ∷ []) s ≡ eqb (length s) 2 && eqb (get_or s 0 0) a && eqb (get_or s 1 0) b
unfolding is
is_two a b [] = refl
is_two a b (x ∷ []) = simp and-false
is_two a b (x ∷ y ∷ []) = simp and-true
is_two a b (x ∷ y ∷ z ∷ s) = rw (ne_eqb (suc (suc (suc (length s)))) 2 (λ e. omega arith)) (simp and-false)

pub is_three : (a b c : ℕ) (s : List ℕ) → is (a ∷ b ∷ c ∷ []) s ≡ eqb (length s) 3 && eqb (get_or s 0 0) a && eqb (get_or s 1 0) b && eqb (get_or s 2 0) c
unfolding is
is_three a b c [] = refl
is_three a b c (x ∷ []) = simp and-false
is_three a b c (x ∷ y ∷ []) = simp and-false
is_three a b c (x ∷ y ∷ z ∷ []) = simp (and-true, and_assoc)
is_three a b c (x ∷ y ∷ z ∷ u ∷ s) = rw (ne_eqb (suc (suc (suc (suc (length s))))) 3 (λ e. omega arith)) (simp and-false)

-- by these the arms of a `match` on a word's bytes are the tests of the definition
pub ruleset words = (nat_tests, is_one, is_two, is_three)
