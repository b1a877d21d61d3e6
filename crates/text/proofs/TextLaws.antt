-- Laws of bytes and lines: where the next x stands, and what is parted there.
use Prim.Native.Nat.{ℕ, suc, ◌+◌, ◌-◌, ◌≤◌, ◌<◌}
use mathlib.Core.Bool.{Bool, true, false, cond}
use mathlib.Core.List.{List, [], ◌∷◌}
use mathlib.Core.Logic.{⊎_elim}
use mathlib.Core.Path.{◌≡◌, refl, ap, ◌∙◌}
use native.Mathlib.Nat.{eq-or-lt_of_le}
use native.Mathlib.Numerals.{add-one}
use native.Mathlib.Omega.{arith}
use lib.Dec.{eqb, ltb, leb-suc-suc}
use lib.ListN.{length, get_or, take, drop, drop_of_length-le, length-drop}
use lib.Seq.{drop-cons, drop-drop, take_all}
use borrow.Author.Tests.{eq-eqb, ne_eqb, lt-ltb, le-ltb}
use Rattle.std.proofs.lemmas.Bool.Decides.{nat_tests}
use Rattle.text.specs.Text.{Line, longer, parted, as_lines, text_lines}
use Rattle.text.specs.Spelling.{up_to}

-- what stands from a place on, as a slice has it
pub drop-part : (s : List ℕ) (at : ℕ) → take (length s - at) (drop at s) ≡ drop at s
drop-part s at = take_all (length s - at) (drop at s) (omega (arith, length-drop at s))

-- ---- the next x, from a place on

pub x-here : (x : ℕ) (s : List ℕ) (i : ℕ) → i < length s → get_or s i 0 ≡ x → up_to x (drop i s) ≡ 0
unfolding up_to
x-here x s i h e = rw (drop-cons s i 0 h, eq-eqb (get_or s i 0) x e)

pub x-further : (x : ℕ) (s : List ℕ) (i : ℕ) → i < length s → (get_or s i 0 ≡ x → ⊥) → up_to x (drop i s) ≡ suc (up_to x (drop (i + 1) s))
unfolding up_to
x-further x s i h e = rw (drop-cons s i 0 h, ne_eqb (get_or s i 0) x e, add-one i)

pub no-x : (x : ℕ) (s : List ℕ) (i : ℕ) → length s ≤ i → up_to x (drop i s) ≡ 0
unfolding up_to
no-x x s i h = rw (drop_of_length-le s h)

-- four places further on
pub x-further_four : (x : ℕ) (s : List ℕ) (i : ℕ) → i + 4 ≤ length s → (get_or s i 0 ≡ x → ⊥) → (get_or s (i + 1) 0 ≡ x → ⊥) → (get_or s (i + 2) 0 ≡ x → ⊥) → (get_or s (i + 3) 0 ≡ x → ⊥)
    → up_to x (drop i s) ≡ 4 + up_to x (drop (i + 4) s)
x-further_four x s i h a b c d =
    let third : i + 2 ≡ i + 1 + 1 = omega arith in
    let fourth : i + 3 ≡ i + 1 + 1 + 1 = omega arith in
    let end : i + 4 ≡ i + 1 + 1 + 1 + 1 = omega arith in
    rw end
    (omega (arith, x-further x s i (omega arith) a, x-further x s (i + 1) (omega arith) b, x-further x s (i + 1 + 1) (omega arith) (rw (← third) c), x-further x s (i + 1 + 1 + 1) (omega arith) (rw (← fourth) d)))

-- by these a byte that was looked at carries the search on, or ends it
pub ruleset next_places = (x-here, x-further, no-x)

pub up_to-le : (x : ℕ) (s : List ℕ) → up_to x s ≤ length s
unfolding up_to
up_to-le x [] = omega arith
up_to-le x (b ∷ s) = grind (arith, nat_tests, up_to-le x s)

-- ---- the pieces between the bytes x

-- the pieces after the first: none where there is no x
abbrev pub later_pieces : ℕ → List ℕ → List (List ℕ)
later_pieces x s = cond (ltb (up_to x s) (length s)) (parted x (drop (suc (up_to x s)) s)) []

first_step : (t : Bool) (x b : ℕ) (s : List ℕ) → parted x s ≡ take (up_to x s) s ∷ later_pieces x s
    → cond t ([] ∷ parted x s) (longer b (parted x s))
    ≡ take (cond t 0 (suc (up_to x s))) (b ∷ s)
    ∷ cond (ltb (cond t 0 (suc (up_to x s))) (suc (length s))) (parted x (drop (suc (cond t 0 (suc (up_to x s)))) (b ∷ s))) []
unfolding longer
first_step true x b s h = rw (lt-ltb 0 (suc (length s)) (omega arith))
first_step false x b s h = rw (h, leb-suc-suc (suc (up_to x s)) (length s))

-- how the pieces of s begin
pub parted-first : (x : ℕ) (s : List ℕ) → parted x s ≡ take (up_to x s) s ∷ later_pieces x s
unfolding parted up_to
parted-first x [] = refl
parted-first x (b ∷ s) = first_step (eqb b x) x b s (parted-first x s)

pub parted-more : (x : ℕ) (s : List ℕ) → up_to x s < length s → parted x s ≡ take (up_to x s) s ∷ parted x (drop (suc (up_to x s)) s)
parted-more x s h = parted-first x s ∙ rw (lt-ltb (up_to x s) (length s) h)

pub parted-last : (x : ℕ) (s : List ℕ) → length s ≤ up_to x s → parted x s ≡ s ∷ []
parted-last x s h = parted-first x s ∙ rw (le-ltb (up_to x s) (length s) h, take_all (up_to x s) s h)

-- the same at a place, where the next x is found at e, or the end is
module _ (x : ℕ) (s : List ℕ) (at e : ℕ) (h : at ≤ length s) (q : e ≡ at + up_to x (drop at s)) where
  pub end-within : e ≤ length s
  end-within = omega (arith, up_to-le x (drop at s), length-drop at s)

  pub parted-at : e < length s → parted x (drop at s) ≡ take (e - at) (drop at s) ∷ parted x (drop (e + 1) s)
  parted-at l =
      let u : up_to x (drop at s) ≡ e - at = omega arith in
      let m : up_to x (drop at s) < length (drop at s) = omega (arith, length-drop at s) in
      let n : at + suc (up_to x (drop at s)) ≡ e + 1 = omega arith in
      rw (parted-more x (drop at s) m, drop-drop (suc (up_to x (drop at s))) at s, n, u)

  pub parted-at-last : length s ≤ e → parted x (drop at s) ≡ drop at s ∷ []
  parted-at-last l = parted-last x (drop at s) (omega (arith, length-drop at s))

-- ---- lines

no_line : text_lines [] ≡ []
unfolding text_lines parted as_lines
no_line = refl

-- a piece with further pieces after it, and the last piece
pub line_before : (p rest : List ℕ) → as_lines (p ∷ parted 10 rest) ≡ record { text = p; ended = true } ∷ text_lines rest
unfolding as_lines text_lines
line_before p rest = rw (parted-first 10 rest)

line-alone : (s : List ℕ) (i : ℕ) → i < length s → as_lines (drop i s ∷ []) ≡ record { text = drop i s; ended = false } ∷ []
unfolding as_lines
line-alone s i h = rw (drop-cons s i 0 h)

pub no-line-at : (s : List ℕ) (at : ℕ) → length s ≤ at → text_lines (drop at s) ≡ []
no-line-at s at h = rw (drop_of_length-le s h) no_line

-- the line from a place to e, which is before the book's end where the line has an end
abbrev pub line_to : List ℕ → ℕ → ℕ → Line
line_to s at e = record { text = take (e - at) (drop at s); ended = ltb e (length s) }

-- the line at a place: the next end is found at e, or the book's end is
module _ (s : List ℕ) (at e : ℕ) (h : at < length s) (q : e ≡ at + up_to 10 (drop at s)) where
  ended-line : e < length s → text_lines (drop at s) ≡ line_to s at e ∷ text_lines (drop (e + 1) s)
  unfolding text_lines
  ended-line l = rw (lt-ltb e (length s) l) (ap as_lines (parted-at 10 s at e (omega arith) q l) ∙ line_before (take (e - at) (drop at s)) (drop (e + 1) s))

  open-line : e ≡ length s → text_lines (drop at s) ≡ line_to s at e ∷ text_lines (drop (e + 1) s)
  unfolding text_lines
  open-line l =
      rw (le-ltb e (length s) (omega arith), take_all (e - at) (drop at s) (omega (arith, length-drop at s)), no-line-at s (e + 1) (omega arith))
      (ap as_lines (parted-at-last 10 s at e (omega arith) q (omega arith)) ∙ line-alone s at h)

  pub line_at : text_lines (drop at s) ≡ line_to s at e ∷ text_lines (drop (e + 1) s)
  line_at = ⊎_elim open-line ended-line (eq-or-lt_of_le (end-within 10 s at e (omega arith) q))
