-- Laws of fields: the fields of a line, cut off one by one; fields that are read are not empty.
use Prim.Native.Nat.{ℕ, suc, ◌+◌, ◌-◌, ◌≤◌, ◌<◌}
use mathlib.Core.List.{List, [], ◌∷◌}
use mathlib.Core.Option.{some}
use mathlib.Core.Path.{◌≡◌, ap, ◌∙◌}
use native.Mathlib.Numerals.{add-one}
use native.Mathlib.Omega.{arith}
use lib.IntN.{ℤ}
use lib.ListN.{length, take, drop, length-drop, length-take}
use lib.Seq.{drop-drop}
use Rattle.peal.specs.declared.Sense.{Sense}
use Rattle.text.specs.Text.{space, fields, is}
use Rattle.text.specs.Numbers.{number}
use Rattle.text.specs.Forms.{sense_word, sense}
use Rattle.text.specs.Spelling.{up_to}
use Rattle.text.specs.LineMeaning.{FirstField}
use Rattle.text.proofs.WordLaws.{words}
use Rattle.text.proofs.TextLaws.{drop-part, up_to-le, later_pieces, parted-first, parted-more, parted-last}

-- ---- the first field, and the others

pub last-field : (s : List ℕ) (e : ℕ) → e ≡ up_to space s → e ≡ length s → fields s ≡ s ∷ []
unfolding fields
last-field s e q l = parted-last space s (omega arith)

pub first-field : (s : List ℕ) (e : ℕ) → e ≡ up_to space s → (e ≡ length s → ⊥) → FirstField s (take e s) (take (length s - (e + 1)) (drop (e + 1) s))
unfolding fields
first-field s e q n =
    let more : up_to space s < length s = omega (arith, up_to-le space s) in
    record {
      more = omega (arith, length-take e s);
      after = let l : length (take e s) ≡ e = omega (arith, length-take e s) in rw (drop-part s (e + 1), l, add-one e);
      parts = rw (drop-part s (e + 1), q, add-one (up_to space s), parted-more space s more);
    }

-- by these the first field is cut off
pub ruleset first_fields = (up_to-le, length-take, last-field, first-field)

some-field : (s : List ℕ) → (f : List ℕ) × (fs : List (List ℕ)) × (fields s ≡ f ∷ fs)
unfolding fields
some-field s = (take (up_to space s) s, later_pieces space s, parted-first space s)

-- all fields of a line, where the first ones are cut off one by one
module _ {s a r : List ℕ} (first : FirstField s a r) where
  pub two-fields : fields r ≡ r ∷ [] → fields s ≡ a ∷ r ∷ []
  two-fields e = first.parts ∙ rw e

  module _ {b t : List ℕ} (second : FirstField r b t) where
    pub three-fields : fields t ≡ t ∷ [] → fields s ≡ a ∷ b ∷ t ∷ []
    three-fields e = first.parts ∙ rw (second.parts, e)

    module _ {c u : List ℕ} (third : FirstField t c u) where
      -- the fourth begins after the three and a space after each
      fourth-at : u ≡ drop (suc (length a) + suc (length b) + suc (length c)) s
      fourth-at = third.after ∙ rw (second.after, first.after, drop-drop (suc (length b)) (suc (length a)) s, drop-drop (suc (length c)) (suc (length a) + suc (length b)) s)

      pub fourth-in : length s - length u ≡ 3 + length a + length b + length c
      fourth-in =
          let x = ap length first.after in
          let y = ap length second.after in
          let z = ap length third.after in
          omega (arith, length-drop (suc (length a)) s, length-drop (suc (length b)) r, length-drop (suc (length c)) t)

      pub four-fields : fields u ≡ u ∷ [] → fields s ≡ a ∷ b ∷ c ∷ drop (length s - length u) s ∷ []
      four-fields e =
          let n : suc (length a) + suc (length b) + suc (length c) ≡ length s - length u = omega (arith, fourth-in) in
          first.parts ∙ rw (second.parts, third.parts, e) (ap (λ (x : List ℕ). a ∷ b ∷ c ∷ x ∷ []) (rw n at fourth-at))

      pub five-fields : {d v : List ℕ} → FirstField u d v → (f : List ℕ) × (fs : List (List ℕ)) × (fields s ≡ a ∷ b ∷ c ∷ d ∷ f ∷ fs)
      five-fields {d} {v} fourth =
          let more = some-field v in
          (more.0, more.1, first.parts ∙ rw (second.parts, third.parts, fourth.parts, more.2))

-- ---- fields that are read

pub number-length : (s : List ℕ) (z : ℤ) → number s ≡ some z → 1 ≤ length s
unfolding number
number-length [] z e = absurd cc
number-length (b ∷ s) z e = omega arith

pub sense-length : (s : List ℕ) (c : Sense) → sense s ≡ some c → 1 ≤ length s
unfolding sense sense_word is
sense-length [] c e = absurd cc
sense-length (b ∷ s) c e = omega arith

-- by these the fields of a condition leave six bytes at least before its expression
pub ruleset read_fields = (words, number-length, sense-length)
