-- A line of at most 128 bytes has space for at most 16 mentions of a policy, by its fields.
use Prim.Native.Nat.{ℕ, suc, ◌+◌, ◌*◌, ◌≤◌}
use mathlib.Core.List.{List, [], ◌∷◌}
use mathlib.Core.Option.{some}
use mathlib.Core.Path.{◌≡◌, refl}
use native.Mathlib.Omega.{arith}
use lib.IntN.{ℤ}
use lib.ListN.{length}
use Rattle.arith.proofs.Options.{Finds, finds-that, finds-then, finds-any, finds-if, finds-either}
use Rattle.peal.specs.Policies.{Expression}
use Rattle.peal.specs.declared.Sense.{Sense}
use Rattle.std.proofs.lemmas.Bool.Decides.{nat_tests}
use Rattle.text.specs.Text.{bytes, longer, parted, space, fields, is}
use Rattle.text.specs.Numbers.{natural, number}
use Rattle.text.specs.Expressions.{expression}
use Rattle.text.specs.Forms.{Form, old_zero, policy, rule, exclusion, condition, operator, sense, form_of, form}
use Rattle.arith.specs.Leaves.{leaf_count}
use Rattle.text.proofs.FieldLaws.{number-length, sense-length}
use Rattle.text.proofs.MentionLaws.{expression-fits}
use Rattle.text.proofs.WordLaws.{is-length}

-- the bytes of some pieces, with one for the end of each
span : List (List ℕ) → ℕ
span [] = 0
span (p ∷ ps) = suc (length p) + span ps

longer-span : (b : ℕ) (ps : List (List ℕ)) → 1 ≤ span ps → span (longer b ps) ≡ suc (span ps)
unfolding span longer
longer-span b [] h = absurd (omega arith)
longer-span b (p ∷ ps) h = omega arith

parted-span : (x : ℕ) (s : List ℕ) → span (parted x s) ≡ suc (length s)
unfolding span parted
parted-span x [] = refl
parted-span x (b ∷ s) = grind (arith, nat_tests, parted-span x s, longer-span b (parted x s))

-- a condition has at most 16 mentions
abbrev pub FewMentions : Form → Type 0
FewMentions old_zero = Unit {0}
FewMentions (policy o d) = Unit {0}
FewMentions (rule s v) = Unit {0}
FewMentions (exclusion a b) = Unit {0}
FewMentions (condition c t e) = leaf_count e ≤ 16

fields_fit : (fs : List (List ℕ)) → span fs ≤ 129 → Finds FewMentions (form_of fs)
unfolding span form_of
fields_fit [] h = tt
fields_fit (k ∷ []) h = finds-if FewMentions (is (bytes "o") k) (some old_zero) (λ e. tt)
fields_fit (k ∷ o ∷ []) h = finds-if FewMentions (is (bytes "p") k) _ (λ e. finds-any FewMentions (operator o) _ (λ op. tt))
fields_fit (k ∷ a ∷ b ∷ []) h =
    finds-either FewMentions (is (bytes "p") k) _ _ (finds-any FewMentions (operator a) _ (λ op. finds-any FewMentions (number b) _ (λ z. tt)))
    (finds-either FewMentions (is (bytes "r") k) _ _ (finds-any FewMentions (natural a) _ (λ n. finds-any FewMentions (number b) _ (λ z. tt)))
    (finds-if FewMentions (is (bytes "x") k) _ (λ e. finds-any FewMentions (natural a) _ (λ m. finds-any FewMentions (natural b) _ (λ n. tt)))))
fields_fit (k ∷ t ∷ c ∷ e ∷ []) h =
    finds-if FewMentions (is (bytes "c") k) _ (λ q.
    let room : length t + length c + length e ≤ 124 = omega (arith, is-length (bytes "c") k q) in
    finds-then FewMentions (λ (z : ℤ). 1 ≤ length t) (number t) _ (finds-that (λ (z : ℤ). 1 ≤ length t) (number t) (λ z q. number-length t z q)) (λ z i.
    finds-then FewMentions (λ (s : Sense). 1 ≤ length c) (sense c) _ (finds-that (λ (s : Sense). 1 ≤ length c) (sense c) (λ s q. sense-length c s q)) (λ s j.
    finds-then FewMentions (λ (x : Expression). 8 * leaf_count x ≤ length e + 6) (expression e) _ (expression-fits e) (λ x k. omega arith))))
fields_fit (k ∷ a ∷ b ∷ e ∷ f ∷ fs) h = tt

-- a line's form has at most 16 mentions
pub form-mentions : (line : List ℕ) → length line ≤ 128 → Finds FewMentions (form line)
unfolding form fields
form-mentions line h = fields_fit (fields line) (omega (arith, parted-span space line))
