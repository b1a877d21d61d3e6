-- Two books for each premise: the premise does not hold of their listings, all others do, and what is claimed of them is not so.
use Prim.Native.Nat.{ℕ}
use mathlib.Core.Bool.{Bool, true, false, not, cond, ◌&&◌, ◌||◌, beq}
use mathlib.Core.List.Permᴰ
use mathlib.Core.List.{List, [], ◌∷◌}
use mathlib.Core.Path.{◌≡◌, refl, sym, ◌∙◌}
use native.Mathlib.Omega.{arith}
use Rattle.std.specs.Prelude.{Ok}
use Rattle.answers.specs.Answers.{result}
use Rattle.answers.proofs.Results.{result-is}
use Rattle.arith.proofs.Reordering.{length-reordered}
use Rattle.arith.proofs.Tests.{clash}
use Rattle.signals.specs.Sets.{present}
use Rattle.layout.specs.Nodes.{ListedPolicy}
use Rattle.rod.specs.Reading.{rod_answer}
use Rattle.rod.specs.Computing.{rod_computes}
use Rattle.checks.specs.Checks.{permitted, differ_at, comparison, alike}
use Rattle.checks.specs.declared.Comparison.TheVariants.{Alike}
use Rattle.checks.proofs.Answers.{alike-tells}
use Rattle.compiler.specs.Computing.{compiler_computes}
use Rattle.same_lines.specs.SameLines.{OnePolicy}
use Rattle.same_lines.specs.Premises.{Premises}
use Rattle.same_lines.proofs.Compiled.{just-fits}

-- ---- the same line, of signal 0, under another kind or mask

abbrev words : ℕ → ℕ → List ℕ
words kind mask = kind ∷ mask ∷ 2 ∷ 0 ∷ 4 ∷ 1 ∷ 0 ∷ 0 ∷ []

abbrev policy : Bool → Bool → ℕ → ListedPolicy
policy quiet turned mask = record { quiet = quiet; turned = turned; mask = mask; lines = 1 ∷ [] }

speaks : OnePolicy (words 16 1) (policy false false 1)
unfolding compiler_computes
speaks = just-fits "p sum 0\nr 0 40\nc 20 < p0\n" 0 2 (record { returning = refl; leaving = refl }) refl refl

speaks-quiet : OnePolicy (words 17 1) (policy true false 1)
unfolding compiler_computes
speaks-quiet = just-fits "p sum 100\nr 0 40\nc 20 < p0\n" 0 2 (record { returning = refl; leaving = refl }) refl refl

speaks-against : OnePolicy (words 18 1) (policy false true 1)
unfolding compiler_computes
speaks-against = just-fits "p sum 100\nr 0 40\nc 20 >= p0\n" 0 2 (record { returning = refl; leaving = refl }) refl refl

speaks-wide : OnePolicy (words 17 3) (policy true false 3)
unfolding compiler_computes
speaks-wide = just-fits "p sum 100\nr 0 40\nr 1 10\nc 20 < p0\n" 0 2 (record { returning = refl; leaving = refl }) refl refl

-- yes by the one and no by the other is not alike
not_alike : (one two : List ℕ) (set : ℕ) → rod_answer one set ≡ result true → rod_answer two set ≡ result false → rod_answer one set ≡ rod_answer two set → ⊥
not_alike one two set e f same = clash refl (result-is (sym e ∙ same ∙ f))

-- ---- a line of an excluded pair that only the one has

abbrev with_line : List ℕ
with_line = 5 ∷ 3 ∷ 0 ∷ 2 ∷ 16 ∷ 3 ∷ 3 ∷ 0 ∷ 4 ∷ 3 ∷ 0 ∷ 0 ∷ []

abbrev without_line : List ℕ
without_line = 16 ∷ 3 ∷ 0 ∷ 0 ∷ []

line-of-pair : OnePolicy with_line (record { quiet = false; turned = false; mask = 3; lines = 3 ∷ [] })
unfolding compiler_computes
line-of-pair = just-fits "x 0 1\np sum 0\nr 0 30\nr 1 30\nc 50 < p0\n" 0 3 (record { returning = refl; leaving = refl }) refl refl

no_line : OnePolicy without_line (record { quiet = false; turned = false; mask = 3; lines = [] })
unfolding compiler_computes
no_line = just-fits "p sum 0\nr 0 20\nr 1 20\nc 50 < p0\n" 0 1 (record { returning = refl; leaving = refl }) refl refl

-- whether signals 0 and 1 are present, and what the two say then
abbrev pair : Bool → Bool → Bool
pair a b = b && (a && true)

abbrev with_says : Bool → Bool → Bool
with_says a b = cond (b || (a || false)) (pair a b || false) false

abbrev without_says : Bool → Bool → Bool
without_says a b = cond (b || (a || false)) false false

-- where the pair does not lie inside a set, no line does
first_passes : (set : ℕ) → differ_at with_line without_line set ≡ false
unfolding rod_computes permitted differ_at
first_passes set = go (present set 0) (present set 1)
  where
    go : (a b : Bool) → (not (pair a b) && true) && true && not (beq (with_says a b) (without_says a b)) ≡ false
    go true true = refl
    go true false = refl
    go false true = refl
    go false false = refl

second-passes : (set : ℕ) → differ_at without_line with_line set ≡ false
unfolding rod_computes permitted differ_at
second-passes set = go (present set 0) (present set 1)
  where
    go : (a b : Bool) → true && (not (pair a b) && true) && not (beq (without_says a b) (with_says a b)) ≡ false
    go true true = refl
    go true false = refl
    go false true = refl
    go false false = refl

first_alike : comparison with_line without_line ≡ alike
unfolding rod_computes
first_alike = (alike-tells with_line without_line refl refl).1 (λ set h. first_passes set)

second_alike : comparison without_line with_line ≡ alike
unfolding rod_computes
second_alike = (alike-tells without_line with_line refl refl).1 (λ set h. second-passes set)

one-and-none : {X : Type 0} → ◌≡◌ {A = ℕ} 1 0 → X
one-and-none e = absurd (omega (arith, e))

pub premises : Premises
unfolding rod_computes
premises =
    record {
      quiet = λ tells. not_alike (words 17 1) (words 16 1) 0 refl refl ((tells _ _ _ _ (record { first = speaks-quiet; second = speaks; equal = (refl, refl) })).1 (Permᴰ.refl (1 ∷ [])) 0 (omega arith));
      turned = λ tells. not_alike (words 16 1) (words 18 1) 1 refl refl ((tells _ _ _ _ (record { first = speaks; second = speaks-against; equal = (refl, refl) })).1 (Permᴰ.refl (1 ∷ [])) 1 (omega arith));
      mask = λ tells. not_alike (words 17 1) (words 17 3) 2 refl refl ((tells _ _ _ _ (record { first = speaks-quiet; second = speaks-wide; equal = refl })).1 (Permᴰ.refl (1 ∷ [])) 2 (omega arith));
      first = λ tells. one-and-none (length-reordered ((tells _ _ _ _ (record { first = line-of-pair; second = no_line; equal = (refl, refl) }) tt refl (Ok Alike) (sym first_alike)).0 refl));
      second = λ tells. one-and-none (sym (length-reordered ((tells _ _ _ _ (record { first = no_line; second = line-of-pair; equal = (refl, refl) }) refl tt (Ok Alike) (sym second_alike)).0 refl)));
    }
