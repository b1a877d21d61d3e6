-- The minimal sets of "some rule passes a test" are the single rules that pass it: so the lines of max and min are minimal sets too;
-- and where the empty set has the property, each rule is a line.
use mathlib.Core.Bool.{Bool, true, false, cond, ◌&&◌, ◌||◌, or-false}
use mathlib.Core.List.Memᴰ
use mathlib.Core.List.Permᴰ
use mathlib.Core.List.Sublistᴰ
use mathlib.Core.List.{List, [], ◌∷◌, ◌++◌, map}
use mathlib.Core.Logic.{◌↔◌, ⊎_elim}
use mathlib.Core.Path.{◌≡◌, refl, sym, ap, ap₂, ◌∙◌}
use native.Mathlib.Omega.{arith}
use lib.Dec.{lit<}
use lib.IntN.{ℤ, pos}
use Rattle.arith.specs.Lists.{exists, keep, non_empty, subsets}
use Rattle.arith.proofs.Tests.{clash, not_yes, or_cases}
use Rattle.arith.proofs.Keep.{keep_all, keep_append}
use Rattle.arith.proofs.Members.{each_in, keep-in, keep_out}
use Rattle.arith.proofs.Order.{le_z-scale}
use Rattle.arith.proofs.Subsets.{keep-empty, subsets-more}
use Rattle.arith.proofs.Reordering.{among-reordered}
use Rattle.peal.specs.Policies.{Rule}
use Rattle.peal.specs.Score.{scaled, total, score_product, scaled_product}
use Rattle.peal.specs.Ranking.{ranked}
use Rattle.peal.specs.Lines.{sets_inside, smaller_sets, minimal, minimal_sets, score_above, score_at_most, has, lines}
use Rattle.peal.specs.SetsOfRules.{SetInside}
use Rattle.arith.specs.Members.{Among}
use Rattle.peal.specs.SearchFindsLines.{RulesFit}
use Rattle.peal.specs.LinesAreSingle.{Single, LinesAreSingle}
use Rattle.peal.specs.EachRuleIsALine.{EachRule, EachRuleIsALine}
use Rattle.peal.specs.declared.Operator.{Operator}
use Rattle.peal.specs.declared.Operator.TheVariants.{Min, Max, Sum, Mul}
use Rattle.peal.proofs.MinimalSets.{minimal-out, minimal-same}
use Rattle.peal.proofs.RankLaws.{ranked-reordered}
use Rattle.peal.proofs.PersistLaws.{fits-reordered, fits-inside, has_all}

module _ (test : Rule → Bool) where
  -- the single rules that pass the test
  abbrev singles : List Rule → List (List Rule)
  singles rules = map (λ r. r ∷ []) (keep test rules)

  one-minimal : (r : Rule) → minimal (exists test) (r ∷ []) ≡ test r
  unfolding minimal smaller_sets sets_inside
  one-minimal r = go (test r)
    where
      go : (t : Bool) → ((t || false) && true) ≡ t
      go true = refl
      go false = refl

  two-not : (q r : Rule) (X : List Rule) → minimal (exists test) (q ∷ r ∷ X) ≡ false
  two-not q r X =
      not_yes (minimal (exists test) (q ∷ r ∷ X)) (λ m.
      let least = minimal-out (exists test) (q ∷ r ∷ X) refl m in
      ⊎_elim
      (λ h. clash (or-false (test q) ∙ h) (least.no_smaller (q ∷ []) (Sublistᴰ.cons-cons refl (Sublistᴰ.nil-sublist (r ∷ X))) refl (omega arith)))
      (λ h. clash h (least.no_smaller (r ∷ X) (Sublistᴰ.cons (Sublistᴰ.refl (r ∷ X))) refl (omega arith)))
      (or_cases (test q) (exists test (r ∷ X)) least.holds))

  minimal-singles : (rules : List Rule) → minimal_sets (exists test) rules ≡ singles rules
  unfolding minimal_sets sets_inside minimal smaller_sets
  minimal-singles [] = refl
  minimal-singles (r ∷ rules) =
      ap (keep (minimal (exists test))) (subsets-more r rules)
      ∙ keep_append (minimal (exists test)) (map (λ Y. r ∷ Y) (subsets rules)) (keep non_empty (subsets rules))
      ∙ ap₂ (λ (l m : List (List Rule)). l ++ m)
      (keep-empty (minimal (exists test)) (λ Y. r ∷ Y) rules (two-not r) ∙ ap (λ (t : Bool). cond t ((r ∷ []) ∷ []) []) (one-minimal r))
      (minimal-singles rules)
      ∙ go (test r)
    where
      go : (t : Bool) → cond t ((r ∷ []) ∷ []) [] ++ map (λ r. r ∷ []) (keep test rules) ≡ map (λ r. r ∷ []) (cond t (r ∷ keep test rules) (keep test rules))
      go true = refl
      go false = refl

  among-singles : (op : Operator) (rules X : List Rule) → Among X (singles (ranked op rules)) ↔ Single test rules X
  among-singles op rules X = (there, back)
    where
      there : Among X (map (λ r. r ∷ []) (keep test (ranked op rules))) → Single test rules X
      there m =
          let k = Memᴰ.of_map (λ (r : Rule). r ∷ []) (keep test (ranked op rules)) m in
          let q = keep_out test (ranked op rules) k.1 in
          record { rule = k.0; itself = sym k.2; of_policy = among-reordered (Permᴰ.symm (ranked-reordered op rules)) q.0; passes = q.1 }

      back : Single test rules X → Among X (map (λ r. r ∷ []) (keep test (ranked op rules)))
      back s =
          Memᴰ.cast s.itself (Memᴰ.map (λ (r : Rule). r ∷ []) (keep-in test (among-reordered (ranked-reordered op rules) s.of_policy) s.passes))

-- for each operator the lines are the minimal sets of the ranked rules
pub lines-minimal : (op : Operator) (t : ℤ) (rules : List Rule) → lines op t rules ≡ minimal_sets (has op t) (ranked op rules)
unfolding lines has
lines-minimal Sum t rules = refl
lines-minimal Mul t rules = refl
lines-minimal Max t rules = sym (minimal-singles (score_above t) (ranked Max rules))
lines-minimal Min t rules = sym (minimal-singles (score_at_most t) (ranked Min rules))

pub lines-are-single : LinesAreSingle
unfolding lines
lines-are-single t rules X =
    (among-singles (score_above t) Max rules X, among-singles (score_at_most t) Min rules X)

-- ---- where the empty set has the property

each-rule : (op : Operator) (t : ℤ) (rules : List Rule) → RulesFit op rules → has op t [] ≡ true → EachRule op t rules
each-rule op t rules fit none =
    lines-minimal op t rules
    ∙ minimal-same (has op t) (exists (λ r. true)) (ranked op rules) same
    ∙ minimal-singles (λ r. true) (ranked op rules)
    ∙ ap (map (λ r. r ∷ [])) (keep_all (λ r. true) (ranked op rules) (each_in (λ (r : Rule). true ≡ true) (ranked op rules) (λ r m. refl)))
  where
    some-exists : (X : List Rule) → non_empty X ≡ true → exists (λ (r : Rule). true) X ≡ true
    some-exists [] h = clash h refl
    some-exists (r ∷ X) h = refl

    same : (X : List Rule) → SetInside X (ranked op rules) → non_empty X ≡ true → has op t X ≡ exists (λ (r : Rule). true) X
    same X s some =
        has_all op t X (fits-inside s (fits-reordered (Permᴰ.symm (ranked-reordered op rules)) fit)) none ∙ sym (some-exists X some)

pub each-rule-is-a-line : EachRuleIsALine
unfolding has total scaled_product score_product scaled
each-rule-is-a-line =
    record {
      of_sum = λ t rules fit h. each-rule Sum t rules fit h;
      of_mul = λ t rules fit h. each-rule Mul t rules fit (le_z-scale (pos 100) t 100000000000000 (lit< tt) ∙ h);
    }
