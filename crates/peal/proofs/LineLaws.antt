-- The search finds the lines; the lines are the minimal sets, each once, in falling order; and there are few of them.
use Prim.Native.Nat.{ℕ, ◌+◌, ◌^◌, ◌≤◌, ◌<◌}
use mathlib.Core.List.{List, [], ◌∷◌, map, map-map}
use mathlib.Core.Path.{◌≡◌, refl, sym, ap, fun_ext, ◌∙◌}
use native.Mathlib.Omega.{arith}
use lib.IntN.{ℤ}
use lib.ListN.{length}
use lib.Pow.{pow_mono}
use Rattle.arith.specs.Lists.{below, non_empty, subsets}
use Rattle.arith.specs.Members.{Distinct}
use Rattle.arith.specs.InOrder.{InOrder}
use Rattle.arith.proofs.Distinct.{Other, order-distinct}
use Rattle.arith.proofs.InOrder.{order-inside, order-then, order-map, below-order}
use Rattle.arith.proofs.Keep.{keep-few}
use Rattle.arith.proofs.Reordering.{length-reordered}
use Rattle.arith.proofs.Sublists.{keep-inside}
use Rattle.arith.proofs.Subsets.{subsets-count, subsets-map}
use Rattle.signals.specs.Sets.{set_of}
use Rattle.peal.specs.Policies.{Rule}
use Rattle.peal.specs.Ranking.{ranked}
use Rattle.peal.specs.Ranks.{rank, rank_sum}
use Rattle.peal.specs.Lines.{sets_inside, minimal, minimal_sets, lines, has}
use Rattle.peal.specs.SearchFindsLines.{SearchFindsLines}
use Rattle.peal.specs.LinesAreMinimal.{LinesAreMinimal}
use Rattle.peal.specs.LinesAreFew.{LinesAreFew}
use Rattle.peal.specs.declared.Operator.{Operator}
use Rattle.peal.proofs.SetOrder.{sums-fall}
use Rattle.peal.proofs.MinimalSets.{among-minimal}
use Rattle.peal.proofs.SearchLaws.{search-finds-minimal}
use Rattle.peal.proofs.RankLaws.{ranked-reordered, ranked-falls}
use Rattle.peal.proofs.PersistLaws.{has-persists}
use Rattle.peal.proofs.SingleLaws.{lines-minimal}

pub search-finds-lines : SearchFindsLines
search-finds-lines op t rules fit =
    search-finds-minimal (has op t) (ranked op rules) (has-persists op t rules fit) ∙ sym (lines-minimal op t rules)

pub lines-are-few : LinesAreFew
unfolding minimal_sets sets_inside
lines-are-few op t rules = record { of_rules = few; of_sixteen = λ h. omega (arith, few, pow_mono {i = length rules} {j = 16} h) }
  where
    few : length (lines op t rules) ≤ 2 ^ length rules
    few =
        rw (lines-minimal op t rules, ← length-reordered (ranked-reordered op rules))
        (omega (arith, keep-few (minimal (has op t)) (sets_inside (ranked op rules)), keep-few non_empty (subsets (ranked op rules)), subsets-count (ranked op rules)))

-- ---- the order of the lines

module _ (op : Operator) (rules : List Rule) where
  -- Y has the smaller sum
  abbrev LessSum : List Rule → List Rule → Type 0
  LessSum X Y = rank_sum op rules Y < rank_sum op rules X

  rank-sum : (X : List Rule) → rank_sum op rules X ≡ set_of (map (rank op rules) X)
  unfolding rank_sum set_of
  rank-sum [] = refl
  rank-sum (r ∷ X) = ap (λ (n : ℕ). 2 ^ rank op rules r + n) (rank-sum X)

  module _ (distinct : Distinct (map (λ (r : Rule). r.signal) rules)) where
    sums : map (rank_sum op rules) (subsets (ranked op rules)) ≡ below (2 ^ length rules)
    sums =
        ap (λ (f : List Rule → ℕ). map f (subsets (ranked op rules))) (fun_ext rank-sum)
        ∙ sym (map-map set_of (map (rank op rules)) (subsets (ranked op rules)))
        ∙ ap (map set_of) (subsets-map (rank op rules) (ranked op rules))
        ∙ ap (λ (ranks : List ℕ). map set_of (subsets ranks)) (ranked-falls op rules distinct).falling
        ∙ sums-fall (length rules)

    sets-fall : InOrder LessSum (subsets (ranked op rules))
    sets-fall =
        order-map (λ (m n : ℕ). n < m) (rank_sum op rules) (subsets (ranked op rules))
        (rw sums (below-order (2 ^ length rules)))

    lines-fall : (t : ℤ) → InOrder LessSum (lines op t rules)
    unfolding minimal_sets sets_inside
    lines-fall t =
        rw (lines-minimal op t rules)
        (order-inside LessSum (keep-inside (minimal (has op t)) (sets_inside (ranked op rules))) (order-inside LessSum (keep-inside non_empty (subsets (ranked op rules))) sets-fall))

pub lines-are-minimal : LinesAreMinimal
lines-are-minimal op t rules distinct =
    record {
      exactly = λ X. rw (lines-minimal op t rules) (among-minimal (has op t) (ranked op rules) X);
      once =
          order-distinct (lines op t rules)
          (order-then (LessSum op rules) Other (λ X Y less e. omega (arith, less, ap (rank_sum op rules) e)) (lines op t rules) (lines-fall op rules distinct t));
      falling = lines-fall op rules distinct t;
    }
