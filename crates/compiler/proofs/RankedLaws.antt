-- The rules of a policy in range are as many and still in range when they are ranked.
use Prim.Native.Nat.{ℕ, ◌<◌}
use mathlib.Core.Bool.{true}
use mathlib.Core.List.Permᴰ
use mathlib.Core.Path.{◌≡◌, sym}
use native.Mathlib.Omega.{arith}
use lib.ListN.{length}
use Rattle.arith.proofs.Each.{each_map}
use Rattle.arith.proofs.Reordering.{each-reordered, length-reordered}
use Rattle.peal.specs.Policies.{Rule, Policy}
use Rattle.peal.proofs.RankLaws.{ranked-reordered}
use Rattle.book.specs.Acceptance.{score_in_range}
use Rattle.book.specs.Ranges.{PolicyInRange}
use Rattle.book.proofs.RangeLaws.{rules-at-most}
use Rattle.compiler.specs.Planning.{in_rank_order, RulesInRange}

pub ranked-length : (q : Policy) → length (in_rank_order q).rules ≡ length q.rules
unfolding in_rank_order
ranked-length q = sym (length-reordered (Permᴰ.symm (ranked-reordered q.operator q.rules)))

pub ranked-in-range : (q : Policy) → PolicyInRange q → RulesInRange (in_rank_order q).operator (in_rank_order q).rules
unfolding in_rank_order
ranked-in-range q h =
    let p = Permᴰ.symm (ranked-reordered q.operator q.rules) in
    let n = ranked-length q in
    record {
      signals = each-reordered (λ (r : Rule). r.signal < 16) p (each_map (λ (s : ℕ). s < 16) (λ (r : Rule). r.signal) q.rules h.signals);
      scores = each-reordered (λ (r : Rule). score_in_range q.operator r.score ≡ true) p h.scores;
      few = omega (arith, n, rules-at-most q h);
      room = λ m. omega (arith, n, h.room m);
    }
