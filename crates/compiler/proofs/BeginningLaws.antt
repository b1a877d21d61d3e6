-- Where the search begins: a policy put in rank order, and no rule taken. From there on it finds the lines.
use Prim.Native.Nat.{ℕ}
use mathlib.Core.List.{[]}
use mathlib.Core.Path.{◌≡◌, refl, sym, ap, ◌∙◌}
use native.Mathlib.Omega.{arith}
use lib.IntN.{ℤ}
use lib.ListN.{length}
use Rattle.signals.specs.Sets.{set_of}
use Rattle.peal.specs.Policies.{Policy, mask_of}
use Rattle.peal.specs.Lines.{has}
use Rattle.peal.specs.Search.{found_from, found_sets}
use Rattle.peal.proofs.LineLaws.{search-finds-lines}
use Rattle.book.specs.Ranges.{PolicyInRange}
use Rattle.book.proofs.ScoreSizes.{range-fits}
use Rattle.compiler.specs.Worth.{initial, worth}
use Rattle.compiler.specs.Planning.{in_rank_order, rest_of, PlanFor}
use Rattle.compiler.specs.Searching.{Point, found, Searching, lines_of}
use Rattle.compiler.specs.declared.planning.Plan.{Plan}
use Rattle.compiler.specs.declared.searching.Taken.{Taken}
use Rattle.compiler.proofs.RankedLaws.{ranked-length}
use Rattle.compiler.proofs.RestLaws.{all_rest}

-- no rule is taken
abbrev pub beginning : Policy → ℤ → Point
beginning q t = record { policy = in_rank_order q; threshold = t; taken = [] }

no-mask : 0 ≡ mask_of []
unfolding mask_of set_of
no-mask = refl

module _ (q : Policy) (t : ℤ) {rank : ℕ} (all : rank ≡ length q.rules) where
  pub begun : {plan : Plan} → PlanFor plan (in_rank_order q) t → {taken : Taken} → taken.count ≡ 0 → taken.value ≡ initial plan.operator → taken.mask ≡ 0
      → Searching plan taken rank (beginning q t)
  unfolding worth
  begun {plan} p e f g =
      record {
        planned = p;
        counted = e;
        valued = f ∙ ap initial p.operator;
        masked = g ∙ no-mask;
        among = omega (arith, ranked-length q);
        range = record { signals = tt; scores = tt; few = omega arith; room = λ m. omega arith };
      }

  pub found-lines : PolicyInRange q → found (beginning q t) rank ≡ lines_of t q
  unfolding found found_sets in_rank_order
  found-lines range =
      let rules = (in_rank_order q).rules in
      ap (found_from (has q.operator t) []) (ap (λ (n : ℕ). rest_of n rules) (all ∙ sym (ranked-length q)) ∙ all_rest rules)
      ∙ search-finds-lines q.operator t q.rules (range-fits q.operator q.rules range.scores range.room)
