-- `compiler::exclusions::pair_mask`: the bits of the two signals.
use Prim.Native.Nat.{◌<◌}
use mathlib.Core.List.{[], ◌∷◌}
use native.Mathlib.Omega.{arith}
use Rattle.signals.specs.Sets.{set_of}
use Rattle.signals.proofs.SetOfLaws.{set_below}
use Rattle.translation.specs.Translation.{pair_mask}
use Rattle.compiler.proofs.PairLaws.{pair-small}
use Rattle.compiler.proofs.exclusions.pair_mask.Goals as goal

pub overflow_add-result : goal.overflow_add-result
overflow_add-result c =
    let x = c.args.exclusion in
    let small = pair-small x c.requires in
    let first : x.first < 16 = omega (arith, small) in
    let second : x.second < 16 = omega (arith, small) in
    omega (arith, set_below 16 (x.first ∷ []) (first, tt) (tt, tt), set_below 16 (x.second ∷ []) (second, tt) (tt, tt))

pub returns : goal.returns
unfolding pair_mask set_of
returns c = omega (arith, c.bit.ensures, c.bit-2.ensures)
