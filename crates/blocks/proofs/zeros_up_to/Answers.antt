-- `blocks::zeros_up_to`: turned over, the word's bits after the last are moved out of it, and the ones counted.
use Prim.Native.Nat.{ℕ, ◌+◌, ◌-◌, ◌*◌, ◌%◌, ◌^◌}
use mathlib.Core.Bool.{not}
use mathlib.Core.Path.{◌≡◌, ap, ◌∙◌}
use native.Mathlib.Omega.{arith}
use lib.Count.{ones}
use Rattle.arith.proofs.Counts.{count_same}
use Rattle.signals.specs.Sets.{present}
use Rattle.signals.proofs.BitLaws.{present-not, ones-shift}
use Rattle.blocks.proofs.zeros_up_to.Goals as goal

pub returns : goal.returns
returns c =
    let last = c.args.last in
    let word = c.args.word in
    let width : 64 ≡ last + 1 + (63 - last) = omega (arith, c.requires) in
    ap (λ (k : ℕ). ones ((2 ^ 64 - 1 - word) * 2 ^ (63 - last) % 2 ^ k)) width
    ∙ ones-shift (last + 1) (63 - last) (2 ^ 64 - 1 - word)
    ∙ count_same _ (λ j. not (present word j)) (last + 1) (λ j l. present-not 64 word j (omega arith) (omega (arith, c.requires)))
