-- `groups::add_mask`: at one set, by block and bit, or nowhere.
use Prim.Native.Nat.{◌%◌, ◌^◌}
use mathlib.Core.Bool.{Bool, cond}
use mathlib.Core.Path.{sym, ap, ◌∙◌}
use native.Mathlib.Omega.{arith}
use Rattle.arith.proofs.Bits.{bit_is}
use Rattle.groups.proofs.AddedLaws.{mask-added, mask-left}
use Rattle.groups.proofs.add_mask.Goals as goal

pub returns-then-is_within : goal.returns-then-is_within
returns-then-is_within c =
    let w = c.before.before in
    mask-added _ _ _ w.told-table _
    (bit_is (w.args.mask % 64) 64 (omega arith) ∙ sym (ap (λ (t : Bool). cond t (2 ^ (w.args.mask % 64)) 0) (sym w.is_within.ensures ∙ c.if-is_within.true)))

pub returns-else-is_within : goal.returns-else-is_within
returns-else-is_within c = let w = c.before in mask-left _ _ _ w.told-table (sym w.is_within.ensures ∙ c.if-is_within.false)
