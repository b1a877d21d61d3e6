-- The record of a mention fits a sound listing.
use Prim.Native.Nat.{ℕ}
use mathlib.Core.List.{List, [], ◌∷◌, map}
use lib.IntN.{ℤ}
use Rattle.arith.specs.Members.{Each}
use Rattle.arith.proofs.Members.{each_in}
use Rattle.layout.specs.WellFormed.{LinesFit, PolicyFits}
use Rattle.peal.specs.Policies.{Rule, Policy, mask_of}
use Rattle.peal.specs.Lines.{lines}
use Rattle.peal.specs.MasksDecide.{SignalsFit}
use Rattle.peal.specs.declared.Sense.{Sense}
use Rattle.peal.proofs.MaskLaws.{mask_fits, MaskFits, mask-of-line}
use Rattle.translation.specs.Translation.{listed}

lines_fit : (mask : ℕ) (ls : List (List Rule)) → Each (MaskFits mask) ls → LinesFit mask (map mask_of ls)
lines_fit mask [] h = tt
lines_fit mask (L ∷ ls) h = (h.0.0, h.0.1, lines_fit mask ls h.1)

pub listed-fits : (s : Sense) (t : ℤ) (p : Policy) → SignalsFit p.rules → PolicyFits (listed s t p)
unfolding listed
listed-fits s t p h =
    let ls = lines p.operator t p.rules in
    record {
      mask_fits = mask_fits p.rules h;
      lines_fit = lines_fit (mask_of p.rules) ls (each_in (MaskFits (mask_of p.rules)) ls (mask-of-line p.operator t p.rules h));
    }
