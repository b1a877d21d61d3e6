-- `exports::cerahupo_read`: the rod's answer, packed.
use mathlib.Core.Path.{refl}
use native.Mathlib.Omega.{arith}
use Rattle.layout.specs.Meaning.{listing_answer}
use Rattle.layout.specs.Records.{one_if}
use Rattle.exports.proofs.ListingRefusals.{rod-reading}
use Rattle.exports.proofs.Returned.{value-fits, packed-as}
use Rattle.exports.proofs.cerahupo_read.Goals as goal

pub told-requires : goal.told-requires
told-requires c = value-fits listing_answer (λ x. refl) (λ e. refl) _ c.decide.ensures (rod-reading _ _) (omega arith)

pub returns : goal.returns
returns c = packed-as listing_answer (λ x. refl) (λ e. refl) one_if _ c.decide.ensures c.told.ensures
