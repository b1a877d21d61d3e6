-- `exports::cerahupo_decide`: the logger's answer, packed.
use mathlib.Core.Path.{refl}
use native.Mathlib.Omega.{arith}
use Rattle.layout.specs.Records.{one_if}
use Rattle.book.specs.Meaning.{condition_answer}
use Rattle.exports.proofs.BookRefusals.{deciding}
use Rattle.exports.proofs.Returned.{value-fits, packed-as}
use Rattle.exports.proofs.cerahupo_decide.Goals as goal

pub told-requires : goal.told-requires
told-requires c = value-fits condition_answer (λ x. refl) (λ e. refl) _ c.decide.ensures (deciding _ _ _) (omega arith)

pub returns : goal.returns
returns c = packed-as condition_answer (λ x. refl) (λ e. refl) one_if _ c.decide.ensures c.told.ensures
