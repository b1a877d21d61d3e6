-- `layout::writing::put_record`: its four words are a row.
use Prim.Native.Nat.{◌-◌, ◌*◌}
use mathlib.Core.List.{[], ◌∷◌}
use Rattle.arith.proofs.Rows.{first-stored}
use Rattle.layout.specs.Records.{words}
use Rattle.layout.specs.Writing.{put_record}
use Rattle.layout.proofs.writing.put_record.Goals as goal

pub returns : goal.returns
unfolding put_record words
returns c = let a = c.args in let r = a.«record» in first-stored a.words.now ((a.n - 1) * 4) r.kind (r.mask ∷ r.lines ∷ r.next ∷ [])
