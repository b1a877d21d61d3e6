-- `vectors::number_at`: the rest of the text, after the number so far, is read as the whole of it.
use Rattle.std.proofs.Common.{◌≡◌, drop}
use Rattle.vectors.specs.Numbers.{with_digits, after_digits}
use Rattle.vectors.proofs.number_at.Given as goal

abbrev pub invariant-loop-i : goal.invariant-loop-i
invariant-loop-i l =
    record {
      value : with_digits l.value (drop l.i l.text) ≡ with_digits 0 l.text;
      rest : after_digits (drop l.i l.text) ≡ after_digits l.text;
    }
