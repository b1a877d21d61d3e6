-- `vectors::numbers`: each turn takes a number, and the others are read of the rest.
use Rattle.std.proofs.Common.{◌≡◌, ◌-◌, ◌≤◌, ◌++◌}
use Rattle.arrayvec.specs.ArrayVec.{array_vec_len}
use Rattle.vectors.specs.Numbers.{first_numbers}
use Rattle.vectors.proofs.numbers.Given as goal

abbrev pub invariant-loop-numbers : goal.invariant-loop-numbers
invariant-loop-numbers g l =
    record {
      room : array_vec_len l.numbers ≤ g.row.N;
      read : l.numbers.items ++ first_numbers (g.row.N - array_vec_len l.numbers) l.rest ≡ first_numbers g.row.N l.initial.rest;
    }

abbrev pub decreases-loop-numbers : goal.decreases-loop-numbers
decreases-loop-numbers g l = g.row.N - array_vec_len l.numbers
