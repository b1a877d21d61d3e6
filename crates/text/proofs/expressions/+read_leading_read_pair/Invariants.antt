-- `text::expressions::read_leading` and `text::expressions::read_pair`: each call begins at least one byte further on.
use Rattle.std.proofs.Common.{◌-◌, length}
use Rattle.text.proofs.expressions.+read_leading_read_pair.Given as goal

-- the bytes not yet read
abbrev pub decreases-read_leading : goal.decreases-read_leading
decreases-read_leading l = length l.line.now - l.at

abbrev pub decreases-read_pair : goal.decreases-read_pair
decreases-read_pair l = length l.line.now - l.at
