-- `compiler::nodes::join_kind`: a code and a sense at a time.
use Rattle.layout.specs.Records.{join_kind}
use Rattle.translation.specs.Translation.{join_of}
use Rattle.compiler.proofs.CodedNodes.{is-larger, is-smaller}
use Rattle.compiler.proofs.nodes.join_kind.Goals as goal

pub returns-in-Above : goal.returns-in-Above
unfolding join_kind join_of
returns-in-Above c m e = rw (c.in-Above.is, is-larger m e c.in-Max.is)

pub returns-in-AtMost : goal.returns-in-AtMost
unfolding join_kind join_of
returns-in-AtMost c m e = rw (c.in-AtMost.is, is-larger m e c.in-Max.is)

pub returns-in-Above-sense : goal.returns-in-Above-sense
unfolding join_kind join_of
returns-in-Above-sense c m e = rw (c.in-Above-sense.is, is-smaller m e c.in_default.not-Max)

pub returns-in-AtMost-sense : goal.returns-in-AtMost-sense
unfolding join_kind join_of
returns-in-AtMost-sense c m e = rw (c.in-AtMost-sense.is, is-smaller m e c.in_default.not-Max)
