-- `exports::choice_value`: each choice by its value.
use Rattle.exports.specs.Packing.{choice_value}
use Rattle.exports.proofs.choice_value.Goals as goal

pub returns-in-Always-clause-value : goal.returns-in-Always-clause-value
unfolding choice_value
returns-in-Always-clause-value c = cc

pub returns-in-Never-clause-value : goal.returns-in-Never-clause-value
unfolding choice_value
returns-in-Never-clause-value c = cc

pub returns-in-Both-clause-value : goal.returns-in-Both-clause-value
unfolding choice_value
returns-in-Both-clause-value c = cc
