-- `vectors::numbers`: each turn takes a number, and the others are read of the rest.
use Rattle.std.proofs.Common.{rules, ap, ◌∙◌}
use Rattle.vectors.specs.Numbers.{first_numbers}
use Rattle.vectors.proofs.NumberLaws.{one-taken, none-left, no-room, space-dropped}
use Rattle.vectors.proofs.numbers.Goals as goal

pub loop-numbers-preserved : goal.loop-numbers-preserved
loop-numbers-preserved g c =
    record {
      room = search rules;
      read = one-taken g.row.N _ _ _ c.loop-numbers.invariant.read _ _ _ (search rules) (search rules) c.push.ensures.items c.number_at-number.ensures.value
          c.number_at-number.ensures.rest;
    }

pub returns-else-not-is_full-clause-read : goal.returns-else-not-is_full-clause-read
returns-else-not-is_full-clause-read g c =
    no-room g.row.N _ _ _ c.loop-numbers.invariant.read (search rules)
    ∙ ap (first_numbers g.row.N) (ap (λ text. text.now) c.unwrap_or-rest.ensures ∙ space-dropped (λ text. text.now) c.args.text c.after_word.result c.after_word.ensures.follows c.after_word.ensures.none)

pub returns-after-loop-numbers-clause-read : goal.returns-after-loop-numbers-clause-read
returns-after-loop-numbers-clause-read g c =
    none-left g.row.N _ _ _ c.loop-numbers.invariant.read (search rules)
    ∙ ap (first_numbers g.row.N) (ap (λ text. text.now) c.unwrap_or-rest.ensures ∙ space-dropped (λ text. text.now) c.args.text c.after_word.result c.after_word.ensures.follows c.after_word.ensures.none)
