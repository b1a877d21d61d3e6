-- `vectors::number_at`: each turn takes a digit more.
use Rattle.std.proofs.Common.{ℕ, List, ◌+◌, ◌<◌, ◌≤◌, length, take, drop, rules, arith, sym, ap, ◌∙◌, drop_of_length-le, length-drop}
use Rattle.std.proofs.Math.Seq.{take-length}
use Rattle.vectors.specs.Numbers.{with_digits, after_digits}
use Rattle.vectors.proofs.NumberLaws.{digit-more, digits-more, digits-end, after-more, after-end}
use Rattle.vectors.proofs.number_at.Goals as goal

pub loop-i-preserved : goal.loop-i-preserved
loop-i-preserved c =
    let text : List ℕ = c.args.text.now in
    let i : ℕ = c.loop-i.i in
    let here : i < length text = search rules in
    record {
      value = ap (λ (n : ℕ). with_digits n (drop (i + 1) text)) (digit-more _ _ _ _ c.saturating_mul.ensures c.saturating_add-value.ensures)
          ∙ sym (digits-more c.loop-i.value text i here (search rules)) ∙ c.loop-i.invariant.value;
      rest = sym (after-more text i here (search rules)) ∙ c.loop-i.invariant.rest;
    }

pub returns-then-not-is_ascii_digit-clause-value : goal.returns-then-not-is_ascii_digit-clause-value
returns-then-not-is_ascii_digit-clause-value c =
    sym (digits-end c.loop-i.value c.args.text.now c.loop-i.i (search rules) (search rules)) ∙ c.loop-i.invariant.value

pub returns-then-not-is_ascii_digit-clause-rest : goal.returns-then-not-is_ascii_digit-clause-rest
returns-then-not-is_ascii_digit-clause-rest c =
    let text : List ℕ = c.args.text.now in
    let after : List ℕ = drop (c.loop-i.i + 1) text in
    ap (λ (n : ℕ). take n after) (sym (length-drop (c.loop-i.i + 1) text)) ∙ take-length after
    ∙ sym (after-end text c.loop-i.i (search rules) (search rules)) ∙ c.loop-i.invariant.rest

pub returns-clause-value : goal.returns-clause-value
unfolding with_digits
returns-clause-value c =
    let past : length c.args.text.now ≤ c.loop-i.i = omega arith in
    sym (ap (with_digits c.loop-i.value) (drop_of_length-le c.args.text.now {i = c.loop-i.i} past)) ∙ c.loop-i.invariant.value

pub returns-clause-rest : goal.returns-clause-rest
unfolding after_digits
returns-clause-rest c =
    let past : length c.args.text.now ≤ c.loop-i.i = omega arith in
    sym (ap after_digits (drop_of_length-le c.args.text.now {i = c.loop-i.i} past)) ∙ c.loop-i.invariant.rest
