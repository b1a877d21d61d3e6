-- `text::bytes::digits_end`: the bytes taken are those from the place on that are digits.
use Rattle.std.proofs.Common.{◌+◌, drop, rules, tests, ap, sym, ◌∙◌}
use Rattle.std.proofs.lemmas.Iterator.{YieldsList-from_slice}
use Rattle.std.proofs.lemmas.Iterator.Consumers.{count_from_yields_List}
use Rattle.std.proofs.lemmas.Iterator.Search.{YieldsList-from_take_while}
use Rattle.std.proofs.lemmas.List.Folds.{length-prefix_len}
use Rattle.text.specs.Numbers.{is_digit}
use Rattle.text.proofs.NumberLaws.{count_prefix}
use Rattle.text.proofs.TextLaws.{drop-part}
use Rattle.text.proofs.bytes.digits_end.Goals as goal

pub returns : goal.returns
returns c =
    let s = c.args.bytes.now in
    let i = c.args.at in
    let part = drop-part s i in
    ap (i +◌)
    (count_from_yields_List _ _ c.count.ensures.ran
    (YieldsList-from_take_while _ is_digit (YieldsList-from_slice (drop i s) cc) c.take_while.ensures.closure c.take_while.ensures.done (λ x b q k. search (rules, tests)))
    ∙ length-prefix_len is_digit (drop i s)
    ∙ sym (count_prefix (drop i s)))
