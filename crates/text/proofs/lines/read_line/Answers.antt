-- `text::lines::read_line`: the fields are those that were cut off, and what is left.
use mathlib.Core.Path.{sym, ap, ◌∙◌}
use native.Mathlib.Omega.{arith}
use Rattle.text.specs.Forms.{form_of, form}
use Rattle.text.proofs.FieldLaws.{two-fields, three-fields, fourth-in, four-fields, five-fields}
use Rattle.text.proofs.lines.read_line.Goals as goal

pub returns-in_default : goal.returns-in_default
unfolding form
returns-in_default c =
    let r = c.one_field.ensures _ in
    (r.0 ∙ ap form_of (sym c.in_default.ensures), r.1)

pub returns-in_default-first_field : goal.returns-in_default-first_field
unfolding form
returns-in_default-first_field c =
    let r = c.two_fields.ensures _ in
    (r.0 ∙ ap form_of (sym (two-fields c.in-Some.ensures c.in_default-first_field.ensures)), r.1)

pub returns-in_default-first_field-2 : goal.returns-in_default-first_field-2
unfolding form
returns-in_default-first_field-2 c =
    let r = c.three_fields.ensures _ in
    (r.0 ∙ ap form_of (sym (three-fields c.in-Some.ensures c.in-Some-first_field.ensures c.in_default-first_field-2.ensures)), r.1)

pub returns-in-None : goal.returns-in-None
unfolding form
returns-in-None c =
    let a = c.in-Some.ensures in
    let b = c.in-Some-first_field.ensures in
    let d = c.in-Some-first_field-2.ensures in
    let r = c.four_fields.ensures c.args.line.now (omega (arith, fourth-in a b d)) (omega arith) in
    (r.0 ∙ ap form_of (sym (four-fields a b d c.in-None.ensures)), r.1)

pub returns-in-Some-first_field-3 : goal.returns-in-Some-first_field-3
unfolding form form_of
returns-in-Some-first_field-3 c =
    let fs = five-fields c.in-Some.ensures c.in-Some-first_field.ensures c.in-Some-first_field-2.ensures c.in-Some-first_field-3.ensures in
    (rw fs.2, tt)
