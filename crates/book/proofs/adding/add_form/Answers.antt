-- `book::adding::add_form`: each form by the function that adds it; a condition without an expression is refused.
use Rattle.std.proofs.Common.{◌≡◌, ◌∙◌, rules}
use mir.Syntax.{w32}
use mir.Val.{SFits, to_z, of_z}
use mir.ValLaws.{to_z-of_z}
use Rattle.text.proofs.CodeLaws.{are-codes, expression-again}
use Rattle.text.proofs.ExpressionLaws.{codes-found}
use Rattle.book.specs.Books.{accept_form}
use Rattle.book.proofs.AddingLaws.{bare_policy}
use Rattle.book.proofs.adding.add_form.Goals as goal

pub add_condition-requires : goal.add_condition-requires
add_condition-requires c =
    record {
      bounded = c.requires.bounded;
      few = c.deref.ensures.1;
      are = let x = codes-found _ _ c.read_codes.ensures c.if-not-read_codes.false in rw (c.deref.ensures.0, x.same) (are-codes x.tree);
    }

pub returns-in-BarePolicy : goal.returns-in-BarePolicy
unfolding accept_form
returns-in-BarePolicy c =
    let fits : SFits w32 c.missing_default-default.result = search rules in
    λ n top. rw c.in-BarePolicy.is ((rw (to_z-of_z w32 _ fits, c.missing_default-default.ensures) at (c.add_policy-in-BarePolicy.ensures n)) ∙ bare_policy n _ _)

pub returns-else-not-read_codes : goal.returns-else-not-read_codes
unfolding accept_form
returns-else-not-read_codes c =
    let x = codes-found _ _ c.read_codes.ensures c.if-not-read_codes.false in
    let same : to_z w32 (of_z w32 c.in-Condition.threshold) ≡ c.in-Condition.threshold = search rules in
    λ n top. rw (c.in-Condition.is, x.found) (rw (same, c.deref.ensures.0, x.same, expression-again x.tree) at (c.add_condition.ensures n))
