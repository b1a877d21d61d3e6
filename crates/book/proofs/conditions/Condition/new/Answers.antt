-- `book::conditions::Condition::new`: an expression has one mention more than joins, and a code for each.
use Rattle.std.proofs.Common.{◌≡◌, ℕ, ◌+◌, ◌*◌, ◌/◌, List, length, take, ap, sym, subst, ◌∙◌, arith}
use mathlib.Core.Path.{ap₂}
use lib.IntN.{ℤ}
use mir.Syntax.{w32}
use mir.ValLaws.{to_z-of_z}
use Rattle.text.specs.Codes.{expression_of, AreCodes}
use Rattle.text.specs.declared.expressions.Code.{Code}
use Rattle.text.proofs.MentionLaws.{codes-count}
use Rattle.book.specs.SoFar.{condition_of}
use Rattle.book.proofs.conditions.Condition.new.Goals as goal

odd : (codes : List (Code ℕ)) → AreCodes codes → 2 * (length codes / 2) + 1 ≡ length codes
odd codes h = omega (arith, ap length h, codes-count (expression_of codes))

whole : (codes kept : List (Code ℕ)) → AreCodes codes → take (length codes) kept ≡ codes → take (2 * (length codes / 2) + 1) kept ≡ codes
whole codes kept h e = ap (λ (n : ℕ). take n kept) (odd codes h) ∙ e

pub invariant_of-result : goal.invariant_of-result
invariant_of-result c =
    (omega (arith, odd c.args.codes.now c.requires.are, c.requires.kept.few), subst AreCodes (sym (whole c.args.codes.now _ c.requires.are c.kept_codes.ensures)) c.requires.are)

pub returns : goal.returns
returns c =
    ap₂ (λ (t : ℤ) (l : List (Code ℕ)). condition_of c.args.sense t l)
    (to_z-of_z w32 c.args.threshold c.ranges.threshold) (whole c.args.codes.now _ c.requires.are c.kept_codes.ensures)
