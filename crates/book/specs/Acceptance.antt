-- The acceptance of a line (document 01, "Place" and "Ranges" of "The book", refusals 3 to 6; change request 1 for an `x`, 2 for an `o`).
use Rattle.std.specs.Prelude.{ℕ, ◌-◌, Bool, true, false, not, ◌&&◌, ◌||◌, List, [], ◌∷◌, ◌++◌, ltb, eqb, ℤ, pos, length, set}
use Rattle.std.proofs.Math.Option.{Option, none, some}
use Rattle.arith.specs.Lists.{exists}
use Rattle.arith.specs.Trees.{tree_value}
use Rattle.answers.specs.Answers.{Answer, result, require}
use Rattle.peal.specs.Policies.{Rule, Policy, MinMax, Expression, Exclusion, Condition, Book, policy_at}
use Rattle.peal.specs.declared.Operator.{Operator}
use Rattle.peal.specs.declared.Operator.TheVariants.{Min, Max, Sum, Mul}
use Rattle.limits.specs.Limits.{room_for_policy, room_for_condition, room_for_exclusion, signal_in_range, exclusion_in_range, threshold_in_range}
unfoldable pub use Rattle.limits.specs.Limits.{room_for_rule, within, default_in_range, score_in_range}
use Rattle.text.specs.Forms.{Form, old_zero, policy, rule, exclusion, condition}

-- the book so far, whether the line above is a `p` or an `r`, and whether the first line is an `o`
pub record BookSoFar : Type 0 where
  pub book : Book
  pub in_rules : Bool
  pub old_zero : Bool

-- the book with nothing in it
unfoldable pub empty_book : Book
empty_book = record { policies = []; exclusions = []; conditions = [] }

-- before the first line
unfoldable pub no_line : BookSoFar
no_line = record { book = empty_book; in_rules = false; old_zero = false }

-- the policy that a rule is added to, the last one
unfoldable pub last_policy : Book → Policy
last_policy b = policy_at b.policies (length b.policies - 1)

-- no `c` stands above
abbrev pub no_condition : BookSoFar → Bool
no_condition so_far = eqb (length so_far.book.conditions) 0

-- 3: `o` only as line 1; `p` and `x` only before the first `c`; `r` only directly after a `p` or `r`
unfoldable pub in_place : ℕ → BookSoFar → Form → Bool
in_place n so_far old_zero = eqb n 1
in_place n so_far (policy op d) = no_condition so_far
in_place n so_far (rule s v) = so_far.in_rules
in_place n so_far (exclusion a b) = no_condition so_far
in_place n so_far (condition c t e) = true

-- 4: at most 16 policies, 8 conditions, 8 rules in a mul policy, 16 exclusions
unfoldable pub in_count : BookSoFar → Form → Bool
in_count so_far old_zero = true
in_count so_far (policy op d) = room_for_policy (length so_far.book.policies)
in_count so_far (rule s v) = room_for_rule (last_policy so_far.book).operator (length (last_policy so_far.book).rules)
in_count so_far (exclusion a b) = room_for_exclusion (length so_far.book.exclusions)
in_count so_far (condition c t e) = room_for_condition (length so_far.book.conditions)

-- each policy mentioned is one of the first n
unfoldable pub mentions_below : ℕ → Expression → Bool
mentions_below n e = tree_value (λ (m : MinMax) a b. a && b) (λ m. ltb m n) e

-- 5: numbers in range; S, A and B are 0 to 15, and A is not B; T is −200,000 to 200,000; a policy number belongs to a policy above
unfoldable pub in_range : BookSoFar → Form → Bool
in_range so_far old_zero = true
in_range so_far (policy op d) = default_in_range d
in_range so_far (rule s v) = signal_in_range s && score_in_range (last_policy so_far.book).operator v
in_range so_far (exclusion a b) = exclusion_in_range a b
in_range so_far (condition c t e) = threshold_in_range t && mentions_below (length so_far.book.policies) e

-- an exclusion has these two signals, in either order
unfoldable pub excludes : (a b : ℕ) → Exclusion → Bool
excludes a b x = (eqb x.first a && eqb x.second b) || (eqb x.first b && eqb x.second a)

-- 6: a signal occurs at most once in a policy, and a pair at most once in the book
unfoldable pub is_new : BookSoFar → Form → Bool
is_new so_far old_zero = true
is_new so_far (policy op d) = true
is_new so_far (rule s v) = not (exists (λ (q : Rule). eqb q.signal s) (last_policy so_far.book).rules)
is_new so_far (exclusion a b) = not (exists (excludes a b) so_far.book.exclusions)
is_new so_far (condition c t e) = true

-- `p OP` alone: D is 100 for `min` and `mul`, 0 for `max` and `sum`; in a book whose first line is `o` it is 0 for all four
unfoldable pub missing_default : Bool → Operator → ℤ
missing_default true op = pos 0
missing_default false Min = pos 100
missing_default false Max = pos 0
missing_default false Sum = pos 0
missing_default false Mul = pos 100

-- D as it is given, or what it means to leave it out
unfoldable pub default_of : Bool → Operator → Option ℤ → ℤ
default_of old op none = missing_default old op
default_of old op (some d) = d

-- a policy with no rules
abbrev pub no_rules : Operator → ℤ → Policy
no_rules op d = record { operator = op; default = d; rules = [] }

-- the policy with one rule more
unfoldable pub with_rule : Policy → Rule → Policy
with_rule p r = record { operator = p.operator; default = p.default; rules = p.rules ++ (r ∷ []) }

-- the book with other policies
unfoldable pub with_policies : Book → List Policy → Book
with_policies b ps = record { policies = ps; exclusions = b.exclusions; conditions = b.conditions }

-- the book with one policy more
unfoldable pub with_policy : Book → Policy → Book
with_policy b p = with_policies b (b.policies ++ (p ∷ []))

-- the book with its last policy changed
unfoldable pub with_last : Book → Policy → Book
with_last b p = with_policies b (set b.policies (length b.policies - 1) p)

-- the book with one exclusion more
unfoldable pub with_exclusion : Book → Exclusion → Book
with_exclusion b x = record { policies = b.policies; exclusions = b.exclusions ++ (x ∷ []); conditions = b.conditions }

-- the book with one condition more
unfoldable pub with_condition : Book → Condition → Book
with_condition b c = record { policies = b.policies; exclusions = b.exclusions; conditions = b.conditions ++ (c ∷ []) }

-- the book with the line added: a policy, an exclusion or a condition at the end, a rule in the last policy; an `o` adds nothing
unfoldable pub book_with : BookSoFar → Form → Book
book_with so_far old_zero = so_far.book
book_with so_far (policy op d) = with_policy so_far.book (no_rules op (default_of so_far.old_zero op d))
book_with so_far (rule s v) = with_last so_far.book (with_rule (last_policy so_far.book) (record { signal = s; score = v }))
book_with so_far (exclusion a b) = with_exclusion so_far.book (record { first = a; second = b })
book_with so_far (condition c t e) = with_condition so_far.book (record { sense = c; threshold = t; expression = e })

-- an `r` may follow a `p` or an `r`
unfoldable pub opens_rules : Form → Bool
opens_rules old_zero = false
opens_rules (policy op d) = true
opens_rules (rule s v) = true
opens_rules (exclusion a b) = false
opens_rules (condition c t e) = false

-- whether the first line is an `o`, with the line added: an `o` in place is that line, and no other changes it
unfoldable pub old_zero_after : BookSoFar → Form → Bool
old_zero_after so_far old_zero = true
old_zero_after so_far (policy op d) = so_far.old_zero
old_zero_after so_far (rule s v) = so_far.old_zero
old_zero_after so_far (exclusion a b) = so_far.old_zero
old_zero_after so_far (condition c t e) = so_far.old_zero

-- line n of this form: tried in the order 3 to 6, then added
unfoldable pub accept : ℕ → BookSoFar → Form → Answer BookSoFar
accept n so_far f =
    require (in_place n so_far f) 3 n
    (require (in_count so_far f) 4 n
    (require (in_range so_far f) 5 n
    (require (is_new so_far f) 6 n
    (result (record { book = book_with so_far f; in_rules = opens_rules f; old_zero = old_zero_after so_far f })))))
