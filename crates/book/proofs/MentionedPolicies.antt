-- Which policies the codes of an expression mention: those below a number.
use Prim.Native.Nat.{ℕ, ◌≤◌, ◌<◌}
use mathlib.Core.Bool.{true, ◌&&◌, and_assoc, and-true}
use mathlib.Core.List.{List, [], ◌∷◌, ◌++◌}
use mathlib.Core.Path.{◌≡◌, refl, sym, ap, subst, ◌∙◌}
use native.Mathlib.Omega.{arith}
use lib.Dec.{ltb}
use lib.ListN.{length, get_or}
use borrow.Author.Tests.{ltb-true}
use Rattle.arith.specs.Lists.{every}
use Rattle.arith.specs.Members.{Each}
use Rattle.arith.specs.Trees.{joining, leaf, join, tree_value}
use Rattle.arith.proofs.Each.{each-get}
use Rattle.arith.proofs.Tests.{and_left, and_right}
use Rattle.arith.proofs.Members.{each-every}
use Rattle.peal.specs.Policies.{MinMax, smaller, larger, Expression}
use Rattle.text.specs.Codes.{code_of, codes_of, expression_of, AreCodes}
use Rattle.text.specs.declared.expressions.Code.{Code}
use Rattle.text.specs.declared.expressions.Code.TheVariants.{Min, Max, Policy}
use Rattle.text.proofs.CodeLaws.{codes-leaf, codes-join}
use Rattle.book.specs.Acceptance.{mentions_below}
use Rattle.book.specs.Judged.{code_below}
use Rattle.book.specs.SoFar.{SmallCode}

every_append : (n : ℕ) (a b : List (Code ℕ)) → every (code_below n) (a ++ b) ≡ (every (code_below n) a && every (code_below n) b)
every_append n [] b = refl
every_append n (c ∷ a) b = rw (every_append n a b) (sym (and_assoc (code_below n c) (every (code_below n) a) (every (code_below n) b)))

join-below : (m : MinMax) (n : ℕ) → code_below n (code_of (joining m)) ≡ true
unfolding code_of
join-below smaller n = refl
join-below larger n = refl

pub codes-below : (n : ℕ) (e : Expression) → every (code_below n) (codes_of e) ≡ mentions_below n e
unfolding mentions_below tree_value
codes-below n (leaf m) = rw (codes-leaf m) (and-true (ltb m n))
codes-below n (join j a b) =
    rw (codes-join j a b, every_append n (codes_of a ++ codes_of b) (code_of (joining j) ∷ []), every_append n (codes_of a) (codes_of b), join-below j n, codes-below n a, codes-below n b)
    (and-true (tree_value (λ (m : MinMax) x y. x && y) (λ m. ltb m n) a && tree_value (λ (m : MinMax) x y. x && y) (λ m. ltb m n) b))

-- a mention is of one of the first n policies
pub mention-below : (e : Expression) (i n k : ℕ) → i < length (codes_of e) → mentions_below n e ≡ true → get_or (codes_of e) i Min ≡ Policy k → k < n
mention-below e i n k h m is =
    let l = codes_of e in
    let below : code_below n (get_or l i Min) ≡ true = each-get (λ (y : Code ℕ). code_below n y ≡ true) l i Min (each-every (code_below n) l (codes-below n e ∙ m)) h in
    ltb-true k n (subst (λ (y : Code ℕ). code_below n y ≡ true) is below)

-- ---- such codes have small numbers, where n is one that a book allows

small-code : (n : ℕ) → n ≤ 16 → (c : Code ℕ) → code_below n c ≡ true → SmallCode c
small-code n few Min h = tt
small-code n few Max h = tt
small-code n few (Policy k) h = omega (arith, ltb-true k n h)

all-small : (n : ℕ) → n ≤ 16 → (codes : List (Code ℕ)) → every (code_below n) codes ≡ true → Each SmallCode codes
all-small n few [] h = tt
all-small n few (c ∷ codes) h =
    (small-code n few c (and_left (code_below n c) (every (code_below n) codes) h), all-small n few codes (and_right (code_below n c) (every (code_below n) codes) h))

pub codes-small : (n : ℕ) → n ≤ 16 → (codes : List (Code ℕ)) → AreCodes codes → mentions_below n (expression_of codes) ≡ true → Each SmallCode codes
codes-small n few codes are m = all-small n few codes (ap (every (code_below n)) are ∙ codes-below n (expression_of codes) ∙ m)
