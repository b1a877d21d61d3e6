-- Expressions (document 01, "The book": E is `p` followed by a policy number, or `min(E,E)`, or `max(E,E)`, nested freely, without spaces).
use Rattle.std.specs.Prelude.{ℕ, zero, suc, cond, List, [], ◌∷◌, length, take, drop}
use Rattle.std.proofs.Math.Option.{Option, none, some}
use Rattle.arith.specs.Options.{◌>>=◌, if◌then◌}
use Rattle.arith.specs.Trees.{leaf, join}
use Rattle.peal.specs.Policies.{MinMax, smaller, larger, Expression}
use Rattle.text.specs.Text.{bytes, begins, after}
use Rattle.text.specs.Numbers.{is_digit, natural}

-- `p`
unfoldable pub mention_word : List ℕ
mention_word = bytes "p"

-- `min`, `max`
unfoldable pub min_max_word : MinMax → List ℕ
min_max_word smaller = bytes "min"
min_max_word larger = bytes "max"

-- how many digits s begins with
unfoldable pub digit_count : List ℕ → ℕ
digit_count [] = 0
digit_count (b ∷ s) = cond (is_digit b) (suc (digit_count s)) 0

-- a policy number at the front of s, as far as its digits go, and the bytes after it
unfoldable pub mention : List ℕ → Option (Expression × List ℕ)
mention s = do
  n ← natural (take (digit_count s) s)
  some (leaf n, drop (digit_count s) s)

-- `min` or `max`, where s begins with it
unfoldable pub leading_join : List ℕ → Option MinMax
leading_join s = cond (begins (min_max_word smaller) s) (some smaller) (if begins (min_max_word larger) s then some larger)

unfoldable mutual
  -- E, also called a set, at the front of s, and the bytes after it; k bounds the depth of the nesting
  pub leading_expression : ℕ → List ℕ → Option (Expression × List ℕ)
  leading_expression zero s = none
  leading_expression (suc k) s = cond (begins mention_word s) (mention (drop (length mention_word) s)) (do
    m ← leading_join s
    (a, b, rest) ← leading_pair k (drop (length (min_max_word m)) s)
    some (join m a b, rest))

  -- `(E,E)` at the front of s: the two, and the bytes after it
  pub leading_pair : ℕ → List ℕ → Option (Expression × Expression × List ℕ)
  leading_pair zero s = none
  leading_pair (suc k) s = do
    opened ← after (bytes "(") s
    (a, at_comma) ← leading_expression k opened
    second ← after (bytes ",") at_comma
    (b, at_end) ← leading_expression k second
    rest ← after (bytes ")") at_end
    some (a, b, rest)

-- nothing stands after the expression
unfoldable pub nothing_after : Option (Expression × List ℕ) → Option Expression
nothing_after none = none
nothing_after (some (e, [])) = some e
nothing_after (some (e, b ∷ s)) = none

-- the expression that a field is; its bytes bound the nesting
unfoldable pub expression : List ℕ → Option Expression
expression s = nothing_after (leading_expression (length s) s)
