-- Mentions of a policy in an expression: a code for each and for each join, and 8 bytes for each, all together up to 6 fewer.
use Prim.Native.Nat.{ℕ, zero, suc, ◌+◌, ◌*◌, ◌≤◌}
use mathlib.Core.Bool.{Bool, true, false, cond}
use mathlib.Core.List.{List, [], ◌∷◌, ◌++◌}
use mathlib.Core.Option.{Option, none, some}
use mathlib.Core.Path.{◌≡◌, refl, ap}
use native.Mathlib.Omega.{arith}
use lib.ListN.{length, take, drop, length-append, length-drop, length-take}
use Rattle.arith.specs.Trees.{leaf, join, joining}
use Rattle.arith.specs.Leaves.{leaf_count}
use Rattle.arith.proofs.Options.{Finds, finds-that, finds-then, finds-if}
use Rattle.peal.specs.Policies.{MinMax, Expression}
use Rattle.text.specs.Text.{bytes, begins, after}
use Rattle.text.specs.Numbers.{natural}
use Rattle.text.specs.Expressions.{mention_word, min_max_word, digit_count, mention, leading_join, leading_expression, leading_pair, nothing_after, expression}
use Rattle.text.specs.Codes.{codes_of, code_of}
use Rattle.text.specs.declared.expressions.Code.{Code}
use Rattle.text.proofs.CodeLaws.{codes-leaf, codes-join}
use Rattle.text.proofs.NumberLaws.{digits-within, natural-length}
use Rattle.text.proofs.WordLaws.{begins-length}
use Rattle.text.proofs.ExpressionLaws.{join-length, join-begins}

-- ---- mentions and codes

pub codes-count : (e : Expression) → length (codes_of e) + 1 ≡ 2 * leaf_count e
unfolding leaf_count
codes-count (leaf n) = ap (λ (l : List (Code ℕ)). length l + 1) (codes-leaf n)
codes-count (join m a b) =
    omega (arith, codes-count a, codes-count b, ap length (codes-join m a b), length-append (codes_of a) (codes_of b), length-append (codes_of a ++ codes_of b) (code_of (joining m) ∷ []))

-- ---- an expression and the bytes that it takes

abbrev TreeFits : List ℕ → Expression × List ℕ → Type 0
TreeFits s x = 8 * leaf_count x.0 + length x.1 ≤ length s + 6

abbrev PairFits : List ℕ → Expression × Expression × List ℕ → Type 0
PairFits s x = 8 * (leaf_count x.0 + leaf_count x.1) + length x.2 ≤ length s + 9

-- what stands after a word is that much shorter
abbrev Shorter : ℕ → List ℕ → List ℕ → Type 0
Shorter n s t = length t + n ≤ length s

word-shorter : (w s : List ℕ) → begins w s ≡ true → Shorter (length w) s (drop (length w) s)
word-shorter w s h = omega (arith, begins-length w s h, length-drop (length w) s)

after-shorter : (w s : List ℕ) → Finds (Shorter (length w) s) (after w s)
unfolding after
after-shorter w s = finds-if (Shorter (length w) s) (begins w s) (some (drop (length w) s)) (word-shorter w s)

mention-fits : (s t : List ℕ) → Shorter 1 s t → Finds (TreeFits s) (mention t)
unfolding mention leaf_count
mention-fits s t h =
    let digits : List ℕ = take (digit_count t) t in
    finds-then (TreeFits s) (λ (n : ℕ). 1 ≤ length digits) (natural digits) (λ n. some (leaf n, drop (digit_count t) t))
    (finds-that (λ (n : ℕ). 1 ≤ length digits) (natural digits) (λ n e. natural-length digits n e))
    (λ n k. omega (arith, digits-within t, length-take (digit_count t) t, length-drop (digit_count t) t))

-- an expression that begins with `p`, and another one
opened-fits : (s : List ℕ) (o : Option (Expression × List ℕ)) → Finds (TreeFits s) o → Finds (TreeFits s) (cond (begins (bytes "p") s) (mention (drop 1 s)) o)
opened-fits s o h = go (begins (bytes "p") s) (word-shorter (bytes "p") s)
  where
    go : (t : Bool) → (t ≡ true → Shorter 1 s (drop 1 s)) → Finds (TreeFits s) (cond t (mention (drop 1 s)) o)
    go true f = mention-fits s (drop 1 s) (f refl)
    go false f = h

join-shorter : (s : List ℕ) → Finds (λ (m : MinMax). Shorter 3 s (drop (length (min_max_word m)) s)) (leading_join s)
join-shorter s =
    finds-that (λ (m : MinMax). Shorter 3 s (drop (length (min_max_word m)) s)) (leading_join s)
    (λ m e. omega (arith, word-shorter (min_max_word m) s (join-begins s m e), join-length m))

mutual
  unfolding leading_expression mention_word leaf_count

  tree-fits : (k : ℕ) (s : List ℕ) → Finds (TreeFits s) (leading_expression k s)
  tree-fits zero s = tt
  tree-fits (suc k) s =
      opened-fits s _
      (finds-then (TreeFits s) (λ (m : MinMax). Shorter 3 s (drop (length (min_max_word m)) s)) (leading_join s) _ (join-shorter s) (λ m h.
      finds-then (TreeFits s) (PairFits (drop (length (min_max_word m)) s)) (leading_pair k (drop (length (min_max_word m)) s)) _ (pair_fits k (drop (length (min_max_word m)) s)) (λ x i. omega arith)))

  pair_fits : (k : ℕ) (s : List ℕ) → Finds (PairFits s) (leading_pair k s)
  pair_fits zero s = tt
  pair_fits (suc k) s =
      finds-then (PairFits s) (Shorter 1 s) (after (bytes "(") s) _ (after-shorter (bytes "(") s) (λ t h.
      finds-then (PairFits s) (TreeFits t) (leading_expression k t) _ (tree-fits k t) (λ a u.
      finds-then (PairFits s) (Shorter 1 a.1) (after (bytes ",") a.1) _ (after-shorter (bytes ",") a.1) (λ v i.
      finds-then (PairFits s) (TreeFits v) (leading_expression k v) _ (tree-fits k v) (λ b w.
      finds-then (PairFits s) (Shorter 1 b.1) (after (bytes ")") b.1) _ (after-shorter (bytes ")") b.1) (λ x j. omega arith)))))

pub expression-fits : (s : List ℕ) → Finds (λ (e : Expression). 8 * leaf_count e ≤ length s + 6) (expression s)
unfolding expression nothing_after
expression-fits s = go (leading_expression (length s) s) (tree-fits (length s) s)
  where
    go : (o : Option (Expression × List ℕ)) → Finds (TreeFits s) o → Finds (λ (e : Expression). 8 * leaf_count e ≤ length s + 6) (nothing_after o)
    go none h = tt
    go (some (e, [])) h = omega arith
    go (some (e, b ∷ rest)) h = tt
