-- Runs of lines: what stands after the lines that some records begin with.
use Prim.Native.Nat.{ℕ, zero, suc, ◌+◌, ◌*◌, ◌/◌, ◌≤◌, ◌<◌}
use mathlib.Core.Bool.{Bool, true, false, cond}
use mathlib.Core.List.{List, [], ◌∷◌}
use mathlib.Core.Path.{◌≡◌, refl, sym, ap, subst, ◌∙◌}
use native.Mathlib.Nat.{add-zero, zero-add, suc-add}
use native.Mathlib.Omega.{arith}
use lib.ListN.{length, get_or, drop, length-drop}
use Rattle.answers.specs.Answers.{result}
use Rattle.layout.specs.Records.{Record, records, Kind, policy, line, exclusion, unknown, kind_of, is_line, kinds}
use Rattle.layout.specs.Judgement.{if_any, next_node, SoFar, so_far_after, judged}
use Rattle.layout.specs.Nodes.{leading_lines, node_then, nodes}
use Rattle.layout.specs.Steps.{records_from}
use Rattle.layout.proofs.KeptLaws.{sound-step}
use Rattle.layout.proofs.Places.{from_cons, from-nil}

-- the records after the lines that some records begin with
unfoldable pub past_lines : List Record → List Record
past_lines [] = []
past_lines (r ∷ rest) = cond (is_line (kind_of r.kind)) (past_lines rest) (r ∷ rest)

-- they are what is left when the lines are dropped
pub after-drop : (rs : List Record) → drop (length (leading_lines rs)) rs ≡ past_lines rs
unfolding leading_lines past_lines
after-drop [] = refl
after-drop (r ∷ rest) = go (is_line (kind_of r.kind)) (after-drop rest)
  where
    go : (b : Bool) → drop (length (leading_lines rest)) rest ≡ past_lines rest → drop (length (cond b (r.mask ∷ leading_lines rest) [])) (r ∷ rest) ≡ cond b (past_lines rest) (r ∷ rest)
    go true ih = ih
    go false ih = refl

-- no line begins them
pub after-no-line : (rs : List Record) → leading_lines (past_lines rs) ≡ []
unfolding leading_lines past_lines
after-no-line [] = refl
after-no-line (r ∷ rest) = go (is_line (kind_of r.kind)) refl (after-no-line rest)
  where
    go : (b : Bool) → is_line (kind_of r.kind) ≡ b → leading_lines (past_lines rest) ≡ [] → leading_lines (cond b (past_lines rest) (r ∷ rest)) ≡ []
    go true e ih = ih
    go false e ih = rw e refl

-- lines are no nodes
pub after-nodes : (rs : List Record) → nodes (past_lines rs) ≡ nodes rs
unfolding nodes node_then past_lines is_line
after-nodes [] = refl
after-nodes (r ∷ rest) = go (kind_of r.kind) refl (after-nodes rest)
  where
    go : (k : Kind) → kind_of r.kind ≡ k → nodes (past_lines rest) ≡ nodes rest → nodes (cond (is_line k) (past_lines rest) (r ∷ rest)) ≡ node_then k r.mask (leading_lines rest) (nodes rest)
    go line e ih = ih
    go (policy q t) e ih = rw e refl
    go (Kind.join j) e ih = rw e refl
    go exclusion e ih = rw e refl
    go unknown e ih = rw e refl

-- the next node is the first of them
pub after_next : (n : ℕ) (rs : List Record) → next_node n (kinds rs) ≡ if_any (past_lines rs) (n + length (leading_lines rs))
unfolding next_node kinds leading_lines past_lines if_any
after_next n [] = refl
after_next n (r ∷ rest) = go (is_line (kind_of r.kind)) (after_next (n + 1) rest)
  where
    go : (b : Bool) → next_node (n + 1) (kinds rest) ≡ if_any (past_lines rest) (n + 1 + length (leading_lines rest))
        → cond b (next_node (n + 1) (kinds rest)) n ≡ if_any (cond b (past_lines rest) (r ∷ rest)) (n + length (cond b (r.mask ∷ leading_lines rest) []))
    go true ih = ih ∙ ap (λ (m : ℕ). if_any (past_lines rest) m) (omega arith)
    go false ih = sym (add-zero n)

-- lines change nothing of what stands above
pub after-judged : (n : ℕ) (so : SoFar) (rs : List Record) → judged n so rs ≡ result tt → judged (n + length (leading_lines rs)) so (past_lines rs) ≡ result tt
unfolding leading_lines past_lines so_far_after is_line
after-judged n so [] h = rw add-zero h
after-judged n so (r ∷ rest) h = go (kind_of r.kind) (sound-step n so r rest h).1 (λ s. after-judged (n + 1) so rest s)
  where
    go : (k : Kind) → judged (n + 1) (so_far_after so k r) rest ≡ result tt
        → (judged (n + 1) so rest ≡ result tt → judged (n + 1 + length (leading_lines rest)) so (past_lines rest) ≡ result tt)
        → judged (n + length (cond (is_line k) (r.mask ∷ leading_lines rest) [])) so (cond (is_line k) (past_lines rest) (r ∷ rest)) ≡ result tt
    go line s ih = subst (λ (m : ℕ). judged m so (past_lines rest) ≡ result tt) (omega arith) (ih s)
    go (policy q t) s ih = rw add-zero h
    go (Kind.join j) s ih = rw add-zero h
    go exclusion s ih = rw add-zero h
    go unknown s ih = rw add-zero h

-- ---- by index

drop-nil : (n : ℕ) → drop {A = Record} n [] ≡ []
drop-nil zero = refl
drop-nil (suc n) = refl

drop-drop : (n m : ℕ) (l : List Record) → drop m (drop n l) ≡ drop (n + m) l
drop-drop zero m l = rw zero-add refl
drop-drop (suc n) m [] = rw suc-add (drop-nil m)
drop-drop (suc n) m (x ∷ l) = rw suc-add (drop-drop n m l)

pub from-after : (ws : List ℕ) (i : ℕ) → records_from ws (i + length (leading_lines (records_from ws i))) ≡ past_lines (records_from ws i)
unfolding records_from
from-after ws i = sym (drop-drop i (length (leading_lines (drop i (records ws)))) (records ws)) ∙ after-drop (drop i (records ws))

length-records : (ws : List ℕ) → length (records ws) ≡ length ws / 4
unfolding records
length-records [] = refl
length-records (k ∷ []) = omega arith
length-records (k ∷ m ∷ []) = omega arith
length-records (k ∷ m ∷ l ∷ []) = omega arith
length-records (k ∷ m ∷ l ∷ n ∷ ws) = let h : length (records ws) ≡ length ws / 4 = length-records ws in omega arith

leading_length : (rs : List Record) → length (leading_lines rs) ≤ length rs
unfolding leading_lines
leading_length [] = omega arith
leading_length (r ∷ rest) = go (is_line (kind_of r.kind)) (leading_length rest)
  where
    go : (b : Bool) → length (leading_lines rest) ≤ length rest → length (cond b (r.mask ∷ leading_lines rest) []) ≤ suc (length rest)
    go true ih = omega arith
    go false ih = omega arith

-- a run of lines ends within the words
pub run-in-words : (ws : List ℕ) (i : ℕ) → i ≤ length ws / 4 → i + length (leading_lines (records_from ws i)) ≤ length ws / 4
unfolding records_from
run-in-words ws i h =
    let a = leading_length (drop i (records ws)) in
    let b = length-drop i (records ws) in
    let c = length-records ws in
    omega arith

-- the first line of a run, and the rest of it
pub leading-more : (ws : List ℕ) (i : ℕ) → i < length ws / 4 → 0 < length (leading_lines (records_from ws i))
    → leading_lines (records_from ws i) ≡ get_or ws (i * 4 + 1) 0 ∷ leading_lines (records_from ws (i + 1))
unfolding leading_lines
leading-more ws i h l = rw (from_cons ws i h) (go (is_line (kind_of (get_or ws (i * 4) 0))) (rw (from_cons ws i h) at l))
  where
    go : (b : Bool) → 0 < length (cond b (get_or ws (i * 4 + 1) 0 ∷ leading_lines (records_from ws (i + 1))) [])
        → cond b (get_or ws (i * 4 + 1) 0 ∷ leading_lines (records_from ws (i + 1))) [] ≡ get_or ws (i * 4 + 1) 0 ∷ leading_lines (records_from ws (i + 1))
    go true k = refl
    go false k = absurd (omega arith)

-- past the last whole record there is no line
pub leading_end : (ws : List ℕ) (i : ℕ) → length ws / 4 ≤ i → leading_lines (records_from ws i) ≡ []
unfolding leading_lines
leading_end ws i h = rw (from-nil ws i h) refl

-- the nodes from an index on: the node there, with the lines after it, and the nodes after it
pub nodes-here : (ws : List ℕ) (i : ℕ) (k : Kind) → i < length ws / 4 → k ≡ kind_of (get_or ws (i * 4) 0)
    → nodes (records_from ws i) ≡ node_then k (get_or ws (i * 4 + 1) 0) (leading_lines (records_from ws (i + 1))) (nodes (records_from ws (i + 1)))
unfolding nodes
nodes-here ws i k h e = rw (from_cons ws i h, e) refl
