-- The records of nodes, one node after the other.
use Prim.Native.Nat.{ℕ, suc, ◌+◌}
use mathlib.Core.Bool.{Bool, cond}
use mathlib.Core.List.{List, [], ◌∷◌, ◌++◌, map}
use mathlib.Core.Path.{◌≡◌, refl, sym, ap, ◌∙◌}
use native.Mathlib.Omega.{arith}
use lib.Dec.{ltb}
use lib.IntN.{ℤ}
use lib.ListN.{length, length-append, length-map}
use borrow.Author.Tests.{lt-ltb}
use Rattle.arith.specs.Trees.{value, joining}
use Rattle.layout.specs.Records.{Record, join_kind, policy_kind}
use Rattle.layout.specs.Judgement.{if_any}
use Rattle.layout.specs.Nodes.{ListedNode, line_records, node_records}
use Rattle.layout.specs.Writing.{put_record, put_records}
use Rattle.layout.proofs.WordsBelow.{lines-count}
use Rattle.layout.proofs.WritingLaws.{put-append}
use Rattle.peal.specs.Policies.{Policy, mask_of}
use Rattle.peal.specs.declared.Sense.{Sense}
use Rattle.translation.specs.Translation.{quiet, turned, listed}
use Rattle.compiler.specs.Searching.{lines_of}
use Rattle.compiler.specs.Nodes.{lines_in, one_node}

pub if-any : {A : Type 0} (xs : List A) (n : ℕ) → cond (ltb 0 (length xs)) n 0 ≡ if_any xs n
unfolding if_any
if-any [] n = refl
if-any (x ∷ xs) n = rw (lt-ltb 0 (suc (length xs)) (omega arith))

node-cons : (n : ℕ) (nd : ListedNode) (ns : List ListedNode)
    → node_records n (nd ∷ ns) ≡ one_node n (ltb 0 (length ns)) nd ++ node_records (n + 1 + lines_in nd) ns
unfolding node_records one_node lines_in
node-cons n (value p) ns = rw (if-any ns (n + 1 + length p.lines))
node-cons n (joining j) ns =
    let e : n + 1 ≡ n + 1 + 0 = omega arith in
    rw (if-any ns (n + 1)) (ap (λ (k : ℕ). record { kind = join_kind j; mask = 0; lines = 0; next = if_any ns (n + 1) } ∷ node_records k ns) e)

node-length : (n : ℕ) (more : Bool) (nd : ListedNode) → length (one_node n more nd) ≡ 1 + lines_in nd
unfolding one_node lines_in
node-length n more (value p) = omega (arith, lines-count (n + 1) p.lines)
node-length n more (joining j) = refl

module _ (n : ℕ) (nd : ListedNode) (ns : List ListedNode) where
  pub count-cons : length (node_records n (nd ∷ ns)) ≡ 1 + lines_in nd + length (node_records (n + 1 + lines_in nd) ns)
  count-cons =
      let one = one_node n (ltb 0 (length ns)) nd in
      let rest = node_records (n + 1 + lines_in nd) ns in
      ap length (node-cons n nd ns) ∙ omega (arith, length-append one rest, node-length n (ltb 0 (length ns)) nd)

  pub put-cons : (w : List ℕ)
      → put_records w n (node_records n (nd ∷ ns)) ≡ put_records (put_records w n (one_node n (ltb 0 (length ns)) nd)) (n + 1 + lines_in nd) (node_records (n + 1 + lines_in nd) ns)
  put-cons w =
      let one = one_node n (ltb 0 (length ns)) nd in
      let rest = node_records (n + 1 + lines_in nd) ns in
      let e : n + length one ≡ n + 1 + lines_in nd = omega (arith, node-length n (ltb 0 (length ns)) nd) in
      ap (put_records w n) (node-cons n nd ns) ∙ put-append one rest w n ∙ ap (λ (k : ℕ). put_records (put_records w n one) k rest) e

-- ---- a mention, from the numbers that the code has

module _ (s : Sense) (t : ℤ) (p : Policy) {count : ℕ} (counted : count ≡ length (lines_of t p)) (at : ℕ) (more : Bool) where
  abbrev masks : List ℕ
  masks = map mask_of (lines_of t p)

  -- the record of the mention, which has so many lines
  abbrev first : ℕ → Record
  first size =
      record {
        kind = policy_kind (quiet s t p) (turned s p.operator);
        mask = mask_of p.rules;
        lines = cond (ltb 0 size) (at + 1) 0;
        next = cond more (at + 1 + size) 0;
      }

  pub put-mention : (w : List ℕ) (r : Record) → r ≡ first count
      → put_records (put_record w at r) (at + 1) (line_records (at + 1) masks) ≡ put_records w at (one_node at more (value (listed s t p)))
  unfolding put_records one_node listed
  put-mention w r e =
      let size : count ≡ length masks = counted ∙ sym (length-map (lines_of t p) mask_of) in
      ap (λ (y : Record). put_records (put_record w at y) (at + 1) (line_records (at + 1) masks)) (e ∙ ap first size) ∙ rw (if-any masks (at + 1))
