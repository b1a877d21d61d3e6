-- From node to node of a condition: what has been written.
use Prim.Native.Nat.{ℕ, ◌+◌, ◌-◌, ◌≤◌, ◌<◌}
use mathlib.Core.Bool.{Bool}
use mathlib.Core.List.{List, [], ◌∷◌, map}
use mathlib.Core.Logic.{⊎_elim}
use mathlib.Core.Path.{◌≡◌, refl, sym, ap, ap₂, ◌∙◌}
use native.Mathlib.Omega.{arith}
use lib.Dec.{ltb}
use lib.ListN.{length, get_or, drop, length-append, length-map, length-drop, drop_of_length-le}
use borrow.Author.Tests.{lt-ltb, le-ltb}
use Rattle.std.specs.List.{sum}
use Rattle.std.proofs.lemmas.List.Sums.{sum_by-cons}
use Rattle.arith.proofs.Order.{le-or-lt}
use Rattle.layout.specs.Records.{Record}
use Rattle.layout.specs.Nodes.{ListedNode, node_records, exclusion_records, listing}
use Rattle.layout.specs.Writing.{put_records}
use Rattle.layout.proofs.WordsBelow.{exclusions-count}
use Rattle.layout.proofs.WritingLaws.{put-append}
use Rattle.peal.specs.Policies.{Condition, Book}
use Rattle.translation.specs.Translation.{pair_mask, listing_records}
use Rattle.text.specs.Codes.{codes_of}
use Rattle.text.specs.declared.expressions.Code.{Code}
use Rattle.text.specs.declared.expressions.Code.TheVariants.{Policy}
use Rattle.compiler.specs.Nodes.{lines_in, coded_node, one_node, nodes_of}
use Rattle.compiler.proofs.NodeLaws.{count-cons, put-cons}
use Rattle.compiler.proofs.CodedNodes.{nodes-count, lines-count, lines-here, node-here}

-- as many records as there are nodes and lines
pub count-nodes : (n : ℕ) (ns : List ListedNode) → length (node_records n ns) ≡ length ns + sum (map lines_in ns)
unfolding node_records
count-nodes n [] = refl
count-nodes n (nd ∷ ns) =
    omega (arith, count-cons n nd ns, count-nodes (n + 1 + lines_in nd) ns, sum_by-cons (λ (k : ℕ). k) (lines_in nd) (map lines_in ns))

module _ (b : Book) (c : Condition) where
  abbrev nodes : List ListedNode
  nodes = nodes_of b c

  -- the records of the nodes from i on, as records `at` and more, end where those of all nodes do, and writing them makes what writing all of them makes
  pub record WrittenTo (first i at : ℕ) (lent words : List ℕ) : Type 0 where
    pub begins : 0 < at
    pub numbers : at + length (node_records at (drop i nodes)) ≡ first + length (node_records first nodes)
    pub leads : put_records words at (node_records at (drop i nodes)) ≡ put_records lent first (node_records first nodes)

  -- the codes, and the counts, as the code has them
  module _ {codes : List (Code ℕ)} (is : codes ≡ codes_of c.expression) {lines : List ℕ} (of_nodes : lines ≡ map lines_in nodes) (i : ℕ) where
    many : length lines ≡ length codes
    many = lines-count b c is of_nodes

    -- no node is left
    pub put-end : length lines ≤ i → {first at : ℕ} {lent words : List ℕ} → WrittenTo first i at lent words → words ≡ put_records lent first (node_records first nodes)
    unfolding put_records node_records
    put-end l {first} {at} {lent} {words} e =
        let none : drop i nodes ≡ [] = drop_of_length-le nodes {i = i} (omega (arith, nodes-count b c is, many)) in
        sym (ap (λ (ns : List ListedNode). put_records words at (node_records at ns)) none) ∙ e.leads

    -- node i
    module _ (h : i < length lines) {first at : ℕ} {lent words : List ℕ} (e : WrittenTo first i at lent words) where
      abbrev x : ℕ
      x = get_or lines i 0

      abbrev node : ListedNode
      node = coded_node b c (get_or codes i (Policy 0))

      counted : x ≡ lines_in node
      counted = lines-here b c is of_nodes i h

      abbrev rest : List ListedNode
      rest = drop (i + 1) nodes

      here : drop i nodes ≡ node ∷ rest
      here = node-here b c is i (omega (arith, many))

      next : at + (1 + x) ≡ at + 1 + lines_in node
      next = omega (arith, counted)

      numbers-turn : at + (1 + x) + length (node_records (at + (1 + x)) rest) ≡ first + length (node_records first nodes)
      numbers-turn =
          omega (
            arith,
            counted,
            e.numbers,
            ap (λ (ns : List ListedNode). length (node_records at ns)) here ∙ count-cons at node rest,
            ap (λ (j : ℕ). length (node_records j rest)) next,
          )

      -- its records are among those of all nodes
      pub node-inside : at + (1 + x) ≤ first + length (node_records first nodes)
      node-inside = omega (arith, numbers-turn)

      more-nodes : ltb 0 (length rest) ≡ ltb (i + 1) (length codes)
      more-nodes =
          let left : length rest ≡ length codes - (i + 1) = length-drop (i + 1) nodes ∙ ap (λ (n : ℕ). n - (i + 1)) (nodes-count b c is) in
          ⊎_elim
          (λ (l : length codes ≤ i + 1). le-ltb 0 (length rest) (omega arith) ∙ sym (le-ltb (i + 1) (length codes) l))
          (λ (l : i + 1 < length codes). lt-ltb 0 (length rest) (omega arith) ∙ sym (lt-ltb (i + 1) (length codes) l))
          (le-or-lt (length codes) (i + 1))

      pub put-turn : {later : List ℕ} → later ≡ put_records words at (one_node at (ltb (i + 1) (length codes)) node) → WrittenTo first (i + 1) (at + (1 + x)) lent later
      put-turn {later} f =
          record {
            begins = omega arith;
            numbers = numbers-turn;
            leads =
                ap (λ (w : List ℕ). put_records w (at + (1 + x)) (node_records (at + (1 + x)) rest)) f
                ∙ ap₂ (λ (more : Bool) (y : ℕ). put_records (put_records words at (one_node at more node)) y (node_records y rest)) (sym more-nodes) next
                ∙ sym (ap (λ (ns : List ListedNode). put_records words at (node_records at ns)) here ∙ put-cons at node rest words)
                ∙ e.leads;
          }

  -- ---- the exclusions before the nodes

  module _ (pairs : ℕ) (same : pairs ≡ length b.exclusions) where
    abbrev masks : List ℕ
    masks = map pair_mask b.exclusions

    masks-count : length masks ≡ pairs
    masks-count = length-map b.exclusions pair_mask ∙ sym same

    -- where the nodes begin
    begins : 1 + length masks ≡ pairs + 1
    begins = omega (arith, masks-count)

    pub listing-count : length (listing_records b c) ≡ pairs + length (node_records (pairs + 1) nodes)
    unfolding listing_records listing nodes_of
    listing-count =
        omega (
          arith,
          exclusions-count 1 masks,
          masks-count,
          length-append (exclusion_records 1 masks) (node_records (1 + length masks) nodes),
          ap (λ (n : ℕ). length (node_records n nodes)) begins,
        )

    pub records-counted : {lines : List ℕ} → lines ≡ map lines_in nodes → {records : ℕ} → records ≡ pairs + length lines + sum lines → records ≡ length (listing_records b c)
    records-counted e f =
        omega (arith, f, listing-count, count-nodes (pairs + 1) nodes, ap length e ∙ length-map nodes lines_in, ap (λ (l : List ℕ). sum l) e)

    pub put-listing : (lent : List ℕ)
        → put_records (put_records lent 1 (exclusion_records 1 masks)) (pairs + 1) (node_records (pairs + 1) nodes) ≡ put_records lent 1 (listing_records b c)
    unfolding listing_records listing nodes_of
    put-listing lent =
        let pairs_first : List Record = exclusion_records 1 masks in
        let a : pairs + 1 ≡ 1 + length pairs_first = omega (arith, exclusions-count 1 masks, masks-count) in
        ap₂ (λ (m n : ℕ). put_records (put_records lent 1 pairs_first) m (node_records n nodes)) a (sym begins)
        ∙ sym (put-append pairs_first (node_records (1 + length masks) nodes) lent 1)
