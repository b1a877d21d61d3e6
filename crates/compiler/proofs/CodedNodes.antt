-- The nodes of a condition, by the codes of its expression.
use Prim.Native.Nat.{ℕ, suc, ◌+◌, ◌*◌, ◌≤◌, ◌<◌}
use mathlib.Core.List.{List, [], ◌∷◌, ◌++◌, map, map-append}
use mathlib.Core.Path.{◌≡◌, refl, sym, ap, subst, ◌∙◌}
use native.Mathlib.Numerals.{add-one}
use native.Mathlib.Omega.{arith}
use lib.ListN.{length, get_or, drop, length-map, get_or-map}
use lib.Seq.{drop-cons}
use Rattle.std.specs.List.{sum}
use Rattle.std.proofs.lemmas.List.{get_or_default}
use Rattle.std.proofs.lemmas.List.Sums.{sum_by-cons}
use Rattle.arith.specs.Trees.{leaf, join, joining, postfix, map_tree, tree_value}
use Rattle.layout.specs.Nodes.{ListedNode}
use Rattle.peal.specs.Policies.{MinMax, smaller, larger, Expression, Policy as PealPolicy, Condition, Book, empty_policy, policy_at, mask_of}
use Rattle.peal.proofs.LineLaws.{lines-are-few}
use Rattle.translation.specs.Translation.{join_of, listed, translated}
use Rattle.text.specs.Codes.{code_of, codes_of}
use Rattle.text.specs.declared.expressions.Code.{Code}
use Rattle.text.specs.declared.expressions.Code.TheVariants.{Min, Max, Policy}
use Rattle.text.proofs.MentionLaws.{codes-count}
use Rattle.book.specs.Ranges.{ConditionInRange, BookInRange}
use Rattle.book.proofs.MentionedPolicies.{mention-below}
use Rattle.book.proofs.RangeLaws.{rules-at-most, policy-in-range}
use Rattle.compiler.specs.Searching.{lines_of}
use Rattle.compiler.specs.Nodes.{nodes_of, coded_node, CodeKept, lines_in, most_lines}

module _ (b : Book) (c : Condition) where
  -- ---- the nodes of the listing are those of the codes

  joined : (m : MinMax) → coded_node b c (code_of (joining m)) ≡ joining (join_of c.sense m)
  unfolding code_of
  joined smaller = refl
  joined larger = refl

  tree-nodes : (e : Expression) → postfix (map_tree (join_of c.sense) (λ n. listed c.sense c.threshold (policy_at b.policies n)) e) ≡ map (coded_node b c) (codes_of e)
  unfolding postfix map_tree tree_value code_of codes_of
  tree-nodes (leaf n) = refl
  tree-nodes (join m x y) =
      rw (
        tree-nodes x,
        tree-nodes y,
        map-append code_of (postfix x) (postfix y ++ (joining m ∷ [])),
        map-append code_of (postfix y) (joining m ∷ []),
        map-append (coded_node b c) (map code_of (postfix x)) (map code_of (postfix y) ++ (code_of (joining m) ∷ [])),
        map-append (coded_node b c) (map code_of (postfix y)) (code_of (joining m) ∷ []),
        joined m,
      )

  nodes-coded : nodes_of b c ≡ map (coded_node b c) (codes_of c.expression)
  unfolding nodes_of translated
  nodes-coded = tree-nodes c.expression

  -- how many lines the node of a code has
  abbrev pub lines_at : Code ℕ → ℕ
  lines_at code = lines_in (coded_node b c code)

  map-lines : (codes : List (Code ℕ)) → map lines_in (map (coded_node b c) codes) ≡ map lines_at codes
  map-lines [] = refl
  map-lines (x ∷ xs) = ap (λ (l : List ℕ). lines_at x ∷ l) (map-lines xs)

  -- the codes as the code has them
  module _ {codes : List (Code ℕ)} (is : codes ≡ codes_of c.expression) where
    pub nodes-count : length (nodes_of b c) ≡ length codes
    nodes-count = ap length (nodes-coded ∙ ap (map (coded_node b c)) (sym is)) ∙ length-map codes (coded_node b c)

    pub lines-coded : map lines_at codes ≡ map lines_in (nodes_of b c)
    lines-coded = sym (map-lines codes) ∙ ap (map lines_in) (ap (map (coded_node b c)) is ∙ sym nodes-coded)

    -- the counts, one for each code
    module _ {lines : List ℕ} (counted : lines ≡ map lines_in (nodes_of b c)) where
      same-lines : lines ≡ map lines_at codes
      same-lines = counted ∙ sym lines-coded

      pub lines-count : length lines ≡ length codes
      lines-count = ap length same-lines ∙ length-map codes lines_at

      pub lines-here : (i : ℕ) → i < length lines → get_or lines i 0 ≡ lines_at (get_or codes i (Policy 0))
      lines-here i h =
          get_or_default lines i 0 (lines_at (Policy 0)) h
          ∙ ap (λ (l : List ℕ). get_or l i (lines_at (Policy 0))) same-lines ∙ get_or-map lines_at codes i (Policy 0)

    pub node-here : (i : ℕ) → i < length codes → drop i (nodes_of b c) ≡ coded_node b c (get_or codes i (Policy 0)) ∷ drop (i + 1) (nodes_of b c)
    node-here i h =
        let same = nodes-coded ∙ ap (map (coded_node b c)) (sym is) in
        rw (add-one i)
        (drop-cons (nodes_of b c) i (coded_node b c (Policy 0)) (omega (arith, nodes-count))
        ∙ ap (λ (n : ListedNode). n ∷ drop (suc i) (nodes_of b c)) (ap (λ (ns : List ListedNode). get_or ns i (coded_node b c (Policy 0))) same ∙ get_or-map (coded_node b c) codes i (Policy 0)))

    -- ---- they mention policies of the book, and have few lines

    module _ (range : ConditionInRange (length b.policies) c) where
      kept-as : (i : ℕ) → i < length codes → (y : Code ℕ) → get_or codes i (Policy 0) ≡ y → CodeKept b y
      kept-as i h Min e = tt
      kept-as i h Max e = tt
      kept-as i h (Policy k) e =
          mention-below c.expression i (length b.policies) k (omega (arith, ap length is)) range.mentions
          (sym (ap (λ (l : List (Code ℕ)). get_or l i Min) is) ∙ get_or_default codes i Min (Policy 0) h ∙ e)

      pub code-kept : (i : ℕ) → i < length codes → CodeKept b (get_or codes i (Policy 0))
      code-kept i h = kept-as i h (get_or codes i (Policy 0)) refl

      pub codes-few : length codes ≤ 31
      codes-few = omega (arith, ap length is, codes-count c.expression, range.mentions_room)

      module _ (books : BookInRange b) where
        few-lines : (y : Code ℕ) → CodeKept b y → lines_at y ≤ 65536
        unfolding lines_in listed
        few-lines Min h = omega arith
        few-lines Max h = omega arith
        few-lines (Policy k) h =
            let p = policy_at b.policies k in
            omega (
              arith,
              length-map (lines_of c.threshold p) mask_of,
              (lines-are-few p.operator c.threshold p.rules).of_sixteen (rules-at-most p (policy-in-range b books k h)),
            )

        sum-few : (l : List (Code ℕ)) → ((i : ℕ) → i < length l → CodeKept b (get_or l i (Policy 0))) → sum (map lines_at l) ≤ 65536 * length l
        sum-few [] h = omega arith
        sum-few (y ∷ l) h =
            omega (arith, few-lines y (h 0 (omega arith)), sum-few l (λ i g. h (suc i) (omega arith)), sum_by-cons (λ (n : ℕ). n) (lines_at y) (map lines_at l))

        -- so many lines at most have all of them together
        pub lines-few : sum (map lines_in (nodes_of b c)) ≤ most_lines
        lines-few = omega (arith, ap (λ (l : List ℕ). sum l) (sym lines-coded), sum-few codes code-kept, codes-few)

-- ---- a node by its code

-- a mention is of a policy of the book, which the code finds in it
pub mention-there : (b : Book) {code : Code ℕ} {k : ℕ} → code ≡ Policy k → CodeKept b code → k < length b.policies
mention-there b e h = subst (CodeKept b) e h

pub mentioned : (b : Book) (k : ℕ) {policies : List PealPolicy} → policies ≡ b.policies → k < length b.policies → {p : PealPolicy} → p ≡ get_or policies k p → p ≡ policy_at b.policies k
unfolding policy_at
mentioned b k same there {p} is = is ∙ ap (λ (l : List PealPolicy). get_or l k p) same ∙ get_or_default b.policies k p empty_policy there

pub mention-lines : (b : Book) (c : Condition) {code : Code ℕ} {k : ℕ} → code ≡ Policy k
    → lines_in (coded_node b c code) ≡ length (lines_of c.threshold (policy_at b.policies k))
unfolding lines_in listed
mention-lines b c {k = k} e =
    ap (λ (y : Code ℕ). lines_in (coded_node b c y)) e ∙ length-map (lines_of c.threshold (policy_at b.policies k)) mask_of

-- a join has none
pub no-mention : (b : Book) (c : Condition) (code : Code ℕ) → ((k : ℕ) → code ≡ Policy k → ⊥) → lines_in (coded_node b c code) ≡ 0
unfolding lines_in
no-mention b c Min h = refl
no-mention b c Max h = refl
no-mention b c (Policy k) h = absurd (h k refl)

-- a code of a join that is not max is min
pub is-larger : (m : MinMax) {code : Code ℕ} → code ≡ code_of (joining m) → code ≡ Max → m ≡ larger
unfolding code_of
is-larger smaller e h = cc
is-larger larger e h = refl

pub is-smaller : (m : MinMax) {code : Code ℕ} → code ≡ code_of (joining m) → (code ≡ Max → ⊥) → m ≡ smaller
unfolding code_of
is-smaller smaller e h = refl
is-smaller larger e h = absurd (h e)

-- and a code that mentions no policy is of a join
pub join-coded : (b : Book) (c : Condition) (code : Code ℕ) → ((k : ℕ) → code ≡ Policy k → ⊥)
    → (m : MinMax) × (code ≡ code_of (joining m)) × (coded_node b c code ≡ joining (join_of c.sense m))
unfolding code_of
join-coded b c Min h = (smaller, refl, refl)
join-coded b c Max h = (larger, refl, refl)
join-coded b c (Policy k) h = absurd (h k refl)
