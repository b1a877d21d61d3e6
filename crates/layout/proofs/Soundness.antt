-- The listing of well-formed nodes is sound.
use Prim.Native.Nat.{ℕ, suc, ◌+◌, ◌*◌, ◌-◌, ◌%◌, ◌≤◌}
use mathlib.Core.Bool.{Bool, true, ◌&&◌}
use mathlib.Core.List.{List, [], ◌∷◌, ◌++◌, append_assoc, append-nil}
use mathlib.Core.Option.{Option, none, some}
use mathlib.Core.Path.{◌≡◌, refl, sym, ap, subst, subst₂, ◌∙◌}
use native.Mathlib.Nat.{add-zero}
use native.Mathlib.Omega.{arith}
use lib.ListN.{length}
use borrow.Author.Tests.{eq-eqb, ne_eqb, le-leb}
use Rattle.answers.specs.Answers.{result}
use Rattle.arith.specs.Trees.{leaf, join, value, joining, postfix}
use Rattle.arith.specs.Leaves.{leaf_count}
use Rattle.signals.specs.Sets.{is_set, inside}
use Rattle.layout.specs.Records.{Record, words, Kind, policy, line, exclusion, line_kind, join_kind, exclusion_kind, policy_kind, kind_of, kinds}
use Rattle.layout.specs.Judgement.{if_any, if_line, next_node, SoFar, no_record, inside_policy, keeps_layout, so_far_after, judged, length_sound, verdict}
use Rattle.layout.specs.Nodes.{ListedNode, line_records, node_records, exclusion_records, listing}
use Rattle.layout.specs.WellFormed.{ListedTree, LinesFit, TreeFits, ArePairs, PairsFit, WellFormed}
use Rattle.layout.proofs.KindLaws.{kind-line, kind-policy, kind-join, kind-exclusion}
use Rattle.layout.proofs.WordLaws.{records-words, length-words}
use Rattle.layout.proofs.ListedLaws.{no_line, any-nodes, next-nodes, line-lines, next-lines}

-- ---- tests

judged-step : (n : ℕ) (so : SoFar) (r : Record) (rest : List Record) (k : Kind) → kind_of r.kind ≡ k
    → keeps_layout (n + 1) so k r (kinds rest) ≡ true → judged n so (r ∷ rest) ≡ judged (n + 1) (so_far_after so k r) rest
unfolding judged
judged-step n so r rest k e h = rw (e, h) refl

and-three : {a b c : Bool} → a ≡ true → b ≡ true → c ≡ true → (a && b && c) ≡ true
and-three p q r = rw (p, q, r)

and-four : {a b c d : Bool} → a ≡ true → b ≡ true → c ≡ true → d ≡ true → (a && b && c && d) ≡ true
and-four p q r s = rw (p, q, r, s)

set-fits : (n : ℕ) → n ≤ 65535 → is_set n ≡ true
unfolding is_set
set-fits n h = le-leb n 65535 h

inside-policy : (mask l : ℕ) → l ≤ 65535 → inside l mask ≡ true → inside_policy l (some mask) ≡ true
unfolding inside_policy
inside-policy mask l h w = rw (set-fits l h, w)

-- ---- the judgement

judged-lines : (n mask v p : ℕ) (ls : List ℕ) (rest : List Record) → LinesFit mask ls → ((k : ℕ) → if_line (kinds rest) k ≡ 0)
    → judged n (record { policy_mask = some mask; values = v; policies = p }) (line_records (n + 1) ls ++ rest)
    ≡ judged (n + length ls) (record { policy_mask = some mask; values = v; policies = p }) rest
unfolding line_records keeps_layout so_far_after
judged-lines n mask v p [] rest g h = rw add-zero refl
judged-lines n mask v p (l ∷ ls) rest g h =
    let so : SoFar = record { policy_mask = some mask; values = v; policies = p } in
    let r : Record = record { kind = line_kind; mask = l; lines = 0; next = if_any ls (n + 1 + 1) } in
    let after : List Record = line_records (n + 1 + 1) ls ++ rest in
    let chained : if_any ls (n + 1 + 1) ≡ if_line (kinds after) (n + 1 + 1) = sym (line-lines (n + 1 + 1) (n + 1 + 1) ls rest (h (n + 1 + 1))) in
    judged-step n so r after line kind-line (and-three (inside-policy mask l g.0 g.1) refl (eq-eqb _ _ chained))
    ∙ judged-lines (n + 1) mask v p ls rest g.2 h
    ∙ ap (λ (i : ℕ). judged i so rest) (omega arith)

-- well-formed nodes are found sound
judged-nodes : (n : ℕ) (o : Option ℕ) (v p : ℕ) (ns : List ListedNode) → WellFormed v p ns
    → judged n (record { policy_mask = o; values = v; policies = p }) (node_records (n + 1) ns) ≡ result tt
unfolding node_records keeps_layout so_far_after judged
judged-nodes n o v p [] h = rw (eq-eqb v 1 h) refl
judged-nodes n o v p (joining j ∷ ns) h =
    let so : SoFar = record { policy_mask = o; values = v; policies = p } in
    let r : Record = record { kind = join_kind j; mask = 0; lines = 0; next = if_any ns (n + 1 + 1) } in
    let after : List Record = node_records (n + 1 + 1) ns in
    let chained : if_any ns (n + 1 + 1) ≡ if_any (kinds after) (n + 1 + 1) = sym (any-nodes (n + 1 + 1) (n + 1 + 1) ns) in
    judged-step n so r after (Kind.join j) (kind-join j) (and-four refl refl (eq-eqb _ _ chained) (le-leb 2 v h.0))
    ∙ judged-nodes (n + 1) none (v - 1) p ns h.1
judged-nodes n o v p (value q ∷ ns) h =
    let so : SoFar = record { policy_mask = o; values = v; policies = p } in
    let m : ℕ = n + 1 + 1 + length q.lines in
    let r : Record = record { kind = policy_kind q.quiet q.turned; mask = q.mask; lines = if_any q.lines (n + 1 + 1); next = if_any ns m } in
    let after : List Record = line_records (n + 1 + 1) q.lines ++ node_records m ns in
    let first : if_any q.lines (n + 1 + 1) ≡ if_line (kinds after) (n + 1 + 1) =
    sym (line-lines (n + 1 + 1) (n + 1 + 1) q.lines (node_records m ns) (no_line m (n + 1 + 1) ns)) in
    let chained : if_any ns m ≡ next_node (n + 1 + 1) (kinds after) =
    sym (next-lines (n + 1 + 1) (n + 1 + 1) q.lines (node_records m ns) ∙ next-nodes m m ns) in
    judged-step n so r after (policy q.quiet q.turned) (kind-policy q.quiet q.turned)
    (and-four (set-fits q.mask h.0.mask_fits) (eq-eqb _ _ first) (eq-eqb _ _ chained) (le-leb (p + 1) 16 h.1))
    ∙ judged-lines (n + 1) q.mask (v + 1) (p + 1) q.lines (node_records m ns) h.0.lines_fit (λ k. no_line m k ns)
    ∙ ap (λ (i : ℕ). judged (n + 1 + length q.lines) (record { policy_mask = some q.mask; values = v + 1; policies = p + 1 }) (node_records i ns)) (omega arith)
    ∙ judged-nodes (n + 1 + length q.lines) (some q.mask) (v + 1) (p + 1) ns h.2

-- a record follows
follows : (m : ℕ) (pairs : List ℕ) (r : Record) (rest : List Record) → 1 ≤ length (kinds (exclusion_records m pairs ++ (r ∷ rest)))
unfolding kinds exclusion_records
follows m [] r rest = omega arith
follows m (pair ∷ pairs) r rest = omega arith

-- exclusions above some records are found sound
judged-exclusions : (n : ℕ) (pairs : List ℕ) (r : Record) (rest : List Record) → ArePairs pairs → n + length pairs ≤ 16
    → judged n no_record (exclusion_records (n + 1) pairs ++ (r ∷ rest)) ≡ judged (n + length pairs) no_record (r ∷ rest)
unfolding exclusion_records keeps_layout so_far_after no_record
judged-exclusions n [] r rest g few = rw add-zero refl
judged-exclusions n (pair ∷ pairs) r rest g few =
    let e : Record = record { kind = exclusion_kind; mask = pair; lines = 0; next = n + 1 + 1 } in
    let after : List Record = exclusion_records (n + 1 + 1) pairs ++ (r ∷ rest) in
    judged-step n no_record e after exclusion kind-exclusion
    (rw (le-leb (n + 1) 16 (omega arith), g.0, eq-eqb (n + 1 + 1) (n + 1 + 1) refl, le-leb 1 _ (follows (n + 1 + 1) pairs r rest)) refl)
    ∙ judged-exclusions (n + 1) pairs r rest g.1 (omega arith)
    ∙ ap (λ (i : ℕ). judged i no_record (r ∷ rest)) (omega arith)

-- ---- the verdict

words-whole : (r : Record) (rs : List Record) → length_sound (words (r ∷ rs)) ≡ true
unfolding length_sound
words-whole r rs =
    let h : length (words (r ∷ rs)) ≡ 4 * suc (length rs) = length-words (r ∷ rs) in
    rw (ne_eqb (length (words (r ∷ rs))) 0 (omega arith), eq-eqb (length (words (r ∷ rs)) % 4) 0 (omega arith)) refl

-- a node has a record
some-record : (m : ℕ) (x : ListedNode) (ns : List ListedNode) → (r : Record) × (rest : List Record) × (node_records m (x ∷ ns) ≡ r ∷ rest)
unfolding node_records
some-record m (value q) ns = (_, _, refl)
some-record m (joining j) ns = (_, _, refl)

some_words : (n : ℕ) (pairs : List ℕ) (r : Record) (rest : List Record) → length_sound (words (exclusion_records n pairs ++ (r ∷ rest))) ≡ true
unfolding exclusion_records
some_words n [] r rest = words-whole r rest
some_words n (pair ∷ pairs) r rest = words-whole _ _

-- the listing of some pairs and well-formed nodes is sound
listing-sound : (pairs : List ℕ) (ns : List ListedNode) → PairsFit pairs → WellFormed 0 0 ns → verdict (words (listing pairs ns)) ≡ result tt
unfolding verdict listing no_record
listing-sound pairs [] g h = absurd (omega arith)
listing-sound pairs (x ∷ ns) g h =
    let (r, rest, e) = some-record (1 + length pairs) x ns in
    let sound : judged (length pairs) no_record (r ∷ rest) ≡ result tt =
    ap (judged (length pairs) no_record) (sym e ∙ ap (λ (i : ℕ). node_records i (x ∷ ns)) (omega arith)) ∙ judged-nodes (length pairs) none 0 0 (x ∷ ns) h in
    rw (e, some_words, records-words) (judged-exclusions 0 pairs r rest g.0 (omega (arith, g.1)) ∙ ap (λ (i : ℕ). judged i no_record (r ∷ rest)) (omega arith) ∙ sound)

-- ---- trees

-- the nodes of a tree that fits are well-formed wherever there is room for its policies, and leave one value more
tree-well-formed : (t : ListedTree) (v p : ℕ) (ns : List ListedNode) → TreeFits t → p + leaf_count t ≤ 16
    → WellFormed (v + 1) (p + leaf_count t) ns → WellFormed v p (postfix t ++ ns)
unfolding postfix leaf_count
tree-well-formed (leaf q) v p ns g room h = (g, room, h)
tree-well-formed (join j a b) v p ns g room h =
    let last : WellFormed (v + 1 + 1) (p + leaf_count a + leaf_count b) (joining j ∷ ns) =
    (omega arith, subst₂ (λ (x y : ℕ). WellFormed x y ns) (omega arith) (omega arith) h) in
    rw (append_assoc (postfix a) (postfix b ++ (joining j ∷ [])) ns, append_assoc (postfix b) (joining j ∷ []) ns)
    (tree-well-formed a v p (postfix b ++ (joining j ∷ ns)) g.0 (omega arith)
    (tree-well-formed b (v + 1) (p + leaf_count a) (joining j ∷ ns) g.1 (omega arith) last))

-- the nodes of a tree that fits, of at most 16 policies, are well-formed, and their listing is sound
pub tree-nodes : (t : ListedTree) → TreeFits t → leaf_count t ≤ 16 → WellFormed 0 0 (postfix t)
tree-nodes t g room =
    subst (λ (ns : List ListedNode). WellFormed 0 0 ns) (append-nil (postfix t)) (tree-well-formed t 0 0 [] g (omega arith) (omega arith))

pub tree-sound : (pairs : List ℕ) (t : ListedTree) → PairsFit pairs → TreeFits t → leaf_count t ≤ 16 → verdict (words (listing pairs (postfix t))) ≡ result tt
tree-sound pairs t fit g room = listing-sound pairs (postfix t) fit (tree-nodes t g room)
