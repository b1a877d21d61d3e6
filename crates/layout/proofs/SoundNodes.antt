-- The excluded pairs and the nodes of a sound listing are well-formed, and the nodes are those of a tree.
use Prim.Native.Nat.{ℕ, ◌+◌, ◌-◌, ◌≤◌}
use mathlib.Core.Bool.{true, cond}
use mathlib.Core.List.{List, [], ◌∷◌, ◌++◌, append_assoc, append-nil, Memᴰ}
use mathlib.Core.Option.{some}
use mathlib.Core.Path.{◌≡◌, refl, subst}
use native.Mathlib.Omega.{arith}
use lib.Dec.{eqb, leb}
use lib.ListN.{length}
use borrow.Author.Tests.{eqb-true, leb-true}
use Rattle.answers.specs.Answers.{result}
use Rattle.answers.proofs.Results.{required}
use Rattle.arith.specs.Trees.{leaf, join, value, joining, postfix}
use Rattle.arith.proofs.Tests.{and_left, and_right}
use Rattle.arith.specs.Leaves.{leaf_count}
use Rattle.signals.specs.Sets.{is_set, inside}
use Rattle.layout.specs.Records.{Record, records, Kind, policy, line, exclusion, kind_of, is_line, kinds, unknown}
use Rattle.layout.specs.Judgement.{SoFar, no_record, inside_policy, keeps_layout, so_far_after, judged, verdict}
use Rattle.layout.specs.Nodes.{ListedNode, leading_lines, node_then, nodes, pair_then, excluded}
use Rattle.layout.specs.WellFormed.{ListedTree, LinesFit, TreeFits, ArePairs, PairsFit, WellFormed, TreeOf}
use Rattle.layout.proofs.KeptLaws.{kept_line, sound-step, sound-judged, kept-policy, kept-join, kept-exclusion}

-- ---- pairs

-- the exclusions of a judgement that ends in sound are pairs, at most 16 with the n above
sound-pairs : (n : ℕ) (rs : List Record) → n ≤ 16 → judged n no_record rs ≡ result tt → ArePairs (excluded rs) × (n + length (excluded rs) ≤ 16)
unfolding excluded pair_then so_far_after no_record
sound-pairs n [] few h = (tt, omega arith)
sound-pairs n (r ∷ rest) few h =
    go (kind_of r.kind) (sound-step n no_record r rest h).0 (sound-step n no_record r rest h).1 (λ few s. sound-pairs (n + 1) rest few s)
  where
    go : (k : Kind) → keeps_layout (n + 1) no_record k r (kinds rest) ≡ true → judged (n + 1) (so_far_after no_record k r) rest ≡ result tt
        → (n + 1 ≤ 16 → judged (n + 1) no_record rest ≡ result tt → ArePairs (excluded rest) × (n + 1 + length (excluded rest) ≤ 16))
        → ArePairs (pair_then k r.mask (excluded rest)) × (n + length (pair_then k r.mask (excluded rest)) ≤ 16)
    go exclusion e s ih =
        let t = kept-exclusion (n + 1) no_record r (kinds rest) e in
        let i = ih t.1 s in
        ((t.2, i.0), omega (arith, i.1))
    go (policy q u) e s ih = (tt, omega arith)
    go line e s ih = (tt, omega arith)
    go (Kind.join j) e s ih = (tt, omega arith)
    go unknown e s ih = (tt, omega arith)

-- its exclusions are at most 16 pairs
pub sound-exclusions : (ws : List ℕ) → verdict ws ≡ result tt → PairsFit (excluded (records ws))
sound-exclusions ws h = let p = sound-pairs 0 (records ws) (omega arith) (sound-judged ws h).1 in (p.0, omega (arith, p.1))

-- ---- nodes

-- the lines after a policy lie inside its mask
pub lines_fit : (n m : ℕ) (so : SoFar) (rs : List Record) → so.policy_mask ≡ some m → judged n so rs ≡ result tt → LinesFit m (leading_lines rs)
unfolding leading_lines is_line so_far_after inside_policy is_set
lines_fit n m so [] o h = tt
lines_fit n m so (r ∷ rest) o h = go (kind_of r.kind) (sound-step n so r rest h).0 (sound-step n so r rest h).1 (λ so' o' h'. lines_fit (n + 1) m so' rest o' h')
  where
    go : (k : Kind) → keeps_layout (n + 1) so k r (kinds rest) ≡ true → judged (n + 1) (so_far_after so k r) rest ≡ result tt
        → ((so' : SoFar) → so'.policy_mask ≡ some m → judged (n + 1) so' rest ≡ result tt → LinesFit m (leading_lines rest))
        → LinesFit m (cond (is_line k) (r.mask ∷ leading_lines rest) [])
    go line e s ih =
        let t = rw o at (kept_line (n + 1) so r (kinds rest) e).0 in
        (leb-true _ _ (and_left (leb r.mask 65535) (inside r.mask m) t), and_right (leb r.mask 65535) (inside r.mask m) t, ih so o s)
    go (policy q u) e s ih = tt
    go (Kind.join j) e s ih = tt
    go exclusion e s ih = tt
    go unknown e s ih = tt

-- each of them is a signal set inside the mask
pub line-fits : (mask : ℕ) {l : ℕ} {ls : List ℕ} → LinesFit mask ls → Memᴰ l ls → (l ≤ 65535) × (inside l mask ≡ true)
line-fits mask h (Memᴰ.head e) = rw e (h.0, h.1)
line-fits mask h (Memᴰ.tail m) = line-fits mask h.2 m

-- the nodes of a judgement that ends in sound are well-formed
pub sound-well-formed : (n : ℕ) (so : SoFar) (rs : List Record) → judged n so rs ≡ result tt → WellFormed so.values so.policies (nodes rs)
unfolding nodes node_then so_far_after judged
sound-well-formed n so [] h = eqb-true _ _ (required (eqb so.values 1) 10 n (result tt) tt h).0
sound-well-formed n so (r ∷ rest) h = go (kind_of r.kind) (sound-step n so r rest h).0 (sound-step n so r rest h).1 (λ so' h'. sound-well-formed (n + 1) so' rest h')
  where
    go : (k : Kind) → keeps_layout (n + 1) so k r (kinds rest) ≡ true → judged (n + 1) (so_far_after so k r) rest ≡ result tt
        → ((so' : SoFar) → judged (n + 1) so' rest ≡ result tt → WellFormed so'.values so'.policies (nodes rest))
        → WellFormed so.values so.policies (node_then k r.mask (leading_lines rest) (nodes rest))
    go line e s ih = ih so s
    go (policy q u) e s ih =
        let t = kept-policy (n + 1) so r (kinds rest) q u e in
        (record { mask_fits = t.0; lines_fit = lines_fit (n + 1) r.mask _ rest refl s }, t.3, ih _ s)
    go (Kind.join j) e s ih = ((kept-join (n + 1) so r (kinds rest) j e).3, ih _ s)
    go exclusion e s ih = ih _ s
    go unknown e s ih = ih so s

-- ---- trees

-- the trees whose values are to be taken, the last first: their nodes, whether they fit, and how many policies they have
abbrev stacked : List ListedTree → List ListedNode
stacked [] = []
stacked (t ∷ ts) = stacked ts ++ postfix t

abbrev AllFit : List ListedTree → Type 0
AllFit [] = Unit {0}
AllFit (t ∷ ts) = TreeFits t × AllFit ts

abbrev policies_in : List ListedTree → ℕ
policies_in [] = 0
policies_in (t ∷ ts) = policies_in ts + leaf_count t

grow : (ns : List ListedNode) (ts : List ListedTree) (v p : ℕ) → length ts ≡ v → policies_in ts ≡ p → p ≤ 16 → AllFit ts → WellFormed v p ns → TreeOf (stacked ts ++ ns)
unfolding postfix leaf_count
grow [] [] v p el ep le g h = absurd (omega arith)
grow [] (t ∷ []) v p el ep le g h = record { tree = t; fits = g.0; at_most = omega arith; same = append-nil (postfix t) }
grow [] (t ∷ s ∷ ts) v p el ep le g h = absurd (omega arith)
grow (value q ∷ ns) ts v p el ep le g h =
    let r = grow ns (leaf q ∷ ts) (v + 1) (p + 1) (omega arith) (omega arith) h.1 (h.0, g) h.2 in
    subst TreeOf (append_assoc (stacked ts) (value q ∷ []) ns) r
grow (joining j ∷ ns) [] v p el ep le g h = absurd (omega (arith, h.0))
grow (joining j ∷ ns) (b ∷ []) v p el ep le g h = absurd (omega (arith, h.0))
grow (joining j ∷ ns) (b ∷ a ∷ ts) v p el ep le g h =
    let t = grow ns (join j a b ∷ ts) (v - 1) p (omega arith) (omega arith) le ((g.1.0, g.0), g.1.1) h.1 in
    subst TreeOf (simp append_assoc) t

-- the nodes of a sound listing are those of a tree that fits
pub sound-tree : (ws : List ℕ) → verdict ws ≡ result tt → TreeOf (nodes (records ws))
unfolding no_record
sound-tree ws h = grow (nodes (records ws)) [] 0 0 refl refl (omega arith) tt (sound-well-formed 0 no_record (records ws) (sound-judged ws h).1)
