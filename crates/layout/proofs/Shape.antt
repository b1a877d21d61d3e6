-- A sound listing is the listing of its excluded pairs and its nodes.
use Prim.Native.Nat.{ℕ, ◌+◌, ◌<◌}
use mathlib.Core.Bool.{true, cond, false≢true}
use mathlib.Core.List.{List, [], ◌∷◌, ◌++◌}
use mathlib.Core.Option.{none}
use mathlib.Core.Path.{◌≡◌, refl, sym, ap, subst, ◌∙◌, ap₂}
use mathlib.Core.Logic.{◌⊎◌, inl, inr, ⊎_elim}
use native.Mathlib.Nat.{add-zero}
use native.Mathlib.Omega.{arith}
use lib.ListN.{length}
use Rattle.answers.specs.Answers.{result}
use Rattle.layout.specs.Records.{Record, records, words, Kind, policy, line, exclusion, line_kind, join_kind, exclusion_kind, kind_of, is_line, kinds, unknown}
use Rattle.layout.specs.Judgement.{if_any, if_line, next_node, SoFar, no_record, inside_policy, keeps_layout, so_far_after, judged, verdict}
use Rattle.layout.specs.Nodes.{line_records, node_records, exclusion_records, listing, leading_lines, node_then, nodes, pair_then, excluded}
use Rattle.layout.proofs.KindLaws.{Numbered, numbered}
use Rattle.layout.proofs.WordLaws.{same-record, words-records}
use Rattle.layout.proofs.ListedLaws.{no_line, any-nodes, next-nodes, line-lines, next-lines}
use Rattle.layout.proofs.KeptLaws.{kept_line, sound-step, no-owner, sound-judged, kept-policy, kept-join, kept-exclusion}

-- no exclusion stands here: a policy stands above, or no node does, and these records begin with no exclusion
abbrev BelowPairs : SoFar → List Record → Type 0
BelowPairs so rs = (0 < so.policies) ⊎ ((so.policy_mask ≡ none) × (so.values ≡ 0) × (excluded rs ≡ []))

module _ (n : ℕ) (so : SoFar) (r : Record) (rest : List Record) (top : BelowPairs so (r ∷ rest)) where
  no-pair : kind_of r.kind ≡ exclusion → keeps_layout (n + 1) so exclusion r (kinds rest) ≡ true → ⊥
  unfolding excluded pair_then
  no-pair k e =
      ⊎_elim
      (λ p. omega (arith, p, (kept-exclusion (n + 1) so r (kinds rest) e).0))
      (λ t. let z : ◌≡◌ {A = List ℕ} (r.mask ∷ excluded rest) [] = rw k at t.2 in let y : ◌≡◌ {A = ℕ} 0 1 = cc in omega arith)
      top

  -- below the first node there is a policy
  below_more : keeps_layout (n + 1) so (kind_of r.kind) r (kinds rest) ≡ true → BelowPairs (so_far_after so (kind_of r.kind) r) rest
  unfolding so_far_after keeps_layout inside_policy
  below_more e = go (kind_of r.kind) refl e
    where
      go : (k : Kind) → kind_of r.kind ≡ k → keeps_layout (n + 1) so k r (kinds rest) ≡ true → BelowPairs (so_far_after so k r) rest
      go (policy q t) o e = inl (omega arith)
      go line o e = ⊎_elim (λ p. inl p) (λ t. absurd (false≢true (rw t.0 at (kept_line (n + 1) so r (kinds rest) e).0))) top
      go (Kind.join j) o e = ⊎_elim (λ p. inl p) (λ t. absurd (omega (arith, (kept-join (n + 1) so r (kinds rest) j e).3, t.1))) top
      go exclusion o e = absurd (no-pair o e)
      go unknown o e = absurd (false≢true e)

-- the records from number n + 1 on are those of the lines that they begin with and of their nodes
sound-records : (n : ℕ) (so : SoFar) (rs : List Record) → BelowPairs so rs → judged n so rs ≡ result tt
    → rs ≡ line_records (n + 1) (leading_lines rs) ++ node_records (n + 1 + length (leading_lines rs)) (nodes rs)
unfolding leading_lines is_line nodes node_then keeps_layout so_far_after line_records node_records
sound-records n so [] top h = refl
sound-records n so (r ∷ rest) top h =
    go (kind_of r.kind) refl (numbered r.kind) (sound-step n so r rest h).0 (sound-step n so r rest h).1
    (sound-records (n + 1) (so_far_after so (kind_of r.kind) r) rest
    (below_more n so r rest top (sound-step n so r rest h).0) (sound-step n so r rest h).1)
  where
    ls : List ℕ
    ls = leading_lines rest

    m : ℕ
    m = n + 1 + 1 + length ls

    Rest : Type 0
    Rest = rest ≡ line_records (n + 1 + 1) ls ++ node_records m (nodes rest)

    first : Rest → (k : ℕ) → if_line (kinds rest) k ≡ if_any ls k
    first ih k = ap (λ (x : List Record). if_line (kinds x) k) ih ∙ line-lines (n + 1 + 1) k ls (node_records m (nodes rest)) (no_line m k (nodes rest))

    go : (k : Kind) → kind_of r.kind ≡ k → Numbered k r.kind → keeps_layout (n + 1) so k r (kinds rest) ≡ true → judged (n + 1) (so_far_after so k r) rest ≡ result tt → Rest
        → r ∷ rest
        ≡ line_records (n + 1) (cond (is_line k) (r.mask ∷ ls) [])
        ++ node_records (n + 1 + length (cond (is_line k) (r.mask ∷ ls) [])) (node_then k r.mask ls (nodes rest))
    go unknown o w e s ih = absurd (false≢true e)
    go exclusion o w e s ih = absurd (no-pair n so r rest top o e)
    go line o w e s ih =
        let t = kept_line (n + 1) so r (kinds rest) e in
        ap₂ {C = List Record} (λ x y. x ∷ y)
        (same-record r line_kind r.mask 0 (if_any ls (n + 1 + 1)) w refl t.1 (t.2 ∙ first ih (n + 1 + 1)))
        (ih ∙ ap (λ (i : ℕ). line_records (n + 1 + 1) ls ++ node_records i (nodes rest)) (omega arith))
    go (policy q u) o w e s ih =
        let t = kept-policy (n + 1) so r (kinds rest) q u e in
        rw add-zero
        (ap₂ {C = List Record} (λ x y. x ∷ y)
        (same-record r _ r.mask (if_any ls (n + 1 + 1)) (if_any (nodes rest) m) w refl (t.1 ∙ first ih (n + 1 + 1))
        (t.2 ∙ ap (λ (x : List Record). next_node (n + 1 + 1) (kinds x)) ih
        ∙ next-lines (n + 1 + 1) (n + 1 + 1) ls (node_records m (nodes rest)) ∙ next-nodes m m (nodes rest)))
        ih)
    go (Kind.join j) f w e s ih =
        let t = kept-join (n + 1) so r (kinds rest) j e in
        let o : leading_lines rest ≡ [] = no-owner (n + 1) _ rest refl s in
        let ih' : rest ≡ node_records (n + 1 + 1) (nodes rest) =
        subst (λ (x : List ℕ). rest ≡ line_records (n + 1 + 1) x ++ node_records (n + 1 + 1 + length x) (nodes rest)) o ih
        ∙ ap (λ (i : ℕ). node_records i (nodes rest)) (add-zero (n + 1 + 1)) in
        rw add-zero
        (ap₂ {C = List Record} (λ x y. x ∷ y)
        (same-record r (join_kind j) 0 0 (if_any (nodes rest) (n + 1 + 1)) w t.0 t.1
        (t.2 ∙ ap (λ (x : List Record). if_any (kinds x) (n + 1 + 1)) ih' ∙ any-nodes (n + 1 + 1) (n + 1 + 1) (nodes rest)))
        ih')

-- the records of a listing are those of the exclusions that they begin with and of their nodes
listing-records : (n : ℕ) (rs : List Record) → judged n no_record rs ≡ result tt
    → rs ≡ exclusion_records (n + 1) (excluded rs) ++ node_records (n + 1 + length (excluded rs)) (nodes rs)
unfolding excluded pair_then nodes node_then exclusion_records line_records node_records so_far_after no_record keeps_layout
listing-records n [] h = refl
listing-records n (r ∷ rest) h =
    go (kind_of r.kind) refl (numbered r.kind) (sound-step n no_record r rest h).0 (sound-step n no_record r rest h).1 (λ s. listing-records (n + 1) rest s)
  where
    -- the first record is no exclusion
    other : excluded (r ∷ rest) ≡ [] → r ∷ rest ≡ node_records (n + 1 + 0) (nodes (r ∷ rest))
    other e =
        let o : leading_lines (r ∷ rest) ≡ [] = no-owner n no_record (r ∷ rest) refl h in
        subst (λ (x : List ℕ). r ∷ rest ≡ line_records (n + 1) x ++ node_records (n + 1 + length x) (nodes (r ∷ rest))) o
        (sound-records n no_record (r ∷ rest) (inr (refl, refl, e)) h)

    go : (k : Kind) → kind_of r.kind ≡ k → Numbered k r.kind → keeps_layout (n + 1) no_record k r (kinds rest) ≡ true → judged (n + 1) (so_far_after no_record k r) rest ≡ result tt
        → (judged (n + 1) no_record rest ≡ result tt → rest ≡ exclusion_records (n + 1 + 1) (excluded rest) ++ node_records (n + 1 + 1 + length (excluded rest)) (nodes rest))
        → r ∷ rest ≡ exclusion_records (n + 1) (pair_then k r.mask (excluded rest)) ++ node_records (n + 1 + length (pair_then k r.mask (excluded rest))) (node_then k r.mask (leading_lines rest) (nodes rest))
    go exclusion o w e s ih =
        let t = kept-exclusion (n + 1) no_record r (kinds rest) e in
        ap₂ {C = List Record} (λ x y. x ∷ y)
        (same-record r exclusion_kind r.mask 0 (n + 1 + 1) w refl t.3 t.4)
        (ih s ∙ ap (λ (i : ℕ). exclusion_records (n + 1 + 1) (excluded rest) ++ node_records i (nodes rest)) (omega arith))
    go (policy q u) o w e s ih = subst (λ (k : Kind). r ∷ rest ≡ node_records (n + 1 + 0) (node_then k r.mask (leading_lines rest) (nodes rest))) o (other (rw o refl))
    go line o w e s ih = subst (λ (k : Kind). r ∷ rest ≡ node_records (n + 1 + 0) (node_then k r.mask (leading_lines rest) (nodes rest))) o (other (rw o refl))
    go (Kind.join j) o w e s ih = subst (λ (k : Kind). r ∷ rest ≡ node_records (n + 1 + 0) (node_then k r.mask (leading_lines rest) (nodes rest))) o (other (rw o refl))
    go unknown o w e s ih = absurd (false≢true e)

-- a sound listing is the listing of its exclusions and its nodes
pub sound-listing : (ws : List ℕ) → verdict ws ≡ result tt → ws ≡ words (listing (excluded (records ws)) (nodes (records ws)))
unfolding listing
sound-listing ws h = let w = sound-judged ws h in sym (words-records ws w.0) ∙ ap words (listing-records 0 (records ws) w.1)
