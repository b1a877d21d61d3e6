-- The rod's way through a sound listing, a node at a time.
use Prim.Native.Nat.{ℕ, ◌+◌, ◌-◌, ◌*◌, ◌/◌, ◌≤◌, ◌<◌}
use mathlib.Core.Bool.{Bool, true, false, false≢true}
use mathlib.Core.List.{List, [], ◌∷◌}
use mathlib.Core.Logic.{◌⊎◌, inl, inr, ⊎_elim}
use mathlib.Core.Path.{◌≡◌, refl, sym, ap, ap₂, subst, ◌∙◌}
use native.Mathlib.Omega.{arith}
use lib.Dec.{eqb}
use lib.ListN.{length, get_or, drop}
use Rattle.answers.specs.Answers.{result, refused}
use Rattle.arith.specs.Trees.{joined_last, run}
use Rattle.arith.proofs.Order.{le-or-lt}
use Rattle.layout.specs.Records.{Record, records, Join, Kind, policy, line, exclusion, unknown, kind_of, is_line, kinds}
use Rattle.layout.specs.Judgement.{if_any, no_record, keeps_layout, so_far_after, judged, verdict}
use Rattle.layout.specs.Nodes.{ListedNode, leading_lines, node_then, nodes}
use Rattle.layout.specs.WellFormed.{LinesFit}
use Rattle.layout.specs.Steps.{record_at, records_from}
use Rattle.layout.proofs.KeptLaws.{kept-policy, kept-join, kept-exclusion, some_after, sound-step, no-owner, sound-judged}
use Rattle.layout.proofs.SoundNodes.{lines_fit, sound-well-formed}
use Rattle.layout.proofs.Places.{from_cons, from-nil}
use Rattle.layout.proofs.Runs.{past_lines, after-drop, after-no-line, after-nodes, after_next, after-judged, from-after, run-in-words, nodes-here}
use Rattle.rod.specs.Reading.{policy_value, joined, says, rod_answer}
use Rattle.rod.specs.Values.{bits_of, ValueAdded, LastJoined, AllSets, LinesTo, listed_at, node_end, NodeTo, NodeAt, ReadingUnderway}
use Rattle.rod.proofs.ValueLaws.{bits_below, one_value}

all-sets : (mask : ℕ) (ls : List ℕ) → LinesFit mask ls → AllSets ls
all-sets mask [] g = tt
all-sets mask (l ∷ ls) g = (g.0, all-sets mask ls g.2)

any-kinds : (rs : List Record) (n : ℕ) → if_any (kinds rs) n ≡ if_any rs n
unfolding kinds if_any
any-kinds [] n = refl
any-kinds (r ∷ rs) n = refl

no-lines-after : (rs : List Record) → leading_lines rs ≡ [] → past_lines rs ≡ rs
no-lines-after rs e = sym (after-drop rs) ∙ ap (λ (ls : List ℕ). drop (length ls) rs) e

-- ---- the node at an index

module _ (ws : List ℕ) (at : ℕ) (lt : at < length ws / 4) (node : NodeAt ws at) where
  abbrev rest : List Record
  rest = records_from ws (at + 1)

  pub step : (k : Kind) → k ≡ kind_of (get_or ws (at * 4) 0)
      → (keeps_layout (at + 1) node.above k (record_at ws at) (kinds rest) ≡ true) × (judged (at + 1) (so_far_after node.above k (record_at ws at)) rest ≡ result tt)
  step k e =
      let s = sound-step at node.above (record_at ws at) rest (rw (from_cons ws at lt) at node.sound) in (
        subst (λ (x : Kind). keeps_layout (at + 1) node.above x (record_at ws at) (kinds rest) ≡ true) (sym e) s.0,
        subst (λ (x : Kind). judged (at + 1) (so_far_after node.above x (record_at ws at)) rest ≡ result tt) (sym e) s.1,
      )

  -- it is no line, and of a known kind
  pub not_line : line ≡ kind_of (get_or ws (at * 4) 0) → ⊥
  unfolding leading_lines is_line
  not_line e =
      let z : ◌≡◌ {A = List ℕ} (get_or ws (at * 4 + 1) 0 ∷ leading_lines rest) [] = rw (from_cons ws at lt, ← e) at node.no_line in
      let y : ◌≡◌ {A = ℕ} 0 1 = cc in omega arith

  pub not-unknown : unknown ≡ kind_of (get_or ws (at * 4) 0) → ⊥
  unfolding keeps_layout
  not-unknown e = false≢true (step unknown e).0

  -- the records after it and its lines
  unfoldable pub node-after : (k : Kind) → k ≡ kind_of (get_or ws (at * 4) 0) → NodeAt ws (node_end ws at)
  unfolding node_end
  node-after k e =
      record {
        above = so_far_after node.above k (record_at ws at);
        sound = rw (from-after ws (at + 1)) (after-judged (at + 1) (so_far_after node.above k (record_at ws at)) rest (step k e).1);
        no_line = rw (from-after ws (at + 1)) (after-no-line rest);
      }

  nodes-after : nodes (records_from ws (node_end ws at)) ≡ nodes rest
  unfolding node_end
  nodes-after = ap nodes (from-after ws (at + 1)) ∙ after-nodes rest

  -- it is taken first, and then the nodes after it
  pub taken_here : (set : ℕ) (stack : List Bool) (k : Kind) → k ≡ kind_of (get_or ws (at * 4) 0)
      → get_or (run joined (policy_value set) (node_then k (get_or ws (at * 4 + 1) 0) (leading_lines rest) (nodes (records_from ws (node_end ws at)))) stack) 0 false
      ≡ get_or (run joined (policy_value set) (nodes (records_from ws at)) stack) 0 false
  taken_here set stack k e =
      ap (λ (ns : List ListedNode). get_or (run joined (policy_value set) (node_then k (get_or ws (at * 4 + 1) 0) (leading_lines rest) ns) stack) 0 false) nodes-after
      ∙ ap (λ (ns : List ListedNode). get_or (run joined (policy_value set) ns stack) 0 false) (sym (nodes-here ws at k lt e))

  -- its lines are signal sets
  pub policy-lines : (quiet turned : Bool) → policy quiet turned ≡ kind_of (get_or ws (at * 4) 0) → (end : ℕ) → end ≡ node_end ws at → LinesTo ws (at + 1) end
  unfolding so_far_after node_end
  policy-lines quiet turned e end n =
      record { run = n; sets = all-sets _ (leading_lines rest) (lines_fit (at + 1) (get_or ws (at * 4 + 1) 0) _ rest refl (step (policy quiet turned) e).1) }

  -- its `next` names the node after it, or is 0
  next_word : get_or ws (at * 4 + 3) 0 ≡ if_any (records_from ws (node_end ws at)) (node_end ws at + 1)
  unfolding node_end so_far_after
  next_word = rw (from-after ws (at + 1)) (go (kind_of (get_or ws (at * 4) 0)) refl)
    where
      go : (k : Kind) → k ≡ kind_of (get_or ws (at * 4) 0) → get_or ws (at * 4 + 3) 0 ≡ if_any (past_lines rest) (at + 1 + length (leading_lines rest) + 1)
      go line e = absurd (not_line e)
      go unknown e = absurd (not-unknown e)
      go (policy quiet turned) e =
          (kept-policy (at + 1) node.above (record_at ws at) (kinds rest) quiet turned (step (policy quiet turned) e).0).2
          ∙ after_next (at + 1 + 1) rest ∙ ap (λ (n : ℕ). if_any (past_lines rest) n) (omega arith)
      go (Kind.join j) e =
          let none : leading_lines rest ≡ [] = no-owner (at + 1) _ rest refl (step (Kind.join j) e).1 in
          (kept-join (at + 1) node.above (record_at ws at) (kinds rest) j (step (Kind.join j) e).0).2
          ∙ any-kinds rest (at + 1 + 1)
          ∙ ap₂ (λ (rs : List Record) (n : ℕ). if_any rs n) (sym (no-lines-after rest none)) (omega (arith, ap length none))
      go exclusion e =
          let none : leading_lines rest ≡ [] = no-owner (at + 1) _ rest refl (step exclusion e).1 in
          let kept = kept-exclusion (at + 1) node.above (record_at ws at) (kinds rest) (step exclusion e).0 in
          kept.4
          ∙ sym (some_after (kinds rest) (at + 1 + 1) kept.5)
          ∙ any-kinds rest (at + 1 + 1)
          ∙ ap₂ (λ (rs : List Record) (n : ℕ). if_any rs n) (sym (no-lines-after rest none)) (omega (arith, ap length none))

  end-within : node_end ws at ≤ length ws / 4
  unfolding node_end
  end-within = run-in-words ws (at + 1) (omega arith)

  next-by : (length ws / 4 ≤ node_end ws at) ⊎ (node_end ws at < length ws / 4)
      → ((get_or ws (at * 4 + 3) 0 ≡ 0) × (node_end ws at ≡ length ws / 4)) ⊎ (get_or ws (at * 4 + 3) 0 ≡ node_end ws at + 1)
  unfolding if_any
  next-by (inl h) = inl (rw (from-nil ws (node_end ws at) h) at next_word, omega (arith, end-within))
  next-by (inr h) = inr (rw (from_cons ws (node_end ws at) h) at next_word)

  -- the code's tests
  pub next-zero : get_or ws (at * 4 + 3) 0 ≡ 0 → length ws / 4 ≡ node_end ws at
  next-zero e = ⊎_elim (λ h. sym h.1) (λ h. absurd (omega arith)) (next-by (le-or-lt (length ws / 4) (node_end ws at)))

  pub next_more : (get_or ws (at * 4 + 3) 0 ≡ 0 → ⊥) → get_or ws (at * 4 + 3) 0 - 1 ≡ node_end ws at
  next_more n = ⊎_elim (λ h. absurd (n h.0)) (λ h. omega arith) (next-by (le-or-lt (length ws / 4) (node_end ws at)))

-- ---- the way

unfoldable pub first-node : (ws : List ℕ) → verdict ws ≡ result tt → NodeAt ws 0
unfolding records_from no_record
first-node ws v = let j = (sound-judged ws v).1 in record { above = no_record; sound = j; no_line = no-owner 0 no_record (records ws) refl j }

-- before the first node there are no values
pub begins : (ws : List ℕ) (set : ℕ) → verdict ws ≡ result tt → ReadingUnderway ws set 0 0
unfolding records_from no_record bits_of says first-node
begins ws set v =
    record { node = first-node ws v; stack = []; held = refl; height = refl; few = omega arith; at_most = omega arith; same = refl }

-- past a node that ends before index `end`
module _ (ws : List ℕ) (set at end values : ℕ) (n : NodeTo ws at end) (u : ReadingUnderway ws set at values) where
  pub values-small : values ≤ 65535
  values-small = omega (arith, bits_below u.stack 16 (omega (arith, u.height, u.few, u.at_most)), u.held)

  same_here : (k : Kind) → k ≡ kind_of (get_or ws (at * 4) 0)
      → get_or (run joined (policy_value set) (node_then k (get_or ws (at * 4 + 1) 0) (leading_lines (records_from ws (at + 1))) (nodes (records_from ws (node_end ws at)))) u.stack) 0 false ≡ says ws set
  same_here k e = taken_here ws at n.within u.node set u.stack k e ∙ u.same

  -- at the index that the code has
  at-end : (r : ℕ) → ReadingUnderway ws set (node_end ws at) r → ReadingUnderway ws set end r
  at-end r v = subst (λ (x : ℕ). ReadingUnderway ws set x r) (sym n.ends) v

  -- a policy adds its value
  pub past-policy : (quiet turned : Bool) → policy quiet turned ≡ kind_of (get_or ws (at * 4) 0) → (v : Bool) (r : ℕ) → v ≡ policy_value set (listed_at ws at quiet turned)
      → ValueAdded v values r → ReadingUnderway ws set end r
  unfolding so_far_after node_then run node-after
  past-policy quiet turned e v r ev er =
      let k = kept-policy (at + 1) u.node.above (record_at ws at) (kinds (records_from ws (at + 1))) quiet turned (step ws at n.within u.node (policy quiet turned) e).0 in
      at-end r
      (record {
        node = node-after ws at n.within u.node (policy quiet turned) e;
        stack = v ∷ u.stack;
        held = er u.stack u.held;
        height = omega (arith, u.height);
        few = omega (arith, u.few);
        at_most = k.3;
        same = ap (λ (x : Bool). get_or (run joined (policy_value set) (nodes (records_from ws (node_end ws at))) (x ∷ u.stack)) 0 false) ev ∙ same_here (policy quiet turned) e;
      })

  -- an exclusion leaves the values as they are
  pub past-exclusion : exclusion ≡ kind_of (get_or ws (at * 4) 0) → ReadingUnderway ws set end values
  unfolding so_far_after node_then node-after
  past-exclusion e =
      at-end values
      (record {
        node = node-after ws at n.within u.node exclusion e;
        stack = u.stack;
        held = u.held;
        height = u.height;
        few = u.few;
        at_most = u.at_most;
        same = same_here exclusion e;
      })

  -- a join takes two values and leaves one
  pub past-join : (j : Join) → Kind.join j ≡ kind_of (get_or ws (at * 4) 0) → (r : ℕ)
      → LastJoined j values r → ReadingUnderway ws set end r
  unfolding so_far_after node_then run joined_last node-after
  past-join j e r er = at-end r (go u.stack u.held u.height (same_here (Kind.join j) e))
    where
      two : 2 ≤ u.node.above.values
      two = (kept-join (at + 1) u.node.above (record_at ws at) (kinds (records_from ws (at + 1))) j (step ws at n.within u.node (Kind.join j) e).0).3

      go : (st : List Bool) → values ≡ bits_of st → u.node.above.values ≡ length st
          → get_or (run joined (policy_value set) (node_then (Kind.join j) (get_or ws (at * 4 + 1) 0) (leading_lines (records_from ws (at + 1))) (nodes (records_from ws (node_end ws at)))) st) 0 false ≡ says ws set
          → ReadingUnderway ws set (node_end ws at) r
      go [] h l s = absurd (omega (arith, two))
      go (b ∷ []) h l s = absurd (omega (arith, two))
      go (b ∷ a ∷ st) h l s =
          record {
            node = node-after ws at n.within u.node (Kind.join j) e;
            stack = joined j a b ∷ st;
            held = er a b st h;
            height = omega (arith, l, two);
            few = omega (arith, u.few);
            at_most = u.at_most;
            same = s;
          }

-- after the last record one value remains
pub ends : (ws : List ℕ) (set at values : ℕ) → length ws / 4 ≤ at → ReadingUnderway ws set at values → eqb values 1 ≡ says ws set
unfolding run nodes
ends ws set at values h u = go u.stack u.held u.height (rw (from-nil ws at h) at u.same)
  where
    one : u.node.above.values ≡ 1
    one = sound-well-formed at u.node.above [] (rw (from-nil ws at h) at u.node.sound)

    go : (st : List Bool) → values ≡ bits_of st → u.node.above.values ≡ length st → get_or st 0 false ≡ says ws set → eqb values 1 ≡ says ws set
    go [] e l s = absurd (omega (arith, one))
    go (b ∷ []) e l s = ap (λ (x : ℕ). eqb x 1) e ∙ one_value b ∙ s
    go (b ∷ a ∷ st) e l s = absurd (omega (arith, one))

-- ---- the answer

module _ (ws : List ℕ) (set : ℕ) where
  pub answers : verdict ws ≡ result tt → (b : Bool) → b ≡ says ws set → result b ≡ rod_answer ws set
  unfolding rod_answer
  answers v b e = rw (v, ← e) refl

  pub declines : (number value : ℕ) → verdict ws ≡ refused number value → refused number value ≡ rod_answer ws set
  unfolding rod_answer
  declines number value v = rw v refl
