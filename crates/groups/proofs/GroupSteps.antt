-- The way through a sound listing with tables: each set of a group at once.
use Prim.Native.Nat.{ℕ, zero, suc, ◌+◌, ◌-◌, ◌*◌, ◌/◌, ◌≤◌, ◌<◌}
use mathlib.Core.Bool.{Bool, true, false}
use mathlib.Core.List.{List, [], ◌∷◌}
use mathlib.Core.Path.{◌≡◌, refl, sym, ap, ap₂, subst, ◌∙◌}
use native.Mathlib.Numerals.{add-one}
use native.Mathlib.Omega.{arith}
use lib.Dec.{eqb}
use lib.ListN.{length, get_or, set, length-set}
use lib.Seq.{get_or-set_same, get_or-set_other}
use borrow.Author.Tests.{eqb-true, eqb-false}
use Rattle.answers.specs.Answers.{result}
use Rattle.arith.specs.Trees.{joined_last, run}
use Rattle.layout.specs.Records.{Join, Kind, policy, exclusion, kind_of, kinds}
use Rattle.layout.specs.Judgement.{no_record, so_far_after, verdict}
use Rattle.layout.specs.Nodes.{ListedNode, leading_lines, node_then, nodes}
use Rattle.layout.specs.Steps.{record_at, records_from}
use Rattle.layout.proofs.KeptLaws.{kept-policy, kept-join, no-owner}
use Rattle.layout.proofs.SoundNodes.{sound-well-formed}
use Rattle.layout.proofs.Places.{from-nil}
use Rattle.rod.specs.Reading.{policy_value, joined, says}
use Rattle.rod.specs.Values.{listed_at, node_end, NodeTo, NodeAt}
use Rattle.rod.proofs.Steps.{step, node-after, policy-lines, taken_here, first-node}
use Rattle.groups.specs.Groups.{group_set, GroupOf, SoundWith}
use Rattle.groups.specs.Values.{SixteenTables, value_word, TwoValues, ValuePut, PolicyWord, Said, JoinedWord, JoinPut, PolicyHere, held_words, column, GroupUnderway}
use Rattle.groups.proofs.Pairs.{pair-kind}

-- ---- the words held

-- a table put at a height
pub table-put : (Told : ℕ → ℕ → Type 0) (height : ℕ) (values : List (List ℕ)) (table : List ℕ) → SixteenTables values → height < 16 → length table ≡ 16
    → ((k : ℕ) → k < 16 → Told k (get_or table k 0)) → ValuePut Told height values (set values height table)
table-put Told height values table r h room told =
    record {
      room = record { room = length-set values height table ∙ r.room; tables = each };
      told = λ k b. subst (λ (t : List ℕ). Told k (get_or t k 0)) (sym here) (told k b);
      others = λ n d. get_or-set_other values height n table [] d;
    }
  where
    here : get_or (set values height table) height [] ≡ table
    here = get_or-set_same values height table [] (omega (arith, r.room))

    each : (n : ℕ) → n < 16 → length (get_or (set values height table) n []) ≡ 16
    each n b = go (eqb n height) refl
      where
        go : (t : Bool) → eqb n height ≡ t → length (get_or (set values height table) n []) ≡ 16
        go true e = rw (eqb-true n height e, here) room
        go false e = rw (get_or-set_other values height n table [] (eqb-false n height e)) (r.tables n b)

-- what is put at a height changes nothing below it
module _ (Told : ℕ → ℕ → Type 0) (height : ℕ) (values left : List (List ℕ)) (w : ValuePut Told height values left) (k : ℕ) where
  held_below : (n : ℕ) → n ≤ height → held_words left k n ≡ held_words values k n
  unfolding held_words
  held_below zero h = refl
  held_below (suc n) h = ap₂ (λ (x : List ℕ) (xs : List ℕ). get_or x k 0 ∷ xs) (w.others n (λ e. omega arith)) (held_below n (omega arith))

  held_more : held_words left k (height + 1) ≡ value_word left height k ∷ held_words values k height
  unfolding held_words
  held_more = rw (add-one height) (ap (λ (xs : List ℕ). value_word left height k ∷ xs) (held_below height (omega arith)))

-- the last two
held_two : (values : List (List ℕ)) (k height : ℕ) → held_words values k (height + 2) ≡ value_word values (height + 1) k ∷ value_word values height k ∷ held_words values k height
unfolding held_words
held_two values k height = ap (held_words values k) (two height) ∙ ap (λ (i : ℕ). value_word values i k ∷ value_word values height k ∷ held_words values k height) (sym (add-one height))
  where
    two : (n : ℕ) → n + 2 ≡ suc (suc n)
    two n = omega arith

-- ---- the way

group-begins : (ws : List ℕ) (group : ℕ) (values : List (List ℕ)) → SixteenTables values → verdict ws ≡ result tt → group ≤ 63 → GroupUnderway ws group 0 values 0
unfolding records_from no_record held_words column says first-node
group-begins ws group values room v within =
    record { within = within; room = room; node = first-node ws v; level = refl; few = omega arith; at_most = omega arith; same = λ k b j h. refl }

-- no line follows an exclusion
pair_end : (ws : List ℕ) (at : ℕ) (lt : at < length ws / 4) (node : NodeAt ws at) → exclusion ≡ kind_of (get_or ws (at * 4) 0) → suc at ≡ node_end ws at
unfolding node_end so_far_after
pair_end ws at lt node e = omega (arith, ap length (no-owner (at + 1) _ (records_from ws (at + 1)) refl (step ws at lt node exclusion e).1))

-- past a node that ends before index `end`
module _ (ws : List ℕ) (group at end : ℕ) (values : List (List ℕ)) (height : ℕ) (n : NodeTo ws at end) (u : GroupUnderway ws group at values height) where
  -- at the index that the code has
  at-end : (left : List (List ℕ)) (many : ℕ) → GroupUnderway ws group (node_end ws at) left many → GroupUnderway ws group end left many
  at-end left many v = subst (λ (x : ℕ). GroupUnderway ws group x left many) (sym n.ends) v

  -- the values of a set of the group
  abbrev after : List ListedNode → ℕ → ℕ → List Bool → Bool
  after ns k j stack = get_or (run joined (policy_value (group_set group k j)) ns stack) 0 false

  -- a policy adds its words
  module _ (quiet turned : Bool) (e : policy quiet turned ≡ kind_of (get_or ws (at * 4) 0)) where
    kept : (get_or ws (at * 4 + 1) 0 ≤ 65535) × (u.node.above.policies + 1 ≤ 16)
    kept = let k = kept-policy (at + 1) u.node.above (record_at ws at) (kinds (records_from ws (at + 1))) quiet turned (step ws at n.within u.node (policy quiet turned) e).0 in (k.0, k.3)

    pub policy-here : PolicyHere ws at end
    policy-here = record { within = n.within; set = kept.0; lines = policy-lines ws at n.within u.node quiet turned e end n.ends }

    pub policy-room : height < 16
    policy-room = omega (arith, kept.1, u.few, u.level)

    pub past-group-policy : (table : List ℕ) → Said ws at quiet turned group table → GroupUnderway ws group end (set values height table) (height + 1)
    unfolding so_far_after node_then run node-after column
    past-group-policy table s =
        let left = set values height table in
        let w = table-put (PolicyWord (listed_at ws at quiet turned) group) height values table u.room policy-room s.room s.told in
        at-end left (height + 1)
        (record {
          within = u.within;
          room = w.room;
          node = node-after ws at n.within u.node (policy quiet turned) e;
          level = omega (arith, u.level);
          few = omega (arith, u.few);
          at_most = kept.1;
          same = λ k b j h.
              ap (λ (held : List ℕ). after (nodes (records_from ws (node_end ws at))) k j (column j held)) (held_more (PolicyWord (listed_at ws at quiet turned) group) height values left w k)
              ∙ ap (λ (x : Bool). after (nodes (records_from ws (node_end ws at))) k j (x ∷ column j (held_words values k height))) (w.told k b j h)
              ∙ taken_here ws at n.within u.node (group_set group k j) (column j (held_words values k height)) (policy quiet turned) e
              ∙ u.same k b j h;
        })

  -- an exclusion leaves the words as they are
  pub past-group-exclusion : exclusion ≡ kind_of (get_or ws (at * 4) 0) → GroupUnderway ws group end values height
  unfolding so_far_after node_then node-after
  past-group-exclusion e =
      at-end values height
      (record {
        within = u.within;
        room = u.room;
        node = node-after ws at n.within u.node exclusion e;
        level = u.level;
        few = u.few;
        at_most = u.at_most;
        same = λ k b j h. taken_here ws at n.within u.node (group_set group k j) (column j (held_words values k height)) exclusion e ∙ u.same k b j h;
      })

  -- a join makes one value of two
  module _ (o : Join) (e : Kind.join o ≡ kind_of (get_or ws (at * 4) 0)) where
    pub two-values : TwoValues values height
    two-values =
        let k = kept-join (at + 1) u.node.above (record_at ws at) (kinds (records_from ws (at + 1))) o (step ws at n.within u.node (Kind.join o) e).0 in
        record { room = u.room; least = omega (arith, k.3, u.level); most = omega (arith, u.few, u.at_most, u.level) }

    pub past-group-join : (left : List (List ℕ)) → JoinPut o (height - 2) values left → GroupUnderway ws group end left (height - 1)
    unfolding so_far_after node_then run joined_last node-after column
    past-group-join left s =
        at-end left (height - 1)
        (record {
          within = u.within;
          room = s.room;
          node = node-after ws at n.within u.node (Kind.join o) e;
          level = omega (arith, u.level);
          few = omega (arith, u.few);
          at_most = u.at_most;
          same = λ k b j h.
              ap (λ (held : List ℕ). after (nodes (records_from ws (node_end ws at))) k j (column j held)) (ap (held_words left k) one_less ∙ held_more (JoinedWord o (height - 2) values) (height - 2) values left s k)
              ∙ ap (λ (x : Bool). after (nodes (records_from ws (node_end ws at))) k j (x ∷ column j (held_words values k (height - 2)))) (s.told k b j h)
              ∙ ap (λ (held : List ℕ). after (node_then (Kind.join o) (get_or ws (at * 4 + 1) 0) (leading_lines (records_from ws (at + 1))) (nodes (records_from ws (node_end ws at)))) k j (column j held)) (sym (held_two values k (height - 2)) ∙ ap (held_words values k) two-less)
              ∙ taken_here ws at n.within u.node (group_set group k j) (column j (held_words values k height)) (Kind.join o) e
              ∙ u.same k b j h;
        })
      where
        one_less : height - 1 ≡ height - 2 + 1
        one_less = omega (arith, two-values.least)

        two-less : height - 2 + 2 ≡ height
        two-less = omega (arith, two-values.least)

-- past the pairs that the listing begins with
pub past_pairs : (ws : List ℕ) (pairs group : ℕ) (values : List (List ℕ)) → SixteenTables values → SoundWith ws pairs → group ≤ 63 → (n : ℕ) → n ≤ pairs → GroupUnderway ws group n values 0
past_pairs ws pairs group values room s within zero h = group-begins ws group values room s.0 within
past_pairs ws pairs group values room s within (suc n) h =
    let p = pair-kind ws pairs s n (omega arith) in
    let u = past_pairs ws pairs group values room s within n (omega arith) in
    past-group-exclusion ws group n (suc n) values 0 (record { within = p.0; ends = pair_end ws n p.0 u.node p.1 }) u p.1

-- after the last record one value remains
pub group-ends : (ws : List ℕ) (group at : ℕ) (values : List (List ℕ)) (height : ℕ) → length ws / 4 ≤ at → GroupUnderway ws group at values height → GroupOf (says ws) group (get_or values 0 [])
unfolding run nodes column held_words
group-ends ws group at values height h u k b j l =
    sym (ap (λ (n : ℕ). get_or (column j (held_words values k n)) 0 false) one) ∙ rw (from-nil ws at h) at (u.same k b j l)
  where
    one : height ≡ 1
    one = sym u.level ∙ sound-well-formed at u.node.above [] (rw (from-nil ws at h) at u.node.sound)
