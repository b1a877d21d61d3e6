-- The nodes of a condition's expression, one by one, by their codes.
use Prim.Native.Nat.{ℕ, ◌+◌, ◌-◌, ◌≤◌, ◌<◌}
use mathlib.Core.List.{List, [], ◌∷◌, ◌++◌, append-nil, append_assoc}
use mathlib.Core.Path.{◌≡◌, refl, sym, ap, subst, ◌∙◌}
use native.Mathlib.Numerals.{add-one}
use native.Mathlib.Omega.{arith}
use lib.IntN.{ℤ}
use Rattle.std.specs.Prelude.{reverse}
use lib.ListN.{length, get_or, drop, length-drop, drop_of_length-le, length-append}
use Rattle.std.proofs.lemmas.List.{drop_more}
use Rattle.arith.specs.Trees.{Node, value, joining, postfix, joined_last, run}
use Rattle.arith.specs.Leaves.{LeavesOne}
use Rattle.arith.proofs.Trees.{run-tree, tree-leaves-one, few-values}
use Rattle.peal.specs.Policies.{Policy, MinMax, smaller, Expression, policy_at}
use Rattle.peal.specs.Score.{of_two, policy_score, score}
use Rattle.text.specs.Codes.{codes_of, node_meaning}
use Rattle.text.specs.declared.expressions.Code.{Code}
use Rattle.text.specs.declared.expressions.Code.TheVariants.{Min}
use Rattle.text.proofs.CodeLaws.{node_of, node-code, codes-nodes, code-node}
use Rattle.score.specs.Pairs.{Is}
use Rattle.score.specs.ExpressionScores.{AreScores, Underway}
use Rattle.score.specs.declared.exact.Exact.{Exact}
use Rattle.score.proofs.WaitingLaws.{waiting-count, last-waits, one-more}

abbrev Nodes : Type 0
Nodes = List (Node MinMax ℕ)

-- the node of a code
pub node-here : (e : Expression) (i : ℕ) (code : Code ℕ) → i < length (codes_of e) → get_or (codes_of e) i Min ≡ code
    → drop i (postfix e) ≡ node_meaning code ∷ drop (i + 1) (postfix e)
node-here e i code h told =
    let same : node_of e i ≡ node_meaning code = sym (node-code (node_of e i)) ∙ ap node_meaning (sym (code-node e i) ∙ told) in
    drop_more (postfix e) i (joining smaller) (omega (arith, codes-nodes e)) ∙ ap (λ (n : Node MinMax ℕ). n ∷ drop (i + 1) (postfix e)) same

module _ (ps : List Policy) (set : ℕ) (e : Expression) where
  abbrev worth : ℕ → ℤ
  worth k = policy_score set (policy_at ps k)

  pub at-start : Underway ps set e 0 []
  unfolding score run
  at-start =
      record {
        values = [];
        held = tt;
        enough = subst (λ (ns : Nodes). LeavesOne ns 0) (append-nil (postfix e)) (tree-leaves-one e [] 0 refl);
        few = omega arith;
        same = ap (λ (ns : Nodes). run of_two worth ns []) (sym (append-nil (postfix e))) ∙ run-tree of_two worth e [] [];
      }

  module _ (i : ℕ) (waiting : List Exact) (u : Underway ps set e i waiting) where
    count : length waiting ≡ length u.values
    count = waiting-count waiting u.values u.held

    -- at a mention
    module _ (m : ℕ) (here : drop i (postfix e) ≡ value m ∷ drop (i + 1) (postfix e)) where
      enough-after : LeavesOne (drop (i + 1) (postfix e)) (length u.values + 1)
      enough-after = subst (λ (ns : Nodes). LeavesOne ns (length u.values)) here u.enough

      pub value-room : i < length (postfix e) → length (postfix e) ≤ 31 → length waiting < 16
      value-room l k =
          omega (arith, count, u.few, length-drop (i + 1) (postfix e), few-values (drop (i + 1) (postfix e)) (length u.values + 1) enough-after)

      pub after-value : (x : Exact) → Is x (worth m) → Underway ps set e (i + 1) (waiting ++ (x ∷ []))
      unfolding run
      after-value x k =
          record {
            values = worth m ∷ u.values;
            held = one-more waiting (waiting ++ (x ∷ [])) x refl (worth m) u.values k u.held;
            enough = subst (LeavesOne (drop (i + 1) (postfix e))) (add-one (length u.values)) enough-after;
            few = omega (arith, u.few);
            same = sym (ap (λ (ns : Nodes). run of_two worth ns u.values) here) ∙ u.same;
          }

    -- at a join
    module _ (j : MinMax) (here : drop i (postfix e) ≡ joining j ∷ drop (i + 1) (postfix e)) where
      enough-joined : (2 ≤ length u.values) × LeavesOne (drop (i + 1) (postfix e)) (length u.values - 1)
      enough-joined = subst (λ (ns : Nodes). LeavesOne ns (length u.values)) here u.enough

      pub two-wait : 2 ≤ length waiting
      two-wait = omega (arith, count, enough-joined.0)

      -- the last two scores are values, and the chosen one takes their place
      module _ (front : List Exact) (one two x : Exact) (last : waiting ≡ front ++ (one ∷ two ∷ [])) where
        pub join-room : i < length (postfix e) → length (postfix e) ≤ 31 → length front < 16
        join-room l k =
            omega (arith, count, u.few, ap length last, length-append front (one ∷ two ∷ []), length-drop (i + 1) (postfix e), few-values (drop (i + 1) (postfix e)) (length u.values - 1) enough-joined.1)

        pub after-join : ((v w : ℤ) → Is one v → Is two w → Is x (of_two j v w)) → Underway ps set e (i + 1) (front ++ (x ∷ []))
        unfolding run joined_last
        after-join f = go u.values u.held enough-joined.0 enough-joined.1 u.few (sym (ap (λ (ns : Nodes). run of_two worth ns u.values) here) ∙ u.same)
          where
            go : (vs : List ℤ) → AreScores (reverse waiting) vs → 2 ≤ length vs → LeavesOne (drop (i + 1) (postfix e)) (length vs - 1) → length vs ≤ i
                → run of_two worth (joining j ∷ drop (i + 1) (postfix e)) vs ≡ score ps set e ∷ [] → Underway ps set e (i + 1) (front ++ (x ∷ []))
            go [] k l m c g = absurd (omega arith)
            go (w ∷ []) k l m c g = absurd (omega arith)
            go (w ∷ v ∷ vs) k l m c g =
                let second = last-waits (front ++ (one ∷ [])) waiting two (last ∙ sym (append_assoc front (one ∷ []) (two ∷ []))) w (v ∷ vs) k in
                let first = last-waits front (front ++ (one ∷ [])) one refl v vs second.1 in
                record {
                  values = of_two j v w ∷ vs;
                  held = one-more front (front ++ (x ∷ [])) x refl (of_two j v w) vs (f v w first.0 second.0) first.1;
                  enough = subst (LeavesOne (drop (i + 1) (postfix e))) (omega arith) m;
                  few = omega arith;
                  same = g;
                }

    -- after the last node one score is left
    module _ (done : length (postfix e) ≤ i) where
      one-left : u.values ≡ score ps set e ∷ []
      unfolding run
      one-left = sym (ap (λ (ns : Nodes). run of_two worth ns u.values) (drop_of_length-le (postfix e) {i = i} done)) ∙ u.same

      pub some-left : 0 < length waiting
      some-left = omega (arith, count, ap length one-left)

      pub at-end : (front : List Exact) (x : Exact) → waiting ≡ front ++ (x ∷ []) → Is x (score ps set e)
      at-end front x last = (last-waits front waiting x last (score ps set e) [] (subst (AreScores (reverse waiting)) one-left u.held)).0
