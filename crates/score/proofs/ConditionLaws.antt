-- Condition n of a book, its codes one by one.
use Prim.Native.Nat.{ℕ, ◌+◌, ◌≤◌, ◌<◌}
use mathlib.Core.List.{List, [], ◌∷◌, ◌++◌}
use mathlib.Core.Path.{◌≡◌, sym, ap, subst, ◌∙◌}
use native.Mathlib.Omega.{arith}
use lib.IntN.{ℤ}
use lib.ListN.{length, get_or, drop}
use Rattle.std.proofs.lemmas.List.{get_or_default}
use Rattle.arith.specs.Trees.{Node, value, joining, postfix}
use Rattle.peal.specs.Policies.{Policy, MinMax, Expression, Condition, Book, policy_at}
use Rattle.peal.specs.Score.{of_two, policy_score, score}
use Rattle.peal.specs.Standins.{no_condition}
use Rattle.text.specs.Codes.{code_of, codes_of, node_meaning}
use Rattle.text.specs.declared.expressions.Code.{Code}
use Rattle.text.specs.declared.expressions.Code.TheVariants.{Min, Policy as Mention}
use Rattle.text.proofs.CodeLaws.{node-code, codes-nodes}
use Rattle.book.specs.Ranges.{BookInRange}
use Rattle.book.specs.Asked.{the_condition}
use Rattle.book.proofs.KeptLaws.{mention-kept, codes-few}
use Rattle.score.specs.Pairs.{Is}
use Rattle.score.specs.ExpressionScores.{Underway}
use Rattle.score.specs.declared.exact.Exact.{Exact}
use Rattle.score.proofs.NodeLaws.{node-here, value-room, after-value, two-wait, join-room, after-join, some-left, at-end}

-- as they are read
pub condition-read : (b : Book) (n : ℕ) → n < length b.conditions → (cs : List Condition) → cs ≡ b.conditions → (c : Condition) → c ≡ get_or cs n c → c ≡ the_condition b n
condition-read b n h cs e c f =
    f ∙ ap (λ (l : List Condition). get_or l n c) e ∙ get_or_default b.conditions n c no_condition h

pub policy-read : (ps : List Policy) (k : ℕ) → k < length ps → (qs : List Policy) → qs ≡ ps → (p : Policy) → p ≡ get_or qs k p → p ≡ policy_at ps k
unfolding policy_at
policy-read ps k h qs e p f = f ∙ ap (λ (l : List Policy). get_or l k p) e ∙ get_or_default ps k p _ h

-- what the code has read of condition n: its codes, of a book in range
pub record Read (b : Book) (n : ℕ) (codes : List (Code ℕ)) : Type 0 where
  pub there : n < length b.conditions
  pub range : BookInRange b
  pub are : codes ≡ codes_of (the_condition b n).expression

pub is_read : (b : Book) (n : ℕ) → n < length b.conditions → BookInRange b → (cs : List Condition) → cs ≡ b.conditions → (c : Condition) → c ≡ get_or cs n c
    → (codes : List (Code ℕ)) → codes ≡ codes_of c.expression → Read b n codes
is_read b n h r cs e c f codes g =
    record { there = h; range = r; are = g ∙ ap (λ (x : Condition). codes_of x.expression) (condition-read b n h cs e c f) }

-- node i of condition n, and what waits before it
module _ {b : Book} {n : ℕ} {codes : List (Code ℕ)} (r : Read b n codes) {set i : ℕ} {waiting : List Exact}
    (u : Underway b.policies set (the_condition b n).expression i waiting) where
  abbrev e : Expression
  e = (the_condition b n).expression

  module _ (inside : i < length codes) where
    within : i < length (codes_of e)
    within = omega (arith, ap length r.are)

    few-nodes : (i < length (postfix e)) × (length (postfix e) ≤ 31)
    few-nodes = (omega (arith, within, codes-nodes e), omega (arith, codes-few b n r.there r.range, codes-nodes e))

    told-of : (code : Code ℕ) → get_or codes i (Mention 0) ≡ code → get_or (codes_of e) i Min ≡ code
    told-of code told =
        get_or_default (codes_of e) i Min (Mention 0) within ∙ ap (λ (l : List (Code ℕ)). get_or l i (Mention 0)) (sym r.are) ∙ told

    -- a mention
    module _ {k : ℕ} (told : get_or codes i (Mention 0) ≡ Mention k) where
      here : drop i (postfix e) ≡ value k ∷ drop (i + 1) (postfix e)
      unfolding node_meaning
      here = node-here e i (Mention k) within (told-of (Mention k) told)

      pub policy-there : k < length b.policies
      policy-there = mention-kept b n r.there r.range i k within (told-of (Mention k) told)

      pub mention-room : length waiting < 16
      mention-room = value-room b.policies set e i waiting u k here few-nodes.0 few-nodes.1

      pub past-mention : {p : Policy} → p ≡ policy_at b.policies k → {x : Exact} → Is x (policy_score set p) → Underway b.policies set e (i + 1) (waiting ++ (x ∷ []))
      past-mention {p} same {x} h = after-value b.policies set e i waiting u k here x (subst (λ (q : Policy). Is x (policy_score set q)) same h)

    -- a join
    module _ (j : MinMax) (told : get_or codes i (Mention 0) ≡ code_of (joining j)) where
      joined : drop i (postfix e) ≡ joining j ∷ drop (i + 1) (postfix e)
      joined = subst (λ (m : Node MinMax ℕ). drop i (postfix e) ≡ m ∷ drop (i + 1) (postfix e)) (node-code (joining j)) (node-here e i (code_of (joining j)) within (told-of (code_of (joining j)) told))

      pub two-there : 2 ≤ length waiting
      two-there = two-wait b.policies set e i waiting u j joined

      module _ (front : List Exact) (one two : Exact) (last : waiting ≡ front ++ (one ∷ two ∷ [])) where
        pub one-fits : length front < 16
        one-fits = join-room b.policies set e i waiting u j joined front one two one last few-nodes.0 few-nodes.1

        pub past-join : {x : Exact} → ((v w : ℤ) → Is one v → Is two w → Is x (of_two j v w)) → Underway b.policies set e (i + 1) (front ++ (x ∷ []))
        past-join {x} f = after-join b.policies set e i waiting u j joined front one two x last f

  -- after the last node
  module _ (done : length codes ≤ i) where
    nodes-done : length (postfix e) ≤ i
    nodes-done = omega (arith, ap length r.are, codes-nodes e)

    pub one-there : 0 < length waiting
    one-there = some-left b.policies set e i waiting u nodes-done

    pub score-left : (front : List Exact) (x : Exact) → waiting ≡ front ++ (x ∷ []) → Is x (score b.policies set e)
    score-left front x last = at-end b.policies set e i waiting u nodes-done front x last
