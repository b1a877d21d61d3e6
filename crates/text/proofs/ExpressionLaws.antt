-- Laws of expressions: what reading a policy number, a join and an expression at a place comes to, and what it adds to the codes.
use Prim.Native.Nat.{ℕ, zero, suc, ◌+◌, ◌-◌, ◌≤◌, ◌<◌}
use mathlib.Core.Path.{◌≡◌, refl, ap, subst, ◌∙◌}
use mathlib.Core.Bool.{Bool, true, false}
use mathlib.Core.List.{List, [], ◌∷◌, ◌++◌, append_assoc}
use mathlib.Core.Option.{Option, none, some}
use native.Mathlib.Omega.{arith}
use lib.Dec.{eqb}
use lib.ListN.{length, take, drop, length-take, length-drop, length-append}
use lib.Seq.{drop-drop, drop-cons, drop-length}
use borrow.Author.Tests.{eqb-true, eqb-false}
use Rattle.std.specs.Prelude
use Rattle.std.specs.Prelude.{Some, None}
use Rattle.arrayvec.specs.ArrayVec.{ArrayVec}
use Rattle.arith.specs.Trees.{leaf, join, joining}
use Rattle.peal.specs.Policies.{MinMax, smaller, larger, Expression}
use Rattle.text.specs.Text.{bytes, begins}
use Rattle.text.specs.Numbers.{natural}
use Rattle.text.specs.Expressions.{mention_word, min_max_word, digit_count, mention, leading_join, leading_expression, nothing_after, expression}
use Rattle.text.specs.Codes.{code_of, codes_of}
use Rattle.text.specs.Parsing.{CanRead, MentionRead, Leads, TreeRead, LeadingRead, PairLeads, TwoRead, WholeRead, CodesRead, ExpressionRead}
use Rattle.text.specs.declared.expressions.Code.{Code}
use Rattle.text.specs.declared.expressions.Code.TheVariants.{Policy}
use Rattle.text.proofs.NumberLaws.{digits-within, natural-length}
use Rattle.text.proofs.WordLaws.{word_room}
use Rattle.text.proofs.CodeLaws.{codes-leaf, codes-join}

-- ---- what a contract says, by the answer that was given

module _ (line : List ℕ) (at : ℕ) (r : Prelude.Option (ArrayVec (Code ℕ))) where
  pub expression-found : ExpressionRead line at r → {codes : ArrayVec (Code ℕ)} → r ≡ Some codes → WholeRead line at codes.items
  unfolding ExpressionRead
  expression-found h e = subst (ExpressionRead line at) e h

  pub expression-not-found : ExpressionRead line at r → r ≡ None → expression (drop at line) ≡ none
  unfolding ExpressionRead
  expression-not-found h e = subst (ExpressionRead line at) e h

-- the same where the codes were lent
pub codes-found : (line : List ℕ) (at : ℕ) {t : Bool} {codes : List (Code ℕ)} → CodesRead line at t codes → t ≡ true → WholeRead line at codes
unfolding CodesRead
codes-found line at {codes = codes} h e = subst (λ (t : Bool). CodesRead line at t codes) e h

-- ---- room

-- further on in the line
pub can-on : (line : List ℕ) (at k n : ℕ) → CanRead line at n → at + k ≤ length line → CanRead line (at + k) n
can-on line at k n can h = record { short = can.short; within = h; room = omega (arith, can.room) }

-- ---- a policy number, from its first digit to the end of its digits

module _ (line : List ℕ) (at : ℕ) (before : List (Code ℕ)) (end : ℕ) (q : end ≡ at + digit_count (drop at line)) where
  digits_are : take (end - at) (drop at line) ≡ take (digit_count (drop at line)) (drop at line)
  digits_are = let u : digit_count (drop at line) ≡ end - at = omega arith in rw u

  pub no-mention : (codes : List (Code ℕ)) → natural (take (end - at) (drop at line)) ≡ none → MentionRead line at before None codes
  unfolding MentionRead mention
  no-mention codes h = rw (← digits_are, h)

  module _ (policy : ℕ) (h : natural (take (end - at) (drop at line)) ≡ some policy) where
    a-mention : mention (drop at line) ≡ some (leaf policy, drop end line)
    unfolding mention
    a-mention = rw (← digits_are, h, drop-drop (digit_count (drop at line)) at line, ← q)

    pub mention-put : (codes : List (Code ℕ)) → at ≤ length line → codes ≡ before ++ (Policy policy ∷ []) → MentionRead line at before (Some end) codes
    unfolding MentionRead
    mention-put codes w p =
        let forward : at < end = omega (arith, natural-length _ policy h, length-take (end - at) (drop at line)) in
        record {
          policy = policy;
          found = a-mention;
          read =
              record {
                within = omega (arith, digits-within (drop at line), length-drop at line);
                forward = forward;
                room = omega (arith, ap length p, length-append before (Policy policy ∷ []));
                same = rw (codes-leaf policy) p;
              };
        }

-- ---- `min` and `max`

pub join-length : (m : MinMax) → length (min_max_word m) ≡ 3
unfolding min_max_word
join-length smaller = refl
join-length larger = refl

pub join-begins : (s : List ℕ) (m : MinMax) → leading_join s ≡ some m → begins (min_max_word m) s ≡ true
unfolding leading_join
join-begins s m e = grind arith

-- where one stands, its three bytes are there
pub join-room : (m : MinMax) (s : List ℕ) (i : ℕ) → i ≤ length s → leading_join (drop i s) ≡ some m → i + 3 ≤ length s
join-room m s i l e = omega (arith, word_room (min_max_word m) s i l (join-begins (drop i s) m e), join-length m)

-- ---- an expression

module _ (line : List ℕ) (at : ℕ) (before : List (Code ℕ)) where
  -- where the definition says so at the bounds above 0
  leads : {e : Expression} {s : List ℕ} → at < length line → ((j : ℕ) → length line ≤ suc j + at → leading_expression (suc j) (drop at line) ≡ some (e, s)) → Leads line at (some (e, s))
  leads w f zero l = absurd (omega arith)
  leads w f (suc j) l = f j l

  leads-not : (codes : List (Code ℕ)) → ((j : ℕ) → length line ≤ suc j + at → leading_expression (suc j) (drop at line) ≡ none) → LeadingRead line at before None codes
  unfolding LeadingRead leading_expression
  leads-not codes f zero l = refl
  leads-not codes f (suc j) l = f j l

  module _ (w : at ≤ length line) (h : begins (bytes "p") (drop at line) ≡ true) where
    by-mention : (j : ℕ) → leading_expression (suc j) (drop at line) ≡ mention (drop (at + 1) line)
    unfolding leading_expression mention_word
    by-mention j = rw (h, drop-drop 1 at line)

    pub leading-mention : (r : Prelude.Option ℕ) (codes : List (Code ℕ)) → MentionRead line (at + 1) before r codes → LeadingRead line at before r codes
    unfolding MentionRead LeadingRead
    leading-mention (Some end) codes g =
        record {
          tree = leaf g.policy;
          found = leads (omega (arith, word_room (bytes "p") line at w h)) (λ j l. by-mention j ∙ g.found);
          read =
              record {
                within = g.read.within;
                forward = omega (arith, g.read.forward);
                room = omega (arith, g.read.room);
                same = g.read.same;
              };
        }
    leading-mention None codes g = leads-not codes (λ j l. by-mention j ∙ g)

  module _ (codes : List (Code ℕ)) (h : begins (bytes "p") (drop at line) ≡ false) where
    pub leading-no-join : leading_join (drop at line) ≡ none → LeadingRead line at before None codes
    unfolding leading_expression mention_word
    leading-no-join e = leads-not codes (λ j l. rw (h, e))

    module _ (m : MinMax) (e : leading_join (drop at line) ≡ some m) where
      pub leading-no-pair : PairLeads line (at + 3) none → LeadingRead line at before None codes
      unfolding leading_expression mention_word
      leading-no-pair f = leads-not codes (λ j l. rw (h, e, join-length m, drop-drop 3 at line, f j (omega arith)))

      pub leading-joined : (end : ℕ) (middle : List (Code ℕ)) → TwoRead line (at + 3) before end middle → (code : Code ℕ) → at ≤ length line → code ≡ code_of (joining m) → codes ≡ middle ++ (code ∷ [])
          → LeadingRead line at before (Some end) codes
      unfolding LeadingRead leading_expression mention_word
      leading-joined end middle g code w c p =
          record {
            tree = join m g.left g.right;
            found = leads (omega (arith, join-room m line at w e)) (λ j l. rw (h, e, join-length m, drop-drop 3 at line, g.found j (omega arith)));
            read =
                record {
                  within = g.read.within;
                  forward = omega (arith, g.read.forward);
                  room = omega (arith, g.read.room, ap length p, length-append middle (code ∷ []));
                  same =
                      p ∙ rw (c, g.read.same, codes-join m g.left g.right)
                      (append_assoc before (codes_of g.left ++ codes_of g.right) (code_of (joining m) ∷ []));
                };
          }

-- ---- the whole field

module _ (line : List ℕ) (at : ℕ) (can : CanRead line at 0) where
  by-leading : {o : Option (Expression × List ℕ)} → Leads line at o → expression (drop at line) ≡ nothing_after o
  unfolding expression
  by-leading f = rw (f (length (drop at line)) (omega (arith, can.within, length-drop at line)))

  pub no-expression : Leads line at none → ExpressionRead line at None
  unfolding ExpressionRead nothing_after
  no-expression f = by-leading f

  -- the same where the codes were lent
  pub no-codes : Leads line at none → (codes : List (Code ℕ)) → CodesRead line at false codes
  unfolding CodesRead nothing_after
  no-codes f codes = by-leading f

  module _ {before : List (Code ℕ)} {end : ℕ} {codes : List (Code ℕ)} (r : TreeRead line at before end codes) where
    pub more-after : (end ≡ length line → ⊥) → ExpressionRead line at None
    unfolding ExpressionRead nothing_after
    more-after n =
        let l : end < length line = omega (arith, r.read.within) in
        by-leading r.found ∙ rw (drop-cons line end 0 l)

    pub whole-read : before ≡ [] → end ≡ length line → WholeRead line at codes
    unfolding nothing_after
    whole-read b e =
        record {
          tree = r.tree;
          found = by-leading r.found ∙ rw (e, drop-length line);
          same = r.read.same ∙ ap (◌++ codes_of r.tree) b;
        }

    -- both where the codes were lent
    pub codes-read : before ≡ [] → CodesRead line at (eqb end (length line)) codes
    unfolding ExpressionRead CodesRead
    codes-read b = go (eqb end (length line)) refl
      where
        go : (t : Bool) → eqb end (length line) ≡ t → CodesRead line at t codes
        go true h = whole-read b (eqb-true end (length line) h)
        go false h = more-after (eqb-false end (length line) h)

-- every way through `read_mention`, through the whole field, and through `read_leading`
pub ruleset mention_ways = (digits-within, length-drop, no-mention, mention-put)

pub ruleset whole_ways = (no-expression, more-after, whole-read, no-codes, codes-read)

pub ruleset expression_ways = (word_room, can-on, join-room, leading-mention, leading-no-join, leading-no-pair, leading-joined)
