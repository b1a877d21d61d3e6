-- Policies, conditions and books in range, and what adding to them keeps.
use Prim.Native.Nat.{ℕ, ◌-◌, ◌^◌, ◌≤◌, ◌<◌}
use mathlib.Core.Bool.{Bool, true, false, not, ◌&&◌}
use mathlib.Core.List.{List, [], ◌∷◌, ◌++◌, map-append}
use mathlib.Core.Option.{Option, none, some}
use mathlib.Core.Path.{◌≡◌, refl, sym, subst, ◌∙◌}
use native.Mathlib.Omega.{arith}
use lib.Dec.{leb, eqb}
use lib.IntN.{ℤ}
use lib.ListN.{length, get_or, set, length-append, length-set, length-map}
use borrow.Author.Tests.{leb-true, ltb-true, eqb-false, not-true}
use lib.Seq.{take_all}
use Rattle.std.specs.List.{refill}
use Rattle.std.proofs.lemmas.List.{get_or_default, take-append-le}
use Rattle.arith.specs.Lists.{exists}
use Rattle.arith.specs.Members.{Each, Distinct}
use Rattle.arith.proofs.EveryExists.{exists-map}
use Rattle.arith.proofs.Distinct.{absent-each, at_most, distinct_more}
use Rattle.arith.proofs.Each.{each_none, each-get, each_more, each-rest, each_set}
use Rattle.arith.proofs.Tests.{and_left, and_right}
use Rattle.arith.specs.Leaves.{leaf_count}
use Rattle.signals.proofs.SetOfLaws.{set_below}
use Rattle.peal.specs.Policies.{Rule, Policy, Exclusion, Condition, Book, mask_of, policy_at}
use Rattle.peal.specs.declared.Operator.{Operator}
use Rattle.peal.specs.declared.Operator.TheVariants.{Min, Max, Sum, Mul}
use Rattle.limits.specs.Limits.{exclusion_in_range, threshold_in_range}
use Rattle.book.specs.Acceptance.{last_policy, room_for_rule, within, default_in_range, score_in_range, mentions_below, missing_default, default_of, no_rules, with_rule, with_policies, with_policy, with_last, with_exclusion, with_condition}
use Rattle.book.specs.Ranges.{signals_of, PolicyInRange, ExclusionInRange, ConditionInRange, BookInRange}

-- ---- a policy and a condition

pub missing-in-range : (old : Bool) (o : Operator) → default_in_range (some (missing_default old o)) ≡ true
unfolding missing_default default_in_range within
missing-in-range true o = refl
missing-in-range false Min = refl
missing-in-range false Max = refl
missing-in-range false Sum = refl
missing-in-range false Mul = refl

pub new-in-range : (old : Bool) (o : Operator) (d : Option ℤ) → default_in_range d ≡ true → PolicyInRange (no_rules o (default_of old o d))
unfolding default_in_range default_of
new-in-range old o none h = record { default = missing-in-range old o; signals = tt; distinct = tt; scores = tt; room = λ _. omega arith }
new-in-range old o (some d) h = record { default = h; signals = tt; distinct = tt; scores = tt; room = λ _. omega arith }

room-in-mul : (o : Operator) (rules : List Rule) → room_for_rule o (length rules) ≡ true → o ≡ Mul → length rules < 8
unfolding room_for_rule
room-in-mul o rules h e = ltb-true (length rules) 8 (subst (λ (x : Operator). room_for_rule x (length rules) ≡ true) e h)

module _ (p : Policy) (h : PolicyInRange p) where
  -- sixteen different signals are all there are
  pub rules-at-most : length p.rules ≤ 16
  rules-at-most = omega (arith, at_most 16 (signals_of p.rules) h.signals h.distinct, length-map p.rules (λ (r : Rule). r.signal))

  pub rule-added : (r : Rule) → room_for_rule p.operator (length p.rules) ≡ true → r.signal < 16 → score_in_range p.operator r.score ≡ true
      → exists (λ (x : Rule). eqb x.signal r.signal) p.rules ≡ false → PolicyInRange (with_rule p r)
  unfolding with_rule
  rule-added r room small score new =
      let more : signals_of (p.rules ++ (r ∷ [])) ≡ signals_of p.rules ++ (r.signal ∷ []) = map-append (λ (x : Rule). x.signal) p.rules (r ∷ []) in
      record {
        default = h.default;
        signals = subst (Each (◌< 16)) (sym more) (each_more (λ (x : ℕ). x < 16) (signals_of p.rules) r.signal h.signals small);
        distinct = subst Distinct (sym more) (distinct_more (signals_of p.rules) r.signal h.distinct (absent-each r.signal (signals_of p.rules) (exists-map (λ (x : Rule). x.signal) (λ y. eqb y r.signal) p.rules ∙ new)));
        scores = each_more (λ (x : Rule). score_in_range p.operator x.score ≡ true) p.rules r h.scores score;
        room = λ e. omega (arith, length-append p.rules (r ∷ []), room-in-mul p.operator p.rules room e);
      }

-- the set of the signals has room in 16 bits
pub mask-fits : (p : Policy) → PolicyInRange p → mask_of p.rules < 2 ^ 16
unfolding mask_of
mask-fits p h = set_below 16 (signals_of p.rules) h.signals h.distinct

-- a rule that was added has a signal in range
pub added-small : (p : Policy) (r : Rule) → PolicyInRange (with_rule p r) → r.signal < 16
unfolding with_rule
added-small p r h = (each-rest (◌< 16) (signals_of p.rules) (r.signal ∷ []) (subst (Each (◌< 16)) (map-append (λ (x : Rule). x.signal) p.rules (r ∷ [])) h.signals)).0

pub condition-in-range : (n : ℕ) (c : Condition) → (threshold_in_range c.threshold && mentions_below n c.expression) ≡ true
    → leaf_count c.expression ≤ 16 → ConditionInRange n c
condition-in-range n c h room =
    let t : Bool = threshold_in_range c.threshold in
    let m : Bool = mentions_below n c.expression in
    record { threshold = and_left t m h; mentions_room = room; mentions = and_right t m h }

-- two signals of 0 to 15 that differ
pub record Apart (a b : ℕ) : Type 0 where
  pub first : a < 16
  pub second : b < 16
  pub apart : a ≡ b → ⊥

pub apart-in-range : (a b : ℕ) → exclusion_in_range a b ≡ true → Apart a b
apart-in-range a b h =
    let both = and_left (leb a 15 && leb b 15) (not (eqb a b)) h in
    let differ = not-true (eqb a b) (and_right (leb a 15 && leb b 15) (not (eqb a b)) h) in
    record {
      first = omega (arith, leb-true a 15 (and_left (leb a 15) (leb b 15) both));
      second = omega (arith, leb-true b 15 (and_right (leb a 15) (leb b 15) both));
      apart = eqb-false a b differ;
    }

-- ---- a book

one-in-range : (ps : List Policy) (i : ℕ) → Each PolicyInRange ps → i < length ps → PolicyInRange (policy_at ps i)
unfolding policy_at
one-in-range ps i k h = each-get PolicyInRange ps i _ k h

-- the policy at the last place
pub last-is : (b : Book) (ps : List Policy) (p : Policy) → ps ≡ b.policies → 0 < length b.policies → p ≡ get_or ps (length ps - 1) p → p ≡ last_policy b
unfolding last_policy policy_at
last-is b ps p same has is = (rw same at is) ∙ get_or_default b.policies _ p _ (omega arith)

-- a policy put at its place in the policies as they were lent
pub policy-put : (ps lent : List Policy) (i : ℕ) (p : Policy) → lent ≡ ps → refill (length ps) ps (set lent i p) ≡ set ps i p
policy-put ps lent i p same =
    let long : length (set ps i p) ≡ length ps = length-set ps i p in
    let room : length ps ≤ length (set ps i p) = omega arith in
    rw (same, take-append-le, take_all (length ps) (set ps i p) (omega arith))

module _ (b : Book) (h : BookInRange b) where
  pub policy-in-range : (i : ℕ) → i < length b.policies → PolicyInRange (policy_at b.policies i)
  policy-in-range i s = one-in-range b.policies i h.policies s

  pub last-in-range : 0 < length b.policies → PolicyInRange (last_policy b)
  unfolding last_policy
  last-in-range s = policy-in-range (length b.policies - 1) (omega arith)

  pub policy-added : (p : Policy) → length b.conditions ≡ 0 → length b.policies < 16 → PolicyInRange p → BookInRange (with_policy b p)
  unfolding with_policy with_policies
  policy-added p empty room k =
      record {
        policies_room = omega (arith, length-append b.policies (p ∷ []));
        exclusions_room = h.exclusions_room;
        conditions_room = h.conditions_room;
        policies = each_more PolicyInRange b.policies p h.policies k;
        exclusions = h.exclusions;
        conditions = each_none (ConditionInRange (length (b.policies ++ (p ∷ [])))) b.conditions empty;
      }

  pub last-changed : (p : Policy) → PolicyInRange p → BookInRange (with_last b p)
  unfolding with_last with_policies
  last-changed p k =
      let same = length-set b.policies (length b.policies - 1) p in
      record {
        policies_room = omega (arith, h.policies_room);
        exclusions_room = h.exclusions_room;
        conditions_room = h.conditions_room;
        policies = each_set PolicyInRange b.policies (length b.policies - 1) p h.policies k;
        exclusions = h.exclusions;
        conditions = rw same h.conditions;
      }

  pub exclusion-added : (x : Exclusion) → length b.exclusions < 16 → ExclusionInRange x → BookInRange (with_exclusion b x)
  unfolding with_exclusion
  exclusion-added x room k =
      record {
        policies_room = h.policies_room;
        exclusions_room = omega (arith, length-append b.exclusions (x ∷ []));
        conditions_room = h.conditions_room;
        policies = h.policies;
        exclusions = each_more ExclusionInRange b.exclusions x h.exclusions k;
        conditions = h.conditions;
      }

  pub condition-added : (c : Condition) → length b.conditions < 8 → ConditionInRange (length b.policies) c → BookInRange (with_condition b c)
  unfolding with_condition
  condition-added c room k =
      record {
        policies_room = h.policies_room;
        exclusions_room = h.exclusions_room;
        conditions_room = omega (arith, length-append b.conditions (c ∷ []));
        policies = h.policies;
        exclusions = h.exclusions;
        conditions = each_more (ConditionInRange (length b.policies)) b.conditions c h.conditions k;
      }
