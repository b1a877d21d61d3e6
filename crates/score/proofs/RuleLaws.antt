-- The present rules of a policy, one by one from the last to the first.
use Prim.Native.Nat.{ℕ, ◌-◌, ◌*◌, ◌^◌, ◌≤◌, ◌<◌}
use mathlib.Core.Bool.{Bool, true, false, cond}
use mathlib.Core.List.{List, [], ◌∷◌, ◌++◌, append_assoc}
use mathlib.Core.Option.{none, some}
use mathlib.Core.Path.{◌≡◌, refl, sym, ap, subst, ◌∙◌}
use native.Mathlib.Omega.{arith}
use native.Mathlib.Nat.{le_trans, pow-le-pow_right}
use lib.Dec.{T}
use lib.IntN.{ℤ, pos, nat_abs, ◌*ℤ◌}
use lib.ListN.{length, length-append}
use lib.Signed.{mag, non_neg}
use mir.Syntax.{w64}
use mir.Val.{Fits, to_z, of_z}
use mir.ValLaws.{to_z_pos}
use Rattle.arith.proofs.Signed.{natural-fits}
use Rattle.arith.specs.Members.{Each}
use Rattle.arith.proofs.Each.{each-rest, each_map}
use Rattle.arith.proofs.Keep.{keep-few, each_keep}
use Rattle.arith.specs.Options.{if◌then◌}
use Rattle.signals.specs.Sets.{present}
use Rattle.peal.specs.Policies.{Rule, Policy}
use Rattle.peal.specs.Score.{scaled, present_rules, applied, score_of, policy_score}
use Rattle.peal.specs.declared.Operator.{Operator}
use Rattle.peal.specs.declared.Operator.TheVariants.{Mul}
use Rattle.limits.specs.Limits.{default_in_range}
use Rattle.book.specs.Ranges.{PolicyInRange}
use Rattle.book.proofs.RangeLaws.{rules-at-most}
use Rattle.book.proofs.ScoreSizes.{within-mag, InScore, InRange, Room}
use Rattle.score.specs.PolicyScores.{rule_score, over, present_of, with_score}
use Rattle.score.specs.declared.policies.Present.{Present}
use Rattle.score.proofs.PolicyLaws.{applied-whole, applied-mul, mul-natural, over-small, present-more}

-- ---- one rule more

-- the last of those that are left is taken
pub one_taken : (rest front taken rules : List Rule) (r : Rule) → rest ++ taken ≡ rules → rest ≡ front ++ (r ∷ []) → front ++ (r ∷ taken) ≡ rules
one_taken rest front taken rules r e f = sym (append_assoc front (r ∷ []) taken) ∙ ap (λ (l : List Rule). l ++ taken) (sym f) ∙ e

module _ (q : Policy) (set : ℕ) (r : Rule) (taken : List Rule) where
  abbrev before : Present
  before = present_of q (present_rules set taken)

  abbrev after : Present
  after = present_of q (present_rules set (r ∷ taken))

  pub present-counted : (v : ℤ) → some v ≡ rule_score set r → with_score q.operator before v ≡ after
  unfolding rule_score present_rules
  present-counted v h = go (present set r.signal) h
    where
      go : (b : Bool) → some v ≡ (if b then some r.score) → with_score q.operator before v ≡ present_of q (cond b (r ∷ present_rules set taken) (present_rules set taken))
      go true h = let e : v ≡ r.score = cc in ap (with_score q.operator before) e ∙ present-more q r (present_rules set taken)
      go false h = cc

  pub absent-left : none ≡ rule_score set r → before ≡ after
  unfolding rule_score present_rules
  absent-left h = go (present set r.signal) h
    where
      go : (b : Bool) → none ≡ (if b then some r.score) → before ≡ present_of q (cond b (r ∷ present_rules set taken) (present_rules set taken))
      go true h = cc
      go false h = refl

-- ---- sizes

value-small : (q : Policy) (rules : List Rule) → mag q.default ≤ 10000 → InRange q.operator rules → Room q.operator (length rules) → mag (present_of q rules).value ≤ 10 ^ 16
unfolding present_of
value-small q [] d h k = omega arith
value-small q (r ∷ rs) d h k = over-small q.operator r rs h k

count_of : (q : Policy) (rules : List Rule) → (present_of q rules).count ≡ length rules
unfolding present_of
count_of q [] = refl
count_of q (r ∷ rs) = refl

-- rule r and those after it, of a policy in range
module _ (q : Policy) (range : PolicyInRange q) (set : ℕ) (front taken : List Rule) (r : Rule) (all : front ++ (r ∷ taken) ≡ q.rules) where
  pub signal-small : r.signal < 16
  signal-small =
      (each-rest (λ (x : Rule). x.signal < 16) front (r ∷ taken)
      (subst (Each (λ (x : Rule). x.signal < 16)) (sym all) (each_map (◌< 16) (λ (x : Rule). x.signal) q.rules range.signals))).0

  fewer : length taken < length q.rules
  fewer = omega (arith, ap length all, length-append front (r ∷ taken))

  pub count-small : (present_of q (present_rules set taken)).count < 16
  unfolding present_rules
  count-small =
      omega (arith, fewer, rules-at-most q range, count_of q (present_rules set taken), keep-few (λ (x : Rule). present set x.signal) taken)

  pub value-kept : mag (present_of q (present_rules set (r ∷ taken))).value ≤ 10 ^ 16
  unfolding present_rules default_in_range
  value-kept =
      let kept = keep-few (λ (x : Rule). present set x.signal) (r ∷ taken) in
      value-small q (present_rules set (r ∷ taken)) (within-mag 10000 10000 q.default range.default 10000 (omega arith) (omega arith))
      (each_keep (λ (x : Rule). present set x.signal) (InScore q.operator) (r ∷ taken)
      (each-rest (InScore q.operator) front (r ∷ taken) (subst (Each (InScore q.operator)) (sym all) range.scores)))
      (omega (arith, fewer, kept, rules-at-most q range), λ m. omega (arith, fewer, kept, range.room m))

-- ---- the score, from the present rules

-- the value is a natural, and fits
pub record Product (so : Present) : Type 0 where
  pub natural : ℕ
  pub same : so.value ≡ pos natural
  pub bound : natural ≤ 100 ^ so.count
  pub room : so.count ≤ 8

module _ (so : Present) (p : Product so) where
  few : p.natural ≤ 10 ^ 16
  few = omega (arith, le_trans p.bound (pow-le-pow_right {n = 100} (omega arith) {j = 8} p.room))

  -- as it is read back
  pub product-back : to_z w64 (of_z w64 so.value) ≡ pos p.natural
  product-back = rw p.same (to_z_pos w64 p.natural (omega (arith, few)))

  pub product-cast : T (non_neg (to_z w64 (of_z w64 so.value))) × Fits w64 (nat_abs (to_z w64 (of_z w64 so.value)))
  product-cast = natural-fits (to_z w64 (of_z w64 so.value)) p.natural product-back (omega (arith, few))

  pub product-is : (n : ℕ) → pos (nat_abs (to_z w64 (of_z w64 so.value)) * n) ≡ so.value *ℤ pos n
  product-is n = rw (product-back, p.same) refl

module _ (set : ℕ) (q : Policy) (so : Present) (told : so ≡ present_of q (present_rules set q.rules)) where
  -- min, max and sum, and the default
  pub whole-score : (q.operator ≡ Mul → so.count ≡ 0) → scaled so.value ≡ policy_score set q
  unfolding policy_score score_of present_of
  whole-score h = go (present_rules set q.rules) told
    where
      go : (rs : List Rule) → so ≡ present_of q rs → scaled so.value ≡ score_of q rs
      go [] e = ap (λ (x : Present). scaled x.value) e
      go (r ∷ rs) e =
          ap (λ (x : Present). scaled x.value) e
          ∙ applied-whole q.operator (λ m. let none = h m in omega (arith, ap (λ (x : Present). x.count) e)) r rs

  -- some rule of a mul policy is present
  module _ (is_mul : q.operator ≡ Mul) (some : 0 < so.count) where
    pub product-score : so.value *ℤ pos (100 ^ (8 - so.count)) ≡ policy_score set q
    unfolding policy_score score_of present_of
    product-score = go (present_rules set q.rules) told
      where
        go : (rs : List Rule) → so ≡ present_of q rs → so.value *ℤ pos (100 ^ (8 - so.count)) ≡ score_of q rs
        go [] e = absurd (omega (arith, ap (λ (x : Present). x.count) e))
        go (r ∷ rs) e =
            ap (λ (x : Present). x.value *ℤ pos (100 ^ (8 - x.count))) e
            ∙ subst (λ (o : Operator). over o r rs *ℤ pos (100 ^ (8 - length (r ∷ rs))) ≡ applied o r rs) (sym is_mul) (applied-mul r rs)

    pub product-fits : PolicyInRange q → Product so
    unfolding present_of present_rules
    product-fits range =
        let here : Rule → Bool = λ r. present set r.signal in
        go (present_rules set q.rules) told (each_keep here (InScore q.operator) q.rules range.scores) (omega (arith, keep-few here q.rules, range.room is_mul))
      where
        go : (rs : List Rule) → so ≡ present_of q rs → InRange q.operator rs → length rs ≤ 8 → Product so
        go [] e h k = absurd (omega (arith, ap (λ (x : Present). x.count) e))
        go (r ∷ rs) e h k =
            let (n, f, l) = mul-natural r rs (subst (λ (o : Operator). InRange o (r ∷ rs)) is_mul h) in
            subst Product (sym e) (record { natural = n; same = ap (λ (o : Operator). over o r rs) is_mul ∙ f; bound = l; room = k })
