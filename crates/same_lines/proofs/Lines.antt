-- Lines that share a signal with the mask, and none of which lies inside another, are told by the sets that hold one.
use Prim.Native.Nat.{ℕ, ◌≤◌, ◌<◌}
use mathlib.Core.Bool.{Bool, true, false, not, cond}
use mathlib.Core.Logic.{◌⊎◌, inl, inr, ⊎_elim}
use mathlib.Core.Path.{◌≡◌, refl, sym, ap, ap₂, subst, ◌∙◌}
use native.Mathlib.Omega.{arith}
use Rattle.arith.specs.Lists.{exists}
use Rattle.arith.proofs.EveryExists.{exists-in, exists-out}
use Rattle.arith.proofs.Order.{le-or-lt}
use Rattle.arith.proofs.Tests.{clash, not_yes}
use Rattle.signals.specs.Sets.{inside, overlap}
use Rattle.signals.proofs.SetOfLaws.{inside-self, inside-then, overlap-then, inside-le}
use Rattle.layout.specs.Nodes.{ListedPolicy}
use Rattle.rod.specs.Reading.{some_line, policy_value}
use Rattle.arith.specs.Members.{Among}

-- what is known of the lines of a compiled policy: none lies inside another
pub record Incomparable (p : ListedPolicy) : Type 0 where
  pub small : (l : ℕ) → Among l p.lines → l ≤ 65535
  pub shares : (l : ℕ) → Among l p.lines → overlap p.mask l ≡ true
  pub same : (l m : ℕ) → Among l p.lines → Among m p.lines → inside m l ≡ true → m ≡ l

-- yes if some line lies inside the set, turned over if turned
abbrev pub by_lines : ListedPolicy → ℕ → Bool
by_lines r set = cond r.turned (not (some_line r.lines set)) (some_line r.lines set)

-- ---- what binds the lines of two policies to what they say

pub record Bound (p q : ListedPolicy) : Type 0 where
  pub turned : p.turned ≡ q.turned
  -- where a line of each lies inside a set, or of neither, they say the same of it
  pub alike : (set : ℕ) → some_line p.lines set ≡ some_line q.lines set → policy_value set p ≡ policy_value set q
  -- of a line of either each goes by its lines
  pub first : (set : ℕ) → Among set p.lines ⊎ Among set q.lines → policy_value set p ≡ by_lines p set
  pub second : (set : ℕ) → Among set p.lines ⊎ Among set q.lines → policy_value set q ≡ by_lines q set

pub bound-back : {p q : ListedPolicy} → Bound p q → Bound q p
bound-back h =
    record {
      turned = sym h.turned;
      alike = λ set e. sym (h.alike set (sym e));
      first = λ set m. h.second set (⊎_elim inr inl m);
      second = λ set m. h.first set (⊎_elim inr inl m);
    }

-- what a policy says of a set that shares a signal with its mask
value-inside : (r : ListedPolicy) (set : ℕ) → overlap r.mask set ≡ true → policy_value set r ≡ by_lines r set
unfolding policy_value
value-inside r set o = rw o refl

-- where quiet is as turned, what it says of every set: if that shares no signal with the mask, no line lies inside it
value-plain : (r : ListedPolicy) → Incomparable r → r.quiet ≡ r.turned → (set : ℕ) → policy_value set r ≡ by_lines r set
unfolding policy_value some_line
value-plain r a plain set = go (overlap r.mask set) refl
  where
    own : (t : Bool) → t ≡ cond t true false
    own true = refl
    own false = refl

    go : (o : Bool) → overlap r.mask set ≡ o → cond o (by_lines r set) r.quiet ≡ by_lines r set
    go true e = refl
    go false e =
        let none : exists (λ l. inside l set) r.lines ≡ false =
        not_yes (exists (λ l. inside l set) r.lines) (λ h.
        let (l, m, i) = exists-out (λ l. inside l set) r.lines h in clash (overlap-then r.mask l set (a.shares l m) i) e) in
        plain ∙ rw none (own r.turned)

module _ (p q : ListedPolicy) (a : Incomparable p) (b : Incomparable q) (turned : p.turned ≡ q.turned) where
  -- with equal quiet and mask: a line shares a signal with the mask
  pub bound-by-mask : p.quiet ≡ q.quiet → p.mask ≡ q.mask → Bound p q
  unfolding policy_value
  bound-by-mask quiet mask =
      record {
        turned = turned;
        alike = λ set same. rw (quiet, turned, mask, same) refl;
        first = λ set m. value-inside p set (here set m);
        second = λ set m. value-inside q set (ap (λ (k : ℕ). overlap k set) (sym mask) ∙ here set m);
      }
    where
      here : (set : ℕ) → Among set p.lines ⊎ Among set q.lines → overlap p.mask set ≡ true
      here set m = ⊎_elim (a.shares set) (λ (n : Among set q.lines). ap (λ (k : ℕ). overlap k set) mask ∙ b.shares set n) m

  -- with quiet as turned: they go by their lines, whatever the mask
  pub bound-by-lines : p.quiet ≡ p.turned → q.quiet ≡ q.turned → Bound p q
  bound-by-lines f g =
      record {
        turned = turned;
        alike = λ set same. value-plain p a f set ∙ ap₂ (λ (t s : Bool). cond t (not s) s) turned same ∙ sym (value-plain q b g set);
        first = λ set m. value-plain p a f set;
        second = λ set m. value-plain q b g set;
      }

-- ---- the lines are told

turned_same : (t a b : Bool) → cond t (not a) a ≡ cond t (not b) b → a ≡ b
turned_same false a b e = e
turned_same true true true e = refl
turned_same true true false e = sym e
turned_same true false true e = sym e
turned_same true false false e = refl

module _ (p q : ListedPolicy) (a : Incomparable p) (b : Incomparable q) (bound : Bound p q) where
  -- of a line of either of which they say the same, a line of each lies inside it, or of neither
  both-lines : (set : ℕ) → Among set p.lines ⊎ Among set q.lines → policy_value set p ≡ policy_value set q
      → some_line p.lines set ≡ some_line q.lines set
  both-lines set m e =
      turned_same q.turned (some_line p.lines set) (some_line q.lines set)
      (ap (λ (t : Bool). cond t (not (some_line p.lines set)) (some_line p.lines set)) (sym bound.turned) ∙ sym (bound.first set m) ∙ e ∙ bound.second set m)

  -- a line of the one up to which they say the same is a line of the other: inside it lies one of the other, and inside that
  -- one of the first, which is the line itself
  pub line-there : (l : ℕ) → ((set : ℕ) → set ≤ l → policy_value set p ≡ policy_value set q) → Among l p.lines → Among l q.lines
  unfolding some_line
  line-there l alike x =
      let (m, y, i) = exists-out (λ k. inside k l) q.lines (sym (both-lines l (inl x) (alike l (omega arith))) ∙ exists-in (λ k. inside k l) x (inside-self l)) in
      let below : m ≤ l = inside-le m l (b.small m y) i in
      let (k, z, j) = exists-out (λ k. inside k m) p.lines (both-lines m (inr y) (alike m below) ∙ exists-in (λ k. inside k m) y (inside-self m)) in
      let itself : k ≡ l = a.same l k x z (inside-then k m l j i) in
      let same : m ≡ l = omega (arith, itself, inside-le k m (a.small k z) j, below) in
      subst (λ (n : ℕ). Among n q.lines) same y

  -- where they say the same below a set, and only a line of the first lies inside it, that line is the set
  pub line-here : (set : ℕ) → ((i : ℕ) → i < set → policy_value i p ≡ policy_value i q)
      → some_line p.lines set ≡ true → some_line q.lines set ≡ false → Among set p.lines × (Among set q.lines → ⊥)
  unfolding some_line
  line-here set alike mine other =
      let (l, x, i) = exists-out (λ l. inside l set) p.lines mine in
      let reached : set ≤ l =
      ⊎_elim (λ (h : set ≤ l). h) (λ (h : l < set). clash (exists-in (λ l. inside l set) (line-there l (λ k g. alike k (omega arith)) x) i) other) (le-or-lt set l) in
      let same : l ≡ set = omega (arith, reached, inside-le l set (a.small l x) i) in
      (subst (λ (n : ℕ). Among n p.lines) same x, λ y. clash (exists-in (λ l. inside l set) y (inside-self set)) other)
