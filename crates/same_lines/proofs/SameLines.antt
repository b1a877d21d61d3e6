-- The lines of a compiled policy are told by its decisions, and by the comparison.
use Prim.Native.Nat.{ℕ, zero, suc, ◌≤◌, ◌<◌}
use mathlib.Core.Bool.{Bool, true, false, not, cond, beq, not-not}
use mathlib.Core.List.{List}
use mathlib.Core.Logic.{◌↔◌, inl, inr, ⊎_elim}
use mathlib.Core.Path.{◌≡◌, refl, sym, ap, subst, ◌∙◌}
use native.Mathlib.Omega.{arith}
use Rattle.std.specs.Prelude.{Result, Ok, Err}
use Rattle.answers.specs.Answers.{result}
use Rattle.answers.proofs.Results.{result-is}
use Rattle.arith.proofs.EveryExists.{exists-in}
use Rattle.arith.proofs.Order.{le-or-lt}
use Rattle.arith.proofs.Reordering.{exists-reordered}
use Rattle.arith.proofs.Tests.{clash, beq_same, beq-self}
use Rattle.signals.specs.Sets.{inside}
use Rattle.signals.proofs.SetOfLaws.{inside-self}
use Rattle.layout.specs.Records.{policy, kind_of}
use Rattle.layout.specs.Nodes.{ListedPolicy}
use Rattle.layout.proofs.KindLaws.{kind-policy}
use Rattle.rod.specs.Reading.{some_line, policy_value, says, rod_answer}
use Rattle.checks.specs.Checks.{permitted, Which, first, second, alike, differ_at}
use Rattle.checks.specs.Meaning.{comparison_meaning}
use Rattle.checks.specs.declared.Comparison.{Comparison}
use Rattle.checks.specs.declared.Comparison.TheVariants.{Alike, Differ}
use Rattle.checks.specs.declared.CompareError.{CompareError}
use Rattle.checks.proofs.Answers.{comparison-tells, alike-tells}
use Rattle.arith.specs.Members.{Among}
use Rattle.arith.proofs.Distinct.{same-members}
use Rattle.same_lines.specs.SameLines.{SameKind, SameKindAndMask, SamePlainKind, NoExclusions, TwoPolicies, SameLines, OfOneAlone, LowestOfOneAlone, AlikeOn, DecideAlike, LowestApart, Compared, other_of, AloneOf, NamesLine, LinesTell, SameLinesSamePolicy}
use Rattle.same_lines.proofs.Lines.{Incomparable, by_lines, Bound, bound-back, bound-by-mask, bound-by-lines, line-there, line-here}
use Rattle.same_lines.proofs.Compiled.{Known, known}

-- a kind tells quiet and turned
kind-tells : (p q : ListedPolicy) → SameKind p q → (p.quiet ≡ q.quiet) × (p.turned ≡ q.turned)
kind-tells p q same =
    let kinds : policy p.quiet p.turned ≡ policy q.quiet q.turned =
    sym (kind-policy p.quiet p.turned) ∙ ap kind_of same ∙ kind-policy q.quiet q.turned in
    (cc, cc)

-- the rod says of each set what the policy says
answered : (listing : List ℕ) (p : ListedPolicy) → Known listing p → (set : ℕ) → rod_answer listing set ≡ result (policy_value set p)
unfolding rod_answer
answered listing p k set = rw (k.sound, k.saying set) refl

-- two answers that are not different are the same
or-the-same : (a b : Bool) → ((a ≡ b → ⊥) → a ≡ b) → a ≡ b
or-the-same true true h = refl
or-the-same false false h = refl
or-the-same true false h = h (λ e. clash refl e)
or-the-same false true h = h (λ e. clash refl (sym e))

-- only `Ok Alike` means alike
only-alike : (answer : Result Comparison CompareError) → comparison_meaning answer ≡ alike → answer ≡ Ok Alike
only-alike (Ok Alike) h = refl
only-alike (Ok (Differ set which)) h = cc
only-alike (Err e) h = cc

-- which of the two has the line where the first says this: the one that says yes, or if turned the other
abbrev owner : Bool → Bool → Which
owner turned said = cond turned (other_of (cond said first second)) (cond said first second)

first-owns : (t v : Bool) → v ≡ cond t false true → owner t v ≡ first
first-owns true v e = rw e refl
first-owns false v e = rw e refl

second-owns : (t v w : Bool) → w ≡ cond t false true → (v ≡ w → ⊥) → owner t v ≡ second
second-owns true true w e differ = refl
second-owns true false w e differ = absurd (differ (sym e))
second-owns false true w e differ = absurd (differ (sym e))
second-owns false false w e differ = refl

module _ (one two : List ℕ) (p q : ListedPolicy) (a : Known one p) (b : Known two q) (bound : Bound p q) where
  -- the policies say the same of a set
  abbrev SameValue : ℕ → Type 0
  SameValue set = policy_value set p ≡ policy_value set q

  -- ---- the decisions

  -- the rod answers the same exactly where they do
  answers-then : (set : ℕ) → AlikeOn one two set → SameValue set
  answers-then set e = result-is (sym (answered one p a set) ∙ e ∙ answered two q b set)

  then-answers : (set : ℕ) → SameValue set → AlikeOn one two set
  then-answers set e = answered one p a set ∙ ap result e ∙ sym (answered two q b set)

  -- what is so below a set and on it is so up to it
  up_to : (set : ℕ) → ((i : ℕ) → i < set → SameValue i) → SameValue set → (i : ℕ) → i ≤ set → SameValue i
  up_to set below here i l =
      ⊎_elim (λ (k : set ≤ i). let same : i ≡ set = omega arith in subst SameValue (sym same) here) (λ (k : i < set). below i k) (le-or-lt set i)

  -- a line of either up to which they say the same is a line of both
  line-of-both : (line : ℕ) → ((i : ℕ) → i ≤ line → SameValue i) → Among line p.lines ↔ Among line q.lines
  line-of-both line same = (
    line-there p q a.incomparable b.incomparable bound line same,
    line-there q p b.incomparable a.incomparable (bound-back bound) line (λ i l. sym (same i l)),
  )

  -- with the same lines they say the same of every set, and the other way round
  lines_then : SameLines p q → (set : ℕ) → SameValue set
  unfolding some_line
  lines_then lines set = bound.alike set (exists-reordered (λ l. inside l set) lines)

  then_lines : ((set : ℕ) → set ≤ 65535 → SameValue set) → SameLines p q
  then_lines same =
      same-members p.lines q.lines a.once b.once (λ l. (
        λ m. (line-of-both l (λ i k. same i (omega (arith, a.incomparable.small l m)))).0 m,
        λ m. (line-of-both l (λ i k. same i (omega (arith, b.incomparable.small l m)))).1 m,
      ))

  decided-so : DecideAlike one two ↔ SameLines p q
  decided-so = (λ e. then_lines (λ set l. answers-then set (e set l)), λ lines set l. then-answers set (lines_then lines set))

  -- ---- the lowest set on which they do not

  -- a line of one alone is told apart up to itself
  alone-apart : (line : ℕ) → OfOneAlone p q line → ((i : ℕ) → i ≤ line → SameValue i) → ⊥
  alone-apart line (inl (m, n)) same = n ((line-of-both line same).0 m)
  alone-apart line (inr (m, n)) same = n ((line-of-both line same).1 m)

  -- where they say the same below a set and not on it, it is a line of one alone
  apart-alone : (set : ℕ) → (SameValue set → ⊥) → ((i : ℕ) → i < set → SameValue i) → OfOneAlone p q set
  apart-alone set differs below = go (some_line p.lines set) (some_line q.lines set) refl refl
    where
      go : (s t : Bool) → some_line p.lines set ≡ s → some_line q.lines set ≡ t → OfOneAlone p q set
      go true false e f = inl (line-here p q a.incomparable b.incomparable bound set below e f)
      go false true e f = inr (line-here q p b.incomparable a.incomparable (bound-back bound) set (λ i l. sym (below i l)) f e)
      go true true e f = absurd (differs (bound.alike set (e ∙ sym f)))
      go false false e f = absurd (differs (bound.alike set (e ∙ sym f)))

  apart-lowest : (set : ℕ) → (SameValue set → ⊥) → ((i : ℕ) → i < set → SameValue i) → LowestOfOneAlone p q set
  apart-lowest set differs below = (
    apart-alone set differs below,
    λ line alone.
        ⊎_elim (λ (l : set ≤ line). l) (λ (l : line < set). absurd (alone-apart line alone (λ i k. below i (omega arith)))) (le-or-lt set line),
  )

  -- what a policy says of a line of its own
  of-own-line : (r : ListedPolicy) (set : ℕ) → Among set r.lines → policy_value set r ≡ by_lines r set → policy_value set r ≡ cond r.turned false true
  unfolding some_line
  of-own-line r set m e = e ∙ ap (λ (s : Bool). cond r.turned (not s) s) (exists-in (λ l. inside l set) m (inside-self set))

  -- where they do not say the same, the one that has the line is told by what the first says
  line-owner : (set : ℕ) → (SameValue set → ⊥) → OfOneAlone p q set → AloneOf p q (owner p.turned (policy_value set p)) set
  line-owner set differs (inl (m, n)) = rw (first-owns p.turned (policy_value set p) (of-own-line p set m (bound.first set (inl m)))) (m, n)
  line-owner set differs (inr (m, n)) =
      let said : policy_value set q ≡ cond p.turned false true =
      of-own-line q set m (bound.second set (inr m)) ∙ ap (λ (t : Bool). cond t false true) (sym bound.turned) in
      rw (second-owns p.turned (policy_value set p) (policy_value set q) said differs) (m, n)

  -- below the lowest line of one alone they say the same, from set to set
  same-below : (set : ℕ) → LowestOfOneAlone p q set → (n : ℕ) → n ≤ set → (i : ℕ) → i < n → SameValue i
  same-below set lowest zero h i l = absurd (omega arith)
  same-below set lowest (suc n) h i l =
      let earlier : (i : ℕ) → i < n → SameValue i = same-below set lowest n (omega arith) in
      up_to n earlier (next earlier) i (omega arith)
    where
      next : ((i : ℕ) → i < n → SameValue i) → SameValue n
      next earlier =
          or-the-same (policy_value n p) (policy_value n q)
          (λ (differs : SameValue n → ⊥). absurd (omega (arith, lowest.1 n (apart-alone n differs earlier))))

  lowest-so : (set : ℕ) → LowestApart one two set ↔ LowestOfOneAlone p q set
  lowest-so set = (
    λ (differs, below). apart-lowest set (λ e. differs (then-answers set e)) (λ i l. answers-then i (below i l)),
    λ lowest.
        let below = same-below set lowest set (omega arith) in (
          λ e. alone-apart set lowest.0 (up_to set below (answers-then set e)),
          λ i l. then-answers i (below i l),
        ),
  )

  -- ---- the comparison

  module _ (e : NoExclusions one) (f : NoExclusions two) where
    difference : (set : ℕ) → differ_at one two set ≡ not (beq (policy_value set p) (policy_value set q))
    unfolding differ_at permitted
    difference set = rw (e, f, a.saying set, b.saying set) refl

    -- they differ on a set exactly where the policies do
    none_then : (set : ℕ) → differ_at one two set ≡ false → SameValue set
    none_then set d = beq_same _ _ (sym (not-not (beq (policy_value set p) (policy_value set q))) ∙ ap not (sym (difference set) ∙ d))

    then-none : (set : ℕ) → SameValue set → differ_at one two set ≡ false
    then-none set same = difference set ∙ ap (λ (v : Bool). not (beq v (policy_value set q))) same ∙ ap not (beq-self (policy_value set q))

    compared-so : (answer : Result Comparison CompareError) → Compared one two answer → (answer ≡ Ok Alike) ↔ SameLines p q
    compared-so answer c =
        let (there, back) = alike-tells one two a.sound b.sound in (
          λ said. then_lines (λ set l. none_then set (there (sym c ∙ ap comparison_meaning said) set l)),
          λ lines. only-alike answer (c ∙ back (λ set l. then-none set (lines_then lines set))),
        )

    named-so : (answer : Result Comparison CompareError) → Compared one two answer → (answer ≡ Ok Alike → ⊥) → NamesLine p q answer
    named-so answer c not_alike =
        ⊎_elim (λ (said, none). absurd (not_alike (only-alike answer (c ∙ said))))
        (λ (set, said, (small, here, below)).
        let differs : SameValue set → ⊥ = λ same. clash here (then-none set same) in
        let lowest : LowestOfOneAlone p q set = apart-lowest set differs (λ i l. none_then i (below i l)) in
        record {
          set = set;
          yes = cond (says one set) first second;
          told = c ∙ said;
          lowest = lowest;
          has = rw (a.saying set) (line-owner set differs lowest.0);
        })
        (comparison-tells one two a.sound b.sound)

-- ---- two compiled listings

-- all of it, for policies that are so bound
lines-tell : (Equal : ListedPolicy → ListedPolicy → Type 0)
    → ((p q : ListedPolicy) → Incomparable p → Incomparable q → Equal p q → Bound p q) → LinesTell Equal
lines-tell Equal bind =
    record {
      decided = λ one two p q h. decided-so one two p q (known one p h.first) (known two q h.second) (bound one two p q h);
      lowest = λ one two p q h. lowest-so one two p q (known one p h.first) (known two q h.second) (bound one two p q h);
      compared = λ one two p q h. compared-so one two p q (known one p h.first) (known two q h.second) (bound one two p q h);
      named = λ one two p q h. named-so one two p q (known one p h.first) (known two q h.second) (bound one two p q h);
    }
  where
    bound : (one two : List ℕ) (p q : ListedPolicy) → TwoPolicies Equal one two p q → Bound p q
    bound one two p q h = bind p q (known one p h.first).incomparable (known two q h.second).incomparable h.equal

bound-equal : (p q : ListedPolicy) → Incomparable p → Incomparable q → SameKindAndMask p q → Bound p q
bound-equal p q a b (kind, mask) = let (quiet, turned) = kind-tells p q kind in bound-by-mask p q a b turned quiet mask

bound-plain : (p q : ListedPolicy) → Incomparable p → Incomparable q → SamePlainKind p q → Bound p q
bound-plain p q a b (kind, plain) = let (quiet, turned) = kind-tells p q kind in bound-by-lines p q a b turned plain (sym quiet ∙ plain ∙ turned)

pub same-lines-same-policy : SameLinesSamePolicy
same-lines-same-policy = record { equal_mask = lines-tell SameKindAndMask bound-equal; any_mask = lines-tell SamePlainKind bound-plain }
