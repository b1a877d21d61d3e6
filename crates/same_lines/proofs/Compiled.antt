-- What demand 3 says of a compiled listing of one policy.
use Prim.Native.Nat.{ℕ, ◌*◌}
use Prim.Native.String.{String}
use mathlib.Core.List.{List, [], ◌∷◌, Forall₂}
use mathlib.Core.Path.{◌≡◌, refl, sym, ap, subst, ◌∙◌}
use lib.IntN.{ℤ}
use lib.ListN.{length, replicate}
use Rattle.std.specs.Prelude.{Ok}
use Rattle.arith.specs.Trees.{Node, value, joining, postfix, run}
use Rattle.answers.specs.Answers.{result}
use Rattle.signals.proofs.SetOfLaws.{inside-overlap}
use Rattle.layout.specs.Records.{records}
use Rattle.layout.specs.Judgement.{verdict, no_record}
use Rattle.layout.specs.Nodes.{ListedPolicy, nodes}
use Rattle.layout.specs.WellFormed.{PolicyFits, WellFormed}
use Rattle.layout.proofs.SoundNodes.{line-fits, sound-well-formed}
use Rattle.layout.proofs.KeptLaws.{sound-judged}
use Rattle.rod.specs.Reading.{policy_value, says}
use Rattle.peal.specs.Policies.{Policy, MinMax, Condition, policy_at}
use Rattle.peal.specs.MasksDecide.{SignalsFit}
use Rattle.arith.specs.Members.{Distinct}
use Rattle.text.specs.Text.{bytes}
use Rattle.book.proofs.AskedLaws.{asked-in-range}
use Rattle.compiler.specs.Compiling.{compiled, returned, left_by, compiled_listing}
use Rattle.compiler.specs.Meaning.{CompilingRan}
use Rattle.agreement.specs.Demand3.{MinimalMasks, StandsFor, MinimalListing}
use Rattle.agreement.proofs.Conditions.{policy-in-range}
use Rattle.agreement.proofs.Demand3.{compiled-sound, minimal-listing}
use Rattle.agreement.proofs.LineMasks.{minimal-mask-inside}
use Rattle.agreement.proofs.Policies.{signals-fit}
use Rattle.same_lines.specs.SameLines.{OnePolicy}
use Rattle.same_lines.proofs.Lines.{Incomparable}

-- lines that are the masks of minimal sets
lines-incomparable : (p : Policy) (t : ℤ) → SignalsFit p.rules → (r : ListedPolicy) → PolicyFits r → MinimalMasks p t r.lines → Incomparable r
lines-incomparable p t fit r fits masks =
    record {
      small = λ l m. (line-fits r.mask fits.lines_fit m).0;
      shares = λ l m. let (small, within) = line-fits r.mask fits.lines_fit m in inside-overlap l r.mask small within (masks.demands l m);
      same = λ l k m n i. minimal-mask-inside p t fit l k ((masks.exactly l).0 m) ((masks.exactly k).0 n) i;
    }

-- what stands for the one member of a list
only : {A B : Type 0} {R : A → B → Type 0} {X : List A} {y : B} → Forall₂ R X (y ∷ []) → (x : A) × R x y
only (Forall₂.cons {a = x} r s) = (x, r)

-- what stands for a policy of the listing is a mention
mention : (ps : List Policy) (c : Condition) (r : ListedPolicy) (n : Node MinMax ℕ) → StandsFor ps c n (value r)
    → (i : ℕ) × MinimalMasks (policy_at ps i) c.threshold r.lines
mention ps c r (value i) s = (i, s)
mention ps c r (joining m) s = absurd s

-- it is sound, and says of each set what the policy says; no line lies inside another, or stands there twice
pub record Known (listing : List ℕ) (p : ListedPolicy) : Type 0 where
  pub sound : verdict listing ≡ result tt
  pub saying : (set : ℕ) → says listing set ≡ policy_value set p
  pub incomparable : Incomparable p
  pub once : Distinct p.lines

module _ (listing : List ℕ) (p : ListedPolicy) (h : OnePolicy listing p) where
  ran : returned (compiled h.bytes h.number (length h.lent)) ≡ result h.count
  ran = sym h.compiling.returning

  left_there : listing ≡ compiled_listing h.count (left_by h.bytes h.number h.lent)
  left_there = h.listed ∙ ap (compiled_listing h.count) h.compiling.leaving

  is-sound : verdict listing ≡ result tt
  is-sound = ap verdict left_there ∙ compiled-sound h.bytes h.number h.count h.lent ran

  policy-fits : PolicyFits p
  unfolding no_record
  policy-fits =
      let formed : WellFormed 0 0 (nodes (records listing)) = sound-well-formed 0 no_record (records listing) (sound-judged listing is-sound).1 in
      let policy : WellFormed 0 0 (value p ∷ []) = subst (WellFormed 0 0) h.one formed in
      policy.0

  minimal : MinimalListing h.bytes h.number listing
  minimal = subst (MinimalListing h.bytes h.number) (sym left_there) (minimal-listing h.bytes h.number h.lent h.count ran)

  pub known : Known listing p
  unfolding says run
  known =
      let ps = minimal.book.policies in
      let c = minimal.condition in
      let (node, stands) = only (subst (Forall₂ (StandsFor ps c) (postfix c.expression)) h.one minimal.one_by_one) in
      let (i, masks) = mention ps c p node stands in
      let range = (asked-in-range h.bytes h.number minimal.book c minimal.of_book).0 in
      let fit = signals-fit (policy_at ps i) (policy-in-range ps range.policies i) in
      record {
        sound = is-sound;
        saying = λ set. rw h.one refl;
        incomparable = lines-incomparable (policy_at ps i) c.threshold fit p policy-fits masks;
        once = masks.once;
      }

-- the listing of a book's condition, compiled into as many words as it has
pub just-fits : (text : String) (number count : ℕ) {listing : List ℕ} {p : ListedPolicy}
    → CompilingRan (bytes text) number (replicate (4 * count) 0) listing (Ok count)
    → listing ≡ compiled_listing count listing → nodes (records listing) ≡ value p ∷ [] → OnePolicy listing p
just-fits text number count {listing} compiling listed one =
    record {
      bytes = bytes text;
      number = number;
      lent = replicate (4 * count) 0;
      left = listing;
      count = count;
      compiling = compiling;
      listed = listed;
      one = one;
    }
