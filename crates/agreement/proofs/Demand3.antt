-- Demand 3: rod and logger say the same of a compiled condition, and its listing has the minimal sets, each once.
use Prim.Native.Nat.{ℕ}
use mathlib.Core.Bool.{Bool, true, false}
use mathlib.Core.List.{List, ◌++◌, map, Forall₂}
use mathlib.Core.Path.{◌≡◌, refl, sym, ap, subst, ◌∙◌}
use lib.ListN.{length}
use borrow.Author.Tests.{le-leb}
use Rattle.std.specs.Prelude.{Result, Ok}
use Rattle.answers.specs.Answers.{Answer, result, refused, on_result}
use Rattle.answers.proofs.Results.{gone-on}
use Rattle.arith.specs.Members.{Each}
use Rattle.arith.specs.Trees.{leaf, join, postfix, map_tree, tree_value}
use Rattle.layout.specs.Records.{words, records}
use Rattle.layout.specs.Judgement.{verdict}
use Rattle.layout.specs.Nodes.{nodes, excluded}
use Rattle.layout.specs.Meaning.{listing_answer}
use Rattle.layout.specs.declared.Fault.{Fault}
use Rattle.layout.proofs.ListedLaws.{nodes-listing, excluded-listing}
use Rattle.rod.specs.Reading.{rod_answer}
use Rattle.peal.specs.Policies.{Policy, Expression, Condition, policy_at}
use Rattle.peal.specs.Score.{decision}
use Rattle.translation.specs.Translation.{listed, translated, pair_mask, listing_records}
use Rattle.book.specs.Meaning.{condition_answer}
use Rattle.book.specs.Ranges.{PolicyInRange}
use Rattle.book.specs.declared.Declined.{Declined}
use Rattle.book.proofs.AskedLaws.{asked-in-range}
use Rattle.compiler.specs.Compiling.{fitting, compiled, returned, left_by, compiled_listing}
use Rattle.agreement.specs.CompiledReading.{compiled_reading}
use Rattle.agreement.specs.CompiledAgreement.{CompiledAgreement, ReadingAgreement}
use Rattle.agreement.specs.CompiledSound.{CompiledSound}
use Rattle.agreement.specs.Demand3.{SaySame, both_yes, both_no, StandsFor, MinimalListing, ListingFits, Demand3}
use Rattle.agreement.proofs.Policies.{signals-fit}
use Rattle.agreement.proofs.Conditions.{policy-in-range, tree}
use Rattle.agreement.proofs.Books.{scored-result, book-agreement}
use Rattle.agreement.proofs.Oks.{listing-ok, condition-ok, compiled-ok}
use Rattle.agreement.proofs.Traverses.{traverse-says}
use Rattle.agreement.proofs.LineMasks.{masks-minimal}
use Rattle.compiler.proofs.CompiledLaws.{compiled-from}

-- ---- the answers

pub compiled-agreement : CompiledAgreement
compiled-agreement bytes number set n lent e =
    let x = compiled-from bytes number lent n e in
    let scored = scored-result bytes number set x.book x.condition x.of_book in (
      decision x.book.policies x.condition set,
      ap (λ (ws : List ℕ). rod_answer ws set) x.listing ∙ book-agreement bytes number set x.book x.condition x.of_book ∙ scored,
      scored,
    )

pub compiled-sound : CompiledSound
unfolding rod_answer
compiled-sound bytes number n lent e =
    let (said, answered, scored) = compiled-agreement bytes number 0 n lent e in
    (gone-on (verdict (compiled_listing n (left_by bytes number lent))) _ said answered).1

-- a refusal is passed up by both
on_same : {A B : Type 0} (a : Answer A) (f g : A → Answer B) → ((x : A) → a ≡ result x → f x ≡ g x) → on_result a f ≡ on_result a g
on_same (result x) f g h = h x refl
on_same (refused number value) f g h = refl

pub reading-agreement : ReadingAgreement
unfolding compiled_reading
reading-agreement bytes number set lent =
    on_same (returned (compiled bytes number (length lent))) _ _ (λ n e. let (b, r, l) = compiled-agreement bytes number set n lent e in r ∙ sym l)

both-say : (b : Bool) → SaySame (Ok b) (Ok b)
both-say true = both_yes
both-say false = both_no

pub say-same : (b : Bool) (rod : Result Bool Fault) (logger : Result Bool Declined)
    → listing_answer rod ≡ result b → condition_answer logger ≡ result b → SaySame rod logger
say-same b rod logger r l = rw (listing-ok rod b r, condition-ok logger b l) (both-say b)

-- ---- the lines

module _ {A B : Type 0} {R : A → B → Type 0} where
  one_by_one : {X Z : List A} {Y W : List B} → Forall₂ R X Y → Forall₂ R Z W → Forall₂ R (X ++ Z) (Y ++ W)
  one_by_one Forall₂.nil h = h
  one_by_one (Forall₂.cons r s) h = Forall₂.cons r (one_by_one s h)

module _ (ps : List Policy) (ranges : Each PolicyInRange ps) (c : Condition) where
  stand-for : (e : Expression) → Forall₂ (StandsFor ps c) (postfix e) (postfix (tree ps c.sense c.threshold e))
  unfolding postfix map_tree tree_value listed
  stand-for (leaf n) = Forall₂.cons (masks-minimal (policy_at ps n) c.threshold (signals-fit (policy_at ps n) (policy-in-range ps ranges n))) Forall₂.nil
  stand-for (join m a b) = one_by_one (stand-for a) (one_by_one (stand-for b) (Forall₂.cons refl Forall₂.nil))

pub minimal-listing : (bytes : List ℕ) (number : ℕ) (lent : List ℕ) (n : ℕ) → returned (compiled bytes number (length lent)) ≡ result n
    → MinimalListing bytes number (compiled_listing n (left_by bytes number lent))
unfolding listing_records translated
minimal-listing bytes number lent n e =
    let x = compiled-from bytes number lent n e in
    let range = (asked-in-range bytes number x.book x.condition x.of_book).0 in
    let pairs = map pair_mask x.book.exclusions in
    let all = postfix (translated x.book.policies x.condition) in
    let read = ap (λ (ws : List ℕ). nodes (records ws)) x.listing ∙ nodes-listing pairs all in
    record {
      book = x.book;
      condition = x.condition;
      of_book = x.of_book;
      pairs = ap (λ (ws : List ℕ). excluded (records ws)) x.listing ∙ excluded-listing pairs all;
      one_by_one =
          subst (Forall₂ (StandsFor x.book.policies x.condition) (postfix x.condition.expression)) (sym read)
          (stand-for x.book.policies range.policies x.condition x.condition.expression);
    }

-- ---- the demand

-- a listing that fits is compiled: as many records are returned as it has
compiles : (bytes : List ℕ) (number : ℕ) (lent : List ℕ) (f : ListingFits bytes number lent)
    → returned (compiled bytes number (length lent)) ≡ result (length (listing_records f.book f.condition))
unfolding compiled fitting returned
compiles bytes number lent f =
    rw (f.of_book, le-leb (length (words (listing_records f.book f.condition))) (length lent) f.fits) refl

pub demand-3 : Demand3
demand-3 bytes number lent left answer f ran =
    let n = length (listing_records f.book f.condition) in
    let e = compiles bytes number lent f in
    record {
      count = n;
      compiles = compiled-ok answer n (ran.returning ∙ e);
      same = λ set rod logger reading scoring.
          let (b, r, l) = compiled-agreement bytes number set n lent e in
          say-same b rod logger (reading ∙ ap (λ (ws : List ℕ). rod_answer (compiled_listing n ws) set) ran.leaving ∙ r) (scoring ∙ l);
      traverse = λ sets answers returned after equal went.
          traverse-says bytes number (compiled_listing n left) (λ set.
          let (b, r, l) = compiled-agreement bytes number set n lent e in
          (b, ap (λ (ws : List ℕ). rod_answer (compiled_listing n ws) set) ran.leaving ∙ r, l)) sets answers returned after equal went;
      minimal = subst (λ (ws : List ℕ). MinimalListing bytes number (compiled_listing n ws)) (sym ran.leaving) (minimal-listing bytes number lent n e);
    }
