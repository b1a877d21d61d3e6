-- What compiling made where it returned a number of records.
use Prim.Native.Nat.{ℕ, ◌*◌, ◌≤◌}
use mathlib.Core.List.{List, ◌++◌}
use Rattle.std.specs.Prelude.{Result, Ok}
use mathlib.Core.Path.{◌≡◌, sym, ap, ◌∙◌}
use native.Mathlib.Omega.{arith}
use lib.Dec.{leb}
use lib.ListN.{length, take, drop}
use lib.Seq.{take-append_seam}
use borrow.Author.Tests.{leb-true}
use Rattle.answers.specs.Answers.{Answer, result}
use Rattle.answers.proofs.Results.{result-is, in-arm, required, gone-on}
use Rattle.layout.specs.Records.{Record, words}
use Rattle.layout.proofs.WordLaws.{length-words}
use Rattle.peal.specs.Policies.{Condition, Book}
use Rattle.translation.specs.Translation.{listing_records}
use Rattle.book.specs.Books.{asked}
use Rattle.compiler.specs.Compiling.{fitting, compiled, returned, lent_after, left_by, compiled_listing}
use Rattle.compiler.specs.Meaning.{compiled_meaning, CompilingRan}
use Rattle.compiler.specs.declared.CompileError.{CompileError}

-- the condition's listing, which had room
pub record CompiledFrom (bytes : List ℕ) (number : ℕ) (lent : List ℕ) (n : ℕ) : Type 0 where
  pub book : Book
  pub condition : Condition
  pub of_book : asked bytes number ≡ result (book, condition)
  pub room : 4 * n ≤ length lent
  pub listing : compiled_listing n (left_by bytes number lent) ≡ words (listing_records book condition)

-- the first words, as many as some records have
listing-first : (rs : List Record) (n : ℕ) (lent : List ℕ) → length rs ≡ n → compiled_listing n (lent_after lent (result rs)) ≡ words rs
unfolding compiled_listing lent_after
listing-first rs n lent e =
    let k : 4 * n ≡ length (words rs) = omega (arith, length-words rs) in
    ap (λ (i : ℕ). take i (words rs ++ drop (length (words rs)) lent)) k ∙ take-append_seam (words rs) (drop (length (words rs)) lent)

pub compiled-from : (bytes : List ℕ) (number : ℕ) (lent : List ℕ) (n : ℕ) → returned (compiled bytes number (length lent)) ≡ result n → CompiledFrom bytes number lent n
unfolding returned compiled fitting
compiled-from bytes number lent n e =
    let (rs, f, k) = gone-on (compiled bytes number (length lent)) _ n e in
    let ((b, c), a, g) = gone-on (asked bytes number) _ rs f in
    let (fits, same) = required (leb (length (words (listing_records b c))) (length lent)) 8 0 (result (listing_records b c)) rs g in
    record {
      book = b;
      condition = c;
      of_book = a;
      room = omega (arith, leb-true (length (words (listing_records b c))) (length lent) fits, length-words (listing_records b c), ap length (result-is same), result-is k);
      listing =
          ap (λ (x : Answer (List Record)). compiled_listing n (lent_after lent x)) (f ∙ sym same)
          ∙ listing-first (listing_records b c) n lent (ap length (result-is same) ∙ result-is k);
    }

-- the same, from the promise of `compile` where it returned that number
pub returned-from : {bytes : List ℕ} {number : ℕ} {lent left : List ℕ} {answer : Result ℕ CompileError} {n : ℕ}
    → CompilingRan bytes number lent left answer → answer ≡ Ok n → CompiledFrom bytes number lent n
returned-from {bytes} {number} {lent} {n = n} ran e = compiled-from bytes number lent n (sym (in-arm compiled_meaning ran.returning e))
