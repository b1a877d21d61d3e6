-- Only an `Ok` means a result.
use Prim.Native.Nat.{ℕ}
use mathlib.Core.Path.{◌≡◌, refl, sym, ap, ◌∙◌}
use Rattle.std.specs.Prelude.{Result, Ok, Err}
use Rattle.answers.specs.Answers.{Answer, result, refused}
use Rattle.answers.proofs.Results.{no-refusal, result-is}
use Rattle.layout.specs.Meaning.{listing_answer}
use Rattle.layout.specs.declared.Fault.{Fault}
use Rattle.rod.specs.Meaning.{traverse_meaning}
use Rattle.rod.specs.declared.TraverseError.{TraverseError}
use Rattle.book.specs.Meaning.{condition_answer}
use Rattle.book.specs.declared.Declined.{Declined}
use Rattle.compiler.specs.Meaning.{compiled_meaning}
use Rattle.compiler.specs.declared.CompileError.{CompileError}

module _ {A E : Type 0} (meaning : Result A E → Answer A) {number value : E → ℕ}
    (oks : (x : A) → meaning (Ok x) ≡ result x) (errs : (e : E) → meaning (Err e) ≡ refused (number e) (value e)) where
  only-ok : (r : Result A E) (x : A) → meaning r ≡ result x → r ≡ Ok x
  only-ok (Ok y) x h = ap Ok (result-is (sym (oks y) ∙ h))
  only-ok (Err e) x h = no-refusal (sym h ∙ errs e)

pub listing-ok : {A : Type 0} (r : Result A Fault) (x : A) → listing_answer r ≡ result x → r ≡ Ok x
listing-ok = only-ok listing_answer (λ x. refl) (λ e. refl)

pub condition-ok : {A : Type 0} (r : Result A Declined) (x : A) → condition_answer r ≡ result x → r ≡ Ok x
condition-ok = only-ok condition_answer (λ x. refl) (λ e. refl)

pub traverse-ok : (r : Result ℕ TraverseError) (n : ℕ) → traverse_meaning r ≡ result n → r ≡ Ok n
traverse-ok = only-ok traverse_meaning (λ n. refl) (λ e. refl)

pub compiled-ok : (r : Result ℕ CompileError) (n : ℕ) → compiled_meaning r ≡ result n → r ≡ Ok n
compiled-ok = only-ok compiled_meaning (λ n. refl) (λ e. refl)
