-- The condition of a number.
use Prim.Native.Nat.{ℕ, ◌≤◌, ◌<◌}
use mathlib.Core.List.{List, [], ◌∷◌}
use mathlib.Core.Path.{◌≡◌, refl, sym, subst}
use native.Mathlib.Omega.{arith}
use lib.ListN.{length, get_or}
use Rattle.answers.specs.Answers.{result, refused}
use Rattle.answers.proofs.Results.{no-refusal, result-is}
use Rattle.arith.specs.Members.{Each}
use Rattle.peal.specs.Policies.{Condition}
use Rattle.book.specs.Books.{condition_at}

pub condition_absent : (cs : List Condition) (n : ℕ) → length cs ≤ n → condition_at cs n ≡ refused 7 0
unfolding condition_at
condition_absent [] n h = refl
condition_absent (c ∷ cs) ℕ.zero h = absurd (omega arith)
condition_absent (c ∷ cs) (ℕ.suc n) h = condition_absent cs n (omega arith)

pub condition_there : (cs : List Condition) (n : ℕ) (d : Condition) → n < length cs → condition_at cs n ≡ result (get_or cs n d)
unfolding condition_at
condition_there [] n d h = absurd (omega arith)
condition_there (c ∷ cs) ℕ.zero d h = refl
condition_there (c ∷ cs) (ℕ.suc n) d h = condition_there cs n d (omega arith)

pub each-condition : (P : Condition → Type 0) (cs : List Condition) (n : ℕ) (c : Condition) → Each P cs → condition_at cs n ≡ result c → P c
unfolding condition_at
each-condition P [] n c h k = no-refusal (sym k)
each-condition P (x ∷ cs) ℕ.zero c h k = subst P (result-is k) h.0
each-condition P (x ∷ cs) (ℕ.suc n) c h k = each-condition P cs n c h.1 k
