-- From records to words and back.
use Prim.Native.Nat.{ℕ, ◌*◌, ◌%◌}
use mathlib.Core.List.{List, [], ◌∷◌}
use mathlib.Core.Path.{◌≡◌, refl, ap}
use native.Mathlib.Omega.{arith}
use lib.ListN.{length}
use Rattle.layout.specs.Records.{Record, records, words}

pub same-record : (r : Record) (k m l n : ℕ) → r.kind ≡ k → r.mask ≡ m → r.lines ≡ l → r.next ≡ n → r ≡ record { kind = k; mask = m; lines = l; next = n }
same-record r k m l n p q s t = λ i. record { kind = p i; mask = q i; lines = s i; next = t i }

pub records-words : (rs : List Record) → records (words rs) ≡ rs
unfolding records words
records-words [] = refl
records-words (r ∷ rs) = ap {B = List Record} (λ l. r ∷ l) (records-words rs)

pub words-records : (ws : List ℕ) → length ws % 4 ≡ 0 → words (records ws) ≡ ws
unfolding words records
words-records [] h = refl
words-records (k ∷ []) h = absurd (omega arith)
words-records (k ∷ m ∷ []) h = absurd (omega arith)
words-records (k ∷ m ∷ l ∷ []) h = absurd (omega arith)
words-records (k ∷ m ∷ l ∷ n ∷ ws) h = ap {B = List ℕ} (λ x. k ∷ m ∷ l ∷ n ∷ x) (words-records ws (omega arith))

pub length-words : (rs : List Record) → length (words rs) ≡ 4 * length rs
unfolding words
length-words [] = refl
length-words (r ∷ rs) = let h : length (words rs) ≡ 4 * length rs = length-words rs in omega arith
