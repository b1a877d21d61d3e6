-- Records written into lent words; record n, which counts from 1, has words (n - 1) * 4 to n * 4 - 1.
use Rattle.std.specs.Prelude.{ℕ, ◌+◌, ◌-◌, ◌*◌, ◌^◌, ◌≤◌, ◌<◌, cond, List, [], ◌∷◌, eqb, length}
use Rattle.std.proofs.lemmas.List.Edits.{sets}
use Rattle.layout.specs.Records.{Record, words, line_kind}

-- the records from `first` on, so many, have room in the lent words, and every number among them fits a word
pub record RoomFor (first count : ℕ) (lent : List ℕ) : Type 0 where
  pub begins : 0 < first
  pub numbers : first + count < 2 ^ 32
  pub room : (first - 1 + count) * 4 ≤ length lent

-- record r written as record n: its four words, one after the other
unfoldable pub put_record : List ℕ → ℕ → Record → List ℕ
put_record ws n r = sets ws ((n - 1) * 4) (words (r ∷ []))

-- records written one by one, the first of them as record n
unfoldable pub put_records : List ℕ → ℕ → List Record → List ℕ
put_records ws n [] = ws
put_records ws n (r ∷ rs) = put_records (put_record ws n r) (n + 1) rs

-- a line as record n, where record `last` is the policy's last line
unfoldable pub line_record : (last n mask : ℕ) → Record
line_record last n mask = record { kind = line_kind; mask = mask; lines = 0; next = cond (eqb n last) 0 (n + 1) }

-- lines with these masks from record n on
unfoldable pub lines_up_to : ℕ → ℕ → List ℕ → List Record
lines_up_to last n [] = []
lines_up_to last n (m ∷ ms) = line_record last n m ∷ lines_up_to last (n + 1) ms
