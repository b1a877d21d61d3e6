-- Records written into lent words: one list of them after another, and the words as a whole.
use Prim.Native.Nat.{ℕ, suc, ◌+◌, ◌-◌, ◌*◌, ◌≤◌, ◌<◌}
use mathlib.Core.List.{List, [], ◌∷◌, ◌++◌}
use mathlib.Core.Path.{◌≡◌, refl, sym, ap, ap₂, ◌∙◌}
use native.Mathlib.Nat.{zero-add}
use native.Mathlib.Omega.{arith}
use lib.ListN.{length, drop}
use lib.Seq.{sets, length-sets, sets-eq}
use borrow.Author.Tests.{eq-eqb, ne_eqb}
use Rattle.arith.proofs.Rows.{row-then-row}
use Rattle.layout.specs.Records.{Record, words, line_kind}
use Rattle.layout.specs.Judgement.{if_any}
use Rattle.layout.specs.Nodes.{line_records}
use Rattle.layout.specs.Writing.{put_record, put_records, line_record, lines_up_to}
use Rattle.layout.proofs.WordLaws.{length-words}

-- ---- no word is added

pub put-length : (ws : List ℕ) (n : ℕ) (r : Record) → length (put_record ws n r) ≡ length ws
unfolding put_record
put-length ws n r = length-sets ws ((n - 1) * 4) (words (r ∷ []))

pub puts-length : (ws : List ℕ) (n : ℕ) (rs : List Record) → length (put_records ws n rs) ≡ length ws
unfolding put_records
puts-length ws n [] = refl
puts-length ws n (r ∷ rs) = puts-length (put_record ws n r) (n + 1) rs ∙ put-length ws n r

-- ---- records after records

pub put-append : (rs ss : List Record) (ws : List ℕ) (n : ℕ) → put_records ws n (rs ++ ss) ≡ put_records (put_records ws n rs) (n + length rs) ss
unfolding put_records
put-append [] ss ws n = let e : n ≡ n + 0 = omega arith in ap (λ (k : ℕ). put_records ws k ss) e
put-append (r ∷ rs) ss ws n =
    let e : n + 1 + length rs ≡ n + suc (length rs) = omega arith in
    put-append rs ss (put_record ws n r) (n + 1) ∙ ap (λ (k : ℕ). put_records (put_records (put_record ws n r) (n + 1) rs) k ss) e

-- ---- their words, in a row

put-row : (rs : List Record) (ws : List ℕ) (n : ℕ) → 0 < n → put_records ws n rs ≡ sets ws ((n - 1) * 4) (words rs)
unfolding put_records put_record words
put-row [] ws n h = refl
put-row (r ∷ rs) ws n h =
    let e : (n + 1 - 1) * 4 ≡ (n - 1) * 4 + 4 = omega arith in
    put-row rs (put_record ws n r) (n + 1) (omega arith)
    ∙ ap (λ (k : ℕ). sets (put_record ws n r) k (words rs)) e
    ∙ sym (row-then-row (words (r ∷ [])) (words rs) ws ((n - 1) * 4))

-- from record 1 on
pub put_first : (ws : List ℕ) (rs : List Record) → 4 * length rs ≤ length ws → put_records ws 1 rs ≡ words rs ++ drop (length (words rs)) ws
put_first ws rs room =
    put-row rs ws 1 (omega arith) ∙ sets-eq (words rs) ws 0 (omega (arith, length-words rs))
    ∙ ap (λ (k : ℕ). words rs ++ drop k ws) (zero-add (length (words rs)))

-- ---- lines whose last record is known

line-next : (last n m : ℕ) (ms : List ℕ) → n + suc (length ms) ≡ last + 1
    → line_record last n m ≡ record { kind = line_kind; mask = m; lines = 0; next = if_any ms (n + 1) }
unfolding line_record if_any
line-next last n m [] h = rw (eq-eqb n last (omega arith))
line-next last n m (k ∷ ms) h = rw (ne_eqb n last (λ e. omega arith))

pub lines-up-to : (last n : ℕ) (ms : List ℕ) → n + length ms ≡ last + 1 → lines_up_to last n ms ≡ line_records n ms
unfolding lines_up_to line_records
lines-up-to last n [] h = refl
lines-up-to last n (m ∷ ms) h =
    ap₂ (λ (r : Record) (rs : List Record). r ∷ rs) (line-next last n m ms h) (lines-up-to last (n + 1) ms (omega arith))

lines-append : (last n : ℕ) (ms ks : List ℕ) → lines_up_to last n (ms ++ ks) ≡ lines_up_to last n ms ++ lines_up_to last (n + length ms) ks
unfolding lines_up_to
lines-append last n [] ks = let e : n ≡ n + 0 = omega arith in ap (λ (k : ℕ). lines_up_to last k ks) e
lines-append last n (m ∷ ms) ks =
    let e : n + 1 + length ms ≡ n + suc (length ms) = omega arith in
    ap (λ (l : List Record). line_record last n m ∷ l)
    (lines-append last (n + 1) ms ks ∙ ap (λ (k : ℕ). lines_up_to last (n + 1) ms ++ lines_up_to last k ks) e)

pub lines-count : (last n : ℕ) (ms : List ℕ) → length (lines_up_to last n ms) ≡ length ms
unfolding lines_up_to
lines-count last n [] = refl
lines-count last n (m ∷ ms) = ap suc (lines-count last (n + 1) ms)

-- lines after lines
pub put-lines-append : (last n : ℕ) (ms ks : List ℕ) (ws : List ℕ)
    → put_records ws n (lines_up_to last n (ms ++ ks)) ≡ put_records (put_records ws n (lines_up_to last n ms)) (n + length ms) (lines_up_to last (n + length ms) ks)
put-lines-append last n ms ks ws =
    ap (put_records ws n) (lines-append last n ms ks) ∙ put-append (lines_up_to last n ms) (lines_up_to last (n + length ms) ks) ws n
    ∙ ap (λ (k : ℕ). put_records (put_records ws n (lines_up_to last n ms)) (n + k) (lines_up_to last (n + length ms) ks)) (lines-count last n ms)
