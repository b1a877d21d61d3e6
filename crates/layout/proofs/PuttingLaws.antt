-- Lines by their masks, put one after the other: what the compiler's search asks of where its lines go.
use Rattle.std.specs.Prelude.{ℕ, ◌+◌, ◌≤◌, List, [], ◌++◌, ◌≡◌, length}
use Rattle.std.proofs.Common.{refl, sym, ap, ◌∙◌, arith}
use Rattle.layout.specs.Writing.{RoomFor, put_records, lines_up_to}
use Rattle.layout.proofs.WritingLaws.{put-lines-append, puts-length}

-- no mask
pub put_none : (last n : ℕ) (before : List ℕ) → before ≡ put_records before n (lines_up_to last n [])
unfolding put_records lines_up_to
put_none last n before = refl

-- masks after masks
pub put_on : (last n : ℕ) (xs ys before : List ℕ) {end at : ℕ} {middle after : List ℕ} → end ≡ last → at ≡ n + length xs
    → middle ≡ put_records before n (lines_up_to last n xs) → after ≡ put_records middle at (lines_up_to end at ys)
    → after ≡ put_records before n (lines_up_to last n (xs ++ ys))
put_on last n xs ys before e f g h =
    h ∙ (λ i. put_records (g i) (f i) (lines_up_to (e i) (f i) ys)) ∙ sym (put-lines-append last n xs ys before)

-- the room that is left
pub put_left : {n count : ℕ} {before : List ℕ} → RoomFor n count before → (last : ℕ) (xs : List ℕ) {at m : ℕ} {after : List ℕ} → at ≡ n + length xs
    → after ≡ put_records before n (lines_up_to last n xs) → length xs + m ≤ count → RoomFor at m after
put_left {n} {count} {before} h last xs e f few =
    let same = ap length f ∙ puts-length before n (lines_up_to last n xs) in
    record { begins = omega (arith, h.begins); numbers = omega (arith, h.numbers); room = omega (arith, h.begins, h.room) }
