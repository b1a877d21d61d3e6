-- Room for records, and what compiling answers by whether there is room.
use Prim.Native.Nat.{ℕ, ◌+◌, ◌*◌, ◌≤◌, ◌<◌}
use mathlib.Core.List.{List}
use mathlib.Core.Path.{◌≡◌, sym, ap, ◌∙◌}
use native.Mathlib.Omega.{arith}
use lib.ListN.{length}
use borrow.Author.Tests.{le-leb, lt-leb}
use Rattle.answers.specs.Answers.{result, refused}
use Rattle.layout.specs.Records.{Record, words}
use Rattle.layout.specs.Writing.{RoomFor, put_records}
use Rattle.layout.proofs.WordLaws.{length-words}
use Rattle.layout.proofs.WritingLaws.{put_first}
use Rattle.compiler.specs.Compiling.{fitting, returned, lent_after}

-- ---- a part of the records that have room

pub room-part : {first count : ℕ} {lent : List ℕ} → RoomFor first count lent → (n m : ℕ) → 0 < n → n + m ≤ first + count → {later : List ℕ} → length later ≡ length lent
    → RoomFor n m later
room-part h n m some inside same = record { begins = some; numbers = omega (arith, h.numbers); room = omega (arith, h.begins, h.room) }

-- ---- the answers

module _ (rs : List Record) (lent : List ℕ) where
  module _ (h : length rs * 4 ≤ length lent) where
    fits : fitting (length lent) rs ≡ result rs
    unfolding fitting
    fits = rw (le-leb (length (words rs)) (length lent) (omega (arith, length-words rs)))

    pub room-returned : result (length rs) ≡ returned (fitting (length lent) rs)
    unfolding returned
    room-returned = sym (ap returned fits)

    pub room-lent : put_records lent 1 rs ≡ lent_after lent (fitting (length lent) rs)
    unfolding lent_after
    room-lent = put_first lent rs (omega arith) ∙ sym (ap (lent_after lent) fits)

  module _ (h : length lent < length rs * 4) where
    does-not-fit : fitting (length lent) rs ≡ refused 8 0
    unfolding fitting
    does-not-fit = rw (lt-leb (length (words rs)) (length lent) (omega (arith, length-words rs)))

    pub no-room-returned : refused 8 0 ≡ returned (fitting (length lent) rs)
    unfolding returned
    no-room-returned = sym (ap returned does-not-fit)

    pub no-room-lent : lent ≡ lent_after lent (fitting (length lent) rs)
    unfolding lent_after
    no-room-lent = sym (ap (lent_after lent) does-not-fit)
