-- The limits and ranges of a book (document 01, "The book"; change request 1 for an `x`).
use Rattle.std.specs.Prelude.{ℕ, Bool, true, not, ◌&&◌, leb, ltb, eqb, ℤ, pos, neg_ℤ}
use Rattle.std.proofs.Math.Option.{Option, none, some}
use Rattle.std.specs.Int.Signed.{le_z}
use Rattle.peal.specs.declared.Operator.{Operator}
use Rattle.peal.specs.declared.Operator.TheVariants.{Min, Max, Sum, Mul}

-- at most 8,192 bytes in a book
abbrev pub book_fits : ℕ → Bool
book_fits n = leb n 8192

-- at most 128 bytes in a line before its end
abbrev pub line_fits : ℕ → Bool
line_fits n = leb n 128

-- at most 16 policies: one more after n
abbrev pub room_for_policy : ℕ → Bool
room_for_policy n = ltb n 16

-- at most 8 conditions: one more after n
abbrev pub room_for_condition : ℕ → Bool
room_for_condition n = ltb n 8

-- at most 8 rules in a mul policy: one more after n
unfoldable pub room_for_rule : Operator → ℕ → Bool
room_for_rule Min n = true
room_for_rule Max n = true
room_for_rule Sum n = true
room_for_rule Mul n = ltb n 8

-- at most 16 exclusions: one more after n
abbrev pub room_for_exclusion : ℕ → Bool
room_for_exclusion n = ltb n 16

-- S is 0 to 15
abbrev pub signal_in_range : ℕ → Bool
signal_in_range s = leb s 15

-- A and B are signals, and not the same
abbrev pub exclusion_in_range : (a b : ℕ) → Bool
exclusion_in_range a b = signal_in_range a && signal_in_range b && not (eqb a b)

-- z is low to high
unfoldable pub within : (low high z : ℤ) → Bool
within low high z = le_z low z && le_z z high

-- D is −10,000 to 10,000, where it is given
unfoldable pub default_in_range : Option ℤ → Bool
default_in_range none = true
default_in_range (some d) = within (neg_ℤ (pos 10000)) (pos 10000) d

-- V is 0 to 10,000 in sum, 0 to 100 in mul, and −10,000 to 10,000 in min and max
unfoldable pub score_in_range : Operator → ℤ → Bool
score_in_range Sum v = within (pos 0) (pos 10000) v
score_in_range Mul v = within (pos 0) (pos 100) v
score_in_range Min v = within (neg_ℤ (pos 10000)) (pos 10000) v
score_in_range Max v = within (neg_ℤ (pos 10000)) (pos 10000) v

-- T is −200,000 to 200,000
abbrev pub threshold_in_range : ℤ → Bool
threshold_in_range t = within (neg_ℤ (pos 200000)) (pos 200000) t
