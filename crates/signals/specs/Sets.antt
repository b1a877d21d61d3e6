-- Signal sets (document 01, "The scored decision").
use Rattle.std.specs.Prelude.{ℕ, ◌+◌, ◌/◌, ◌%◌, ◌^◌, Bool, not, ◌&&◌, ◌||◌, List, [], ◌∷◌, eqb, leb, length}
use Rattle.arith.specs.Lists.{every, exists, keep, below}

-- the signals are 0 to 15
unfoldable pub signals : List ℕ
signals = below 16

-- a signal set is a 16-bit number, 0 to 65,535
unfoldable pub is_set : ℕ → Bool
is_set n = leb n 65535

-- signal s is present where bit s, of weight 2 to the s, is one
unfoldable pub present : ℕ → ℕ → Bool
present set s = eqb (set / 2 ^ s % 2) 1

-- the mask lies wholly inside the set: each of its signals is present there
unfoldable pub inside : ℕ → ℕ → Bool
inside mask set = every (λ s. not (present mask s) || present set s) signals

-- the mask shares a signal with the set
unfoldable pub overlap : ℕ → ℕ → Bool
overlap mask set = exists (λ s. present mask s && present set s) signals

-- how many signals a set has
unfoldable pub size : ℕ → ℕ
size set = length (keep (present set) signals)

-- a set of exactly two signals
unfoldable pub is_pair : ℕ → Bool
is_pair mask = is_set mask && eqb (size mask) 2

-- the set of some signals, all different
unfoldable pub set_of : List ℕ → ℕ
set_of [] = 0
set_of (s ∷ ss) = 2 ^ s + set_of ss
