-- Words that tell one thing of each set of a block, the 64 sets from 64 * block on.
use Rattle.std.specs.Prelude.{ℕ, ◌+◌, ◌-◌, ◌*◌, ◌/◌, ◌%◌, ◌^◌, ◌≤◌, ◌<◌, Bool, ◌≡◌}
use Rattle.signals.specs.Sets.{present, overlap}

-- bit j of the word is the test of j
abbrev pub WordOf : (ℕ → Bool) → ℕ → Type 0
WordOf test word = (j : ℕ) → j < 64 → present word j ≡ test j

-- bit j of the word is the test of the set 64 * block + j
abbrev pub BlockOf : (ℕ → Bool) → ℕ → ℕ → Type 0
BlockOf test block word = WordOf (λ j. test (64 * block + j)) word

-- the mask is a signal set, and the word tells which sets of a block share one of its six lowest signals
pub record LowTold (mask low : ℕ) : Type 0 where
  pub set : mask ≤ 65535
  pub told : WordOf (overlap (mask % 64)) low

-- a set without a signal
unfoldable pub without : ℕ → ℕ → ℕ
without signal set = set - set / 2 ^ signal % 2 * 2 ^ signal
