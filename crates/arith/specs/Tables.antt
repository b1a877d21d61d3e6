-- Words written into a table, one after the other.
use Rattle.std.specs.Prelude.{ℕ, ◌<◌, List, ◌≡◌, length, get_or}

-- word k, for each k below n, is written at its place, and what is told of it holds; the other places are as they were
pub record Written (place : ℕ → ℕ) (Told : ℕ → ℕ → Type 0) (n : ℕ) (before after : List ℕ) : Type 0 where
  pub room : length after ≡ length before
  pub told : (k : ℕ) → k < n → Told k (get_or after (place k) 0)
  pub others : (i : ℕ) → ((k : ℕ) → k < n → i ≡ place k → ⊥) → get_or after i 0 ≡ get_or before i 0
