-- The records from an index on, as the code reads them: four words at four times the index.
use Prim.Native.Nat.{ℕ, zero, suc, ◌+◌, ◌*◌, ◌/◌, ◌≤◌, ◌<◌}
use mathlib.Core.Bool.{true, false}
use mathlib.Core.List.{List, [], ◌∷◌}
use mathlib.Core.Path.{◌≡◌, refl, ap, ap₂, ◌∙◌}
use native.Mathlib.Omega.{arith}
use lib.ListN.{length, get_or, drop}
use Rattle.layout.specs.Records.{Record, records, Kind, policy, line, exclusion, unknown, line_kind, kind_of, is_line, kinds}
use Rattle.layout.specs.Judgement.{if_any, if_line, next_node}
use Rattle.layout.specs.Steps.{record_at, records_from}
use Rattle.layout.proofs.KindLaws.{kind-line, Numbered, numbered}
use Rattle.layout.proofs.WordLaws.{same-record}

-- the next record is the four words at its place
pub from_cons : (ws : List ℕ) (i : ℕ) → i < length ws / 4 → records_from ws i ≡ record_at ws i ∷ records_from ws (i + 1)
unfolding records_from records
from_cons [] i h = absurd (omega arith)
from_cons (k ∷ []) i h = absurd (omega arith)
from_cons (k ∷ m ∷ []) i h = absurd (omega arith)
from_cons (k ∷ m ∷ l ∷ []) i h = absurd (omega arith)
from_cons (k ∷ m ∷ l ∷ n ∷ ws) zero h = refl
from_cons (k ∷ m ∷ l ∷ n ∷ ws) (suc i) h =
    let all = k ∷ m ∷ l ∷ n ∷ ws in
    let at : (j x : ℕ) → suc (suc (suc (suc j))) ≡ x → get_or ws j 0 ≡ get_or all x 0 = λ j x e. ap (λ (y : ℕ). get_or all y 0) e in
    let up : suc (i + 1) ≡ suc i + 1 = omega arith in
    from_cons ws i (omega arith)
    ∙ ap₂ {C = List Record} (λ a b. a ∷ b)
    (same-record (record_at ws i) _ _ _ _ (at _ (suc i * 4) (omega arith)) (at _ (suc i * 4 + 1) (omega arith)) (at _ (suc i * 4 + 2) (omega arith)) (at _ (suc i * 4 + 3) (omega arith)))
    (ap (λ (y : ℕ). drop y (records all)) up)

-- past the last whole record nothing is left
pub from-nil : (ws : List ℕ) (i : ℕ) → length ws / 4 ≤ i → records_from ws i ≡ []
unfolding records_from records
from-nil [] zero h = refl
from-nil [] (suc i) h = refl
from-nil (k ∷ []) zero h = refl
from-nil (k ∷ []) (suc i) h = refl
from-nil (k ∷ m ∷ []) zero h = refl
from-nil (k ∷ m ∷ []) (suc i) h = refl
from-nil (k ∷ m ∷ l ∷ []) zero h = refl
from-nil (k ∷ m ∷ l ∷ []) (suc i) h = refl
from-nil (k ∷ m ∷ l ∷ n ∷ ws) zero h = absurd (omega arith)
from-nil (k ∷ m ∷ l ∷ n ∷ ws) (suc i) h = from-nil ws i (omega arith)

-- a number that is 4 is a line's, and any other is none
is-line : (k : ℕ) → k ≡ 4 → is_line (kind_of k) ≡ true
unfolding is_line line_kind
is-line k e = ap (λ (x : ℕ). is_line (kind_of x)) e ∙ ap is_line kind-line

is-not-line : (k : ℕ) → (k ≡ 4 → ⊥) → is_line (kind_of k) ≡ false
unfolding is_line line_kind
is-not-line k h = go (kind_of k) (numbered k)
  where
    go : (x : Kind) → Numbered x k → is_line x ≡ false
    go line e = absurd (h e)
    go (policy q t) e = refl
    go (Kind.join j) e = refl
    go exclusion e = refl
    go unknown e = refl

module _ (ws : List ℕ) (i n : ℕ) (h : i < length ws / 4) where
  pub line-there : get_or ws (i * 4) 0 ≡ 4 → n ≡ if_line (kinds (records_from ws i)) n
  unfolding if_line kinds
  line-there e = rw (from_cons ws i h, is-line (get_or ws (i * 4) 0) e) refl

  pub line-not : (get_or ws (i * 4) 0 ≡ 4 → ⊥) → 0 ≡ if_line (kinds (records_from ws i)) n
  unfolding if_line kinds
  line-not e = rw (from_cons ws i h, is-not-line (get_or ws (i * 4) 0) e) refl

  pub any-there : n ≡ if_any (kinds (records_from ws i)) n
  unfolding if_any kinds
  any-there = rw (from_cons ws i h) refl

  pub next_past : get_or ws (i * 4) 0 ≡ 4 → next_node n (kinds (records_from ws i)) ≡ next_node (n + 1) (kinds (records_from ws (i + 1)))
  unfolding next_node kinds
  next_past e = rw (from_cons ws i h, is-line (get_or ws (i * 4) 0) e) refl

  pub next_here : (get_or ws (i * 4) 0 ≡ 4 → ⊥) → n ≡ next_node n (kinds (records_from ws i))
  unfolding next_node kinds
  next_here e = rw (from_cons ws i h, is-not-line (get_or ws (i * 4) 0) e) refl

module _ (ws : List ℕ) (i n : ℕ) (h : length ws / 4 ≤ i) where
  pub line-end : 0 ≡ if_line (kinds (records_from ws i)) n
  unfolding if_line kinds
  line-end = rw (from-nil ws i h) refl

  pub any-end : 0 ≡ if_any (kinds (records_from ws i)) n
  unfolding if_any kinds
  any-end = rw (from-nil ws i h) refl

  pub next-end : 0 ≡ next_node n (kinds (records_from ws i))
  unfolding next_node kinds
  next-end = rw (from-nil ws i h) refl

-- what the code finds at an index
pub ruleset places = (line-there, line-not, line-end, any-there, any-end, next_here, next_past, next-end)
