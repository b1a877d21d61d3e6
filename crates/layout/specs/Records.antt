-- Records of a listing (document 01, "From condition to listing": a slice of words, four a record).
use Rattle.std.specs.Prelude.{ℕ, ◌+◌, ◌*◌, Bool, true, false, cond, List, [], ◌∷◌, map, eqb}

-- kind, mask, lines, next
pub record Record : Type 0 where
  pub kind : ℕ
  pub mask : ℕ
  pub lines : ℕ
  pub next : ℕ

-- the words of some records
unfoldable pub words : List Record → List ℕ
words [] = []
words (r ∷ rs) = r.kind ∷ r.mask ∷ r.lines ∷ r.next ∷ words rs

-- the records of some words; what is left over at the end makes none
unfoldable pub records : List ℕ → List Record
records [] = []
records (k ∷ []) = []
records (k ∷ m ∷ []) = []
records (k ∷ m ∷ l ∷ []) = []
records (k ∷ m ∷ l ∷ n ∷ ws) = record { kind = k; mask = m; lines = l; next = n } ∷ records ws

-- "and", "or"
pub data Join : Type 0 where
  and or : Join

-- what a record is
pub data Kind : Type 0 where
  policy : (quiet turned : Bool) → Kind
  line : Kind
  join : Join → Kind
  exclusion : Kind
  unknown : Kind

-- 1 for yes, 0 for no
unfoldable pub one_if : Bool → ℕ
one_if true = 1
one_if false = 0

-- 4 line
unfoldable pub line_kind : ℕ
line_kind = 4

-- 2 and, 3 or
unfoldable pub join_kind : Join → ℕ
join_kind and = 2
join_kind or = 3

-- 5 a pair of signals that never occur together (change request 1)
unfoldable pub exclusion_kind : ℕ
exclusion_kind = 5

-- 16 + quiet + 2 × turned policy
unfoldable pub policy_kind : (quiet turned : Bool) → ℕ
policy_kind quiet turned = 16 + one_if quiet + 2 * one_if turned

-- what a record is by its first word
unfoldable pub kind_of : ℕ → Kind
kind_of k =
    cond (eqb k line_kind) line
    (cond (eqb k (join_kind and)) (join and)
    (cond (eqb k (join_kind or)) (join or)
    (cond (eqb k (policy_kind false false)) (policy false false)
    (cond (eqb k (policy_kind true false)) (policy true false)
    (cond (eqb k (policy_kind false true)) (policy false true)
    (cond (eqb k (policy_kind true true)) (policy true true)
    (cond (eqb k exclusion_kind) exclusion
    unknown)))))))

-- a record is a line
unfoldable pub is_line : Kind → Bool
is_line line = true
is_line (policy quiet turned) = false
is_line (join j) = false
is_line exclusion = false
is_line unknown = false

-- the kinds of some records, in their order
unfoldable pub kinds : List Record → List Kind
kinds rs = map (λ (r : Record). kind_of r.kind) rs
