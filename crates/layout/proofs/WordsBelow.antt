-- The words of a listing are below a bound, where the numbers of its records and of one more are.
use Prim.Native.Nat.{ℕ, suc, ◌+◌, ◌-◌, ◌≤◌, ◌<◌}
use mathlib.Core.Bool.{Bool, true, false}
use mathlib.Core.List.{List, [], ◌∷◌, ◌++◌}
use mathlib.Core.Path.{◌≡◌, refl, ap}
use native.Mathlib.Omega.{arith}
use lib.ListN.{length, length-append}
use Rattle.arith.specs.Members.{Each}
use Rattle.arith.specs.Trees.{value, joining}
use Rattle.signals.proofs.SetOfLaws.{pair_small}
use Rattle.layout.specs.Records.{Record, words, Join, and, or, one_if, line_kind, join_kind, exclusion_kind, policy_kind}
use Rattle.layout.specs.Judgement.{if_any}
use Rattle.layout.specs.Nodes.{ListedNode, line_records, node_records, exclusion_records, listing}
use Rattle.layout.specs.WellFormed.{LinesFit, ArePairs, PairsFit, WellFormed}

any-most : {A : Type 0} (xs : List A) (n : ℕ) → if_any xs n ≤ n
unfolding if_any
any-most [] n = omega arith
any-most (x ∷ xs) n = omega arith

pub lines-count : (n : ℕ) (ls : List ℕ) → length (line_records n ls) ≡ length ls
unfolding line_records
lines-count n [] = refl
lines-count n (l ∷ ls) = ap suc (lines-count (n + 1) ls)

pub exclusions-count : (n : ℕ) (pairs : List ℕ) → length (exclusion_records n pairs) ≡ length pairs
unfolding exclusion_records
exclusions-count n [] = refl
exclusions-count n (pair ∷ pairs) = ap suc (exclusions-count (n + 1) pairs)

module _ (m : ℕ) (large : 65536 ≤ m) where
  -- each word of a record
  record Below (r : Record) : Type 0 where
    kind : r.kind < m
    mask : r.mask < m
    lines : r.lines < m
    next : r.next < m

  words-below : (rs : List Record) → Each Below rs → Each (◌< m) (words rs)
  unfolding words
  words-below [] h = tt
  words-below (r ∷ rs) h = (h.0.kind, (h.0.mask, (h.0.lines, (h.0.next, words-below rs h.1))))

  lines-below : (n mask : ℕ) (ls : List ℕ) (rest : List Record) → LinesFit mask ls → n + length ls < m → Each Below rest → Each Below (line_records n ls ++ rest)
  unfolding line_records line_kind
  lines-below n mask [] rest h l k = k
  lines-below n mask (x ∷ ls) rest h l k = (
    record { kind = omega arith; mask = omega (arith, h.0); lines = omega arith; next = omega (arith, any-most ls (n + 1)) },
    lines-below (n + 1) mask ls rest h.2 (omega arith) k,
  )

  kind-below : (quiet turned : Bool) → policy_kind quiet turned < m
  unfolding policy_kind one_if
  kind-below true true = omega arith
  kind-below true false = omega arith
  kind-below false true = omega arith
  kind-below false false = omega arith

  join-below : (j : Join) → join_kind j < m
  unfolding join_kind
  join-below and = omega arith
  join-below or = omega arith

  nodes-below : (n v p : ℕ) (ns : List ListedNode) → WellFormed v p ns → n + length (node_records n ns) < m → Each Below (node_records n ns)
  unfolding node_records
  nodes-below n v p [] h l = tt
  nodes-below n v p (value q ∷ ns) h l =
      let next = n + 1 + length q.lines in
      let long : n + 1 + length q.lines + length (node_records next ns) < m = omega (arith, length-append (line_records (n + 1) q.lines) (node_records next ns), lines-count (n + 1) q.lines) in (
        record { kind = kind-below q.quiet q.turned; mask = omega (arith, h.0.mask_fits); lines = omega (arith, any-most q.lines (n + 1)); next = omega (arith, any-most ns next) },
        lines-below (n + 1) q.mask q.lines (node_records next ns) h.0.lines_fit (omega arith) (nodes-below next (v + 1) (p + 1) ns h.2 long),
      )
  nodes-below n v p (joining j ∷ ns) h l = (
    record { kind = join-below j; mask = omega arith; lines = omega arith; next = omega (arith, any-most ns (n + 1)) },
    nodes-below (n + 1) (v - 1) p ns h.1 (omega arith),
  )

  exclusions-below : (n : ℕ) (pairs : List ℕ) (rest : List Record) → ArePairs pairs → n + length pairs < m → Each Below rest → Each Below (exclusion_records n pairs ++ rest)
  unfolding exclusion_records exclusion_kind
  exclusions-below n [] rest g l k = k
  exclusions-below n (pair ∷ pairs) rest g l k = (
    record { kind = omega arith; mask = omega (arith, pair_small pair g.0); lines = omega arith; next = omega arith },
    exclusions-below (n + 1) pairs rest g.1 (omega arith) k,
  )

  pub listing-below : (pairs : List ℕ) (ns : List ListedNode) → PairsFit pairs → WellFormed 0 0 ns → 1 + length (listing pairs ns) < m → Each (◌< m) (words (listing pairs ns))
  unfolding listing
  listing-below pairs ns g h l =
      let k : length (listing pairs ns) ≡ length pairs + length (node_records (1 + length pairs) ns) = omega (arith, length-append (exclusion_records 1 pairs) (node_records (1 + length pairs) ns), exclusions-count 1 pairs) in
      words-below (listing pairs ns) (exclusions-below 1 pairs (node_records (1 + length pairs) ns) g.0 (omega arith) (nodes-below (1 + length pairs) 0 0 ns h (omega arith)))
