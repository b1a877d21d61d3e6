-- Claimed: how many records a condition's listing has at most.
use Rattle.std.specs.Prelude.{◌+◌, ◌*◌, ◌≤◌, length}
use Rattle.arith.specs.Members.{Each}
use Rattle.arith.specs.Leaves.{leaf_count}
use Rattle.peal.specs.Policies.{Policy, Condition, Book}
use Rattle.translation.specs.Translation.{translated, listing_records}

-- at most 16 excluded pairs, 16 mentions of a policy, each with its record and its lines, and 15 joins: 1,048,623 records, far below 2 to the 32
abbrev pub RecordsAreFew : Type 0
RecordsAreFew =
    (b : Book) (c : Condition) → Each (λ (p : Policy). length p.rules ≤ 16) b.policies
    → length b.exclusions ≤ 16 → leaf_count (translated b.policies c) ≤ 16 → length (listing_records b c) ≤ 16 + 16 * (1 + 65536) + 15
