-- The walk of the checks, a group at a time, for inner contracts only.
use Rattle.std.specs.Prelude
use Rattle.std.specs.Prelude.{ℕ, ◌+◌, ◌*◌, ◌≤◌, ◌<◌, Bool, true, false, not, ◌&&◌, List, ◌≡◌, get_or}
use Rattle.std.specs.Bool.{beq}
use Rattle.std.proofs.Math.Option.{Option, some}
use Rattle.answers.specs.Answers.{Answer, result}
use Rattle.arith.specs.Options.{told}
use Rattle.arith.specs.Lists.{count_below}
use Rattle.signals.specs.Sets.{present}
use Rattle.blocks.specs.Blocks.{BlockOf}
use Rattle.groups.specs.Groups.{group_set, GroupOf}
use Rattle.checks.specs.Checks.{lowest_from, choice_of, Chosen}

-- the answer, from what the empty set gives, the lowest set that gives the other answer, and how many sets were judged
abbrev pub chosen_by : Bool → Option ℕ → ℕ → Answer Chosen
chosen_by true other j = result (record { choice = choice_of (some 0) other; judged = j })
chosen_by false other j = result (record { choice = choice_of other (some 0); judged = j })

-- of any test of the block's sets that a word tells, this set is the lowest that passes it
abbrev pub LowestIn : ℕ → ℕ → ℕ → Type 0
LowestIn block word set = (test : ℕ → Bool) → BlockOf test block word → lowest_from 64 (64 * block) test ≡ some set

-- set j of a block is barred by neither word, and the other two differ on it
abbrev pub apart_bit : ℕ → ℕ → ℕ → ℕ → ℕ → Bool
apart_bit barred also first second j =
    not (present barred j) && not (present also j) && not (beq (present first j) (present second j))

-- a test of the group's sets, told by four tables: neither of two bars the set, and the other two differ on it
abbrev pub GroupApart : (ℕ → Bool) → ℕ → (barred also first second : List ℕ) → Type 0
GroupApart test group barred also first second =
    (k : ℕ) → k < 16 → (j : ℕ) → j < 64
    → apart_bit (get_or barred k 0) (get_or also k 0) (get_or first k 0) (get_or second k 0) j ≡ test (group_set group k j)

-- what was found is the lowest set of the group that passes such a test
abbrev pub LowestInGroup : ℕ → (barred also first second : List ℕ) → Prelude.Option ℕ → Type 0
LowestInGroup group barred also first second found =
    (test : ℕ → Bool) → GroupApart test group barred also first second
    → told found ≡ lowest_from 1024 (1024 * group) test

-- where a table tells which sets of a group fail a test, and without pairs none fails: so many of them pass it, up to
-- the one of place `last`, which is looked at too
abbrev pub PermittedUpTo : (failing : List ℕ) (pairs last count : ℕ) → Type 0
PermittedUpTo failing pairs last count =
    (test : ℕ → Bool) (group : ℕ) → (pairs ≡ 0 → (set : ℕ) → test set ≡ true)
    → GroupOf (λ set. not (test set)) group failing
    → count_below (1024 * group + (last + 1)) test ≡ count_below (1024 * group) test + count
