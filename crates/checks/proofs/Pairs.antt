-- The sets without an excluded pair, and the words of those with one.
use Prim.Native.Nat.{ℕ, ◌+◌, ◌-◌, ◌*◌, ◌≤◌}
use mathlib.Core.Bool.{true, not}
use mathlib.Core.List.{List}
use mathlib.Core.Path.{◌≡◌, sym, ap, ◌∙◌}
use Rattle.answers.specs.Answers.{result}
use Rattle.arith.proofs.Each.{each_none}
use Rattle.arith.proofs.EveryExists.{exists-not-every}
use Rattle.arith.proofs.Members.{each_in, each-out, every-each}
use Rattle.signals.specs.Sets.{inside, is_pair}
use Rattle.signals.proofs.SetOfLaws.{pair-not-empty}
use Rattle.layout.specs.Records.{records}
use Rattle.layout.specs.Judgement.{verdict}
use Rattle.layout.specs.Nodes.{excluded}
use Rattle.layout.proofs.SoundNodes.{sound-exclusions}
use Rattle.rod.specs.Reading.{some_line}
use Rattle.groups.specs.Groups.{GroupOf, masks_from, SoundWith, Reached}
use Rattle.groups.proofs.SpreadLaws.{reached-all}
use Rattle.groups.proofs.Pairs.{pair-masks, pair-run}
use Rattle.checks.specs.Checks.{permitted}

-- a set is not permitted where some pair lies inside it
barred-else : (ws : List ℕ) (pairs : ℕ) → SoundWith ws pairs → (set : ℕ) → some_line (masks_from ws 0 (pairs - 0)) set ≡ not (permitted ws set)
unfolding permitted some_line
barred-else ws pairs s set =
    ap (λ (ms : List ℕ). some_line ms set) (sym (pair-run ws pairs s)) ∙ exists-not-every (λ m. inside m set) (excluded (records ws))

pub barred-group : (ws : List ℕ) (pairs group : ℕ) (table : List ℕ) → SoundWith ws pairs → GroupOf (some_line (masks_from ws 0 (pairs - 0))) group table
    → GroupOf (λ set. not (permitted ws set)) group table
barred-group ws pairs group table s g k b j h = g k b j h ∙ barred-else ws pairs s (64 * (16 * group + k) + j)

pub barred-reached : (ws : List ℕ) (pairs group : ℕ) (table : List ℕ) → SoundWith ws pairs → group ≤ 63 → Reached 10 (masks_from ws 0 (pairs - 0)) group table
    → GroupOf (λ set. not (permitted ws set)) group table
barred-reached ws pairs group table s h r = barred-group ws pairs group table s (reached-all (masks_from ws 0 (pairs - 0)) group table h (pair-masks ws pairs s).sets r)

-- without pairs every set is permitted
pub permitted-all : (ws : List ℕ) (pairs : ℕ) → SoundWith ws pairs → pairs ≡ 0 → (set : ℕ) → permitted ws set ≡ true
unfolding permitted
permitted-all ws pairs s e set = every-each (λ pair. not (inside pair set)) (excluded (records ws)) (each_none _ (excluded (records ws)) (sym s.1 ∙ e))

-- set 0 has no pair
pub permitted-zero : (ws : List ℕ) → verdict ws ≡ result tt → permitted ws 0 ≡ true
unfolding permitted
permitted-zero ws v =
    every-each (λ pair. not (inside pair 0)) (excluded (records ws))
    (each_in (λ (pair : ℕ). not (inside pair 0) ≡ true) (excluded (records ws)) (λ pair m. ap not (pair-not-empty pair (each-out (λ (p : ℕ). is_pair p ≡ true) (sound-exclusions ws v).0 m))))
