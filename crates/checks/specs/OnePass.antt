-- Claimed: one pass over the signal sets, one by one in rising order, which leaves out those with an excluded pair,
-- judges every set left once, and ends as soon as it has a yes and a no, finds what the choice check finds, and judges
-- as many sets. Proved in proofs/OnePass.antt.
use Rattle.std.specs.Prelude.{ℕ, zero, suc, ◌+◌, Bool, true, false, not, cond, List, ◌≡◌}
use Rattle.std.proofs.Math.Option.{Option, none, some}
use Rattle.answers.specs.Answers.{result, on_result}
use Rattle.layout.specs.Judgement.{verdict}
use Rattle.rod.specs.Reading.{says}
use Rattle.checks.specs.Checks.{permitted, choice_of, chosen}

-- the pass so far: the lowest set with yes and the lowest with no, if there are such, and how many sets were judged
pub record Pass : Type 0 where
  pub yes : Option ℕ
  pub no : Option ℕ
  pub judged : ℕ

-- nothing yet
abbrev pub started : Pass
started = record { yes = none; no = none; judged = 0 }

-- there is a set with yes and one with no
abbrev pub has_both : Option ℕ → Option ℕ → Bool
has_both (some y) (some n) = true
has_both (some y) none = false
has_both none n = false

-- the lowest set with an answer, after one set more, which gives it or does not: the first that gives it stays
abbrev pub lowest_with : Option ℕ → ℕ → Bool → Option ℕ
lowest_with (some lowest) set here = some lowest
lowest_with none set here = cond here (some set) none

-- one set more: left out if it has an excluded pair, and judged if not
unfoldable pub take_set : List ℕ → ℕ → Pass → Pass
take_set ws set p =
    let answer = says ws set in
    let yes = lowest_with p.yes set answer in
    let no = lowest_with p.no set (not answer) in
    cond (permitted ws set) (record { yes = yes; no = no; judged = p.judged + 1 }) p

-- the `count` sets from `from` on, until it has both
unfoldable pub pass_from : List ℕ → ℕ → ℕ → Pass → Pass
pass_from ws zero from p = p
pass_from ws (suc count) from p = cond (has_both p.yes p.no) p (pass_from ws count (from + 1) (take_set ws from p))

-- of any words: they are declined, or the choice check's answer is that of the pass
abbrev pub OnePass : Type 0
OnePass =
    (ws : List ℕ) → let p = pass_from ws 65536 0 started in
    chosen ws ≡ on_result (verdict ws) (λ u. result (record { choice = choice_of p.yes p.no; judged = p.judged }))
