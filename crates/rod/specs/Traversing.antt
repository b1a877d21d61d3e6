-- A whole traverse in one call: one listing, signal sets, and as many lent answers (change request 6).
use Rattle.std.specs.Prelude.{ℕ, List, map, eqb, length}
use Rattle.answers.specs.Answers.{Answer, result, refused, on_result, require}
use Rattle.layout.specs.Records.{one_if}
use Rattle.layout.specs.Judgement.{verdict}
use Rattle.rod.specs.Reading.{says}

-- what the words of a sound listing say of each set, in the order of the sets: 1 for yes, 0 for no
unfoldable pub answers_to : List ℕ → List ℕ → List ℕ
answers_to ws sets = map (λ set. one_if (says ws set)) sets

-- 11 where sets and lent answers are not equally many, before the listing is examined; its refusal; or the answers
unfoldable pub traversed : (ws sets lent : List ℕ) → Answer (List ℕ)
traversed ws sets lent = require (eqb (length sets) (length lent)) 11 0 (on_result (verdict ws) (λ u. result (answers_to ws sets)))

-- what the call returns: how many answers it wrote
unfoldable pub answer_count : Answer (List ℕ) → Answer ℕ
answer_count a = on_result a (λ answers. result (length answers))

-- the lent answers after the call: those to the sets; all unchanged on a refusal
unfoldable pub answers_after : List ℕ → Answer (List ℕ) → List ℕ
answers_after lent (result answers) = answers
answers_after lent (refused number value) = lent
