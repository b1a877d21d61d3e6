-- Claimed (change request 3): what is shown is the score, and tells the decision. Proved in proofs/ShownTells.antt.
use Rattle.std.specs.Prelude.{ℕ, ◌^◌, ◌<◌, true, List, ◌≡◌, ℤ, pos, neg_ℤ, ◌+ℤ◌}
use Rattle.std.specs.Int.Signed.{lt_z}
use Rattle.answers.specs.Answers.{result, on_result}
use Rattle.arith.specs.Trees.{tree_value}
use Rattle.peal.specs.Policies.{Policy, Expression, policy_at}
use Rattle.peal.specs.Score.{scaled, policy_score, score}
use Rattle.book.specs.Acceptance.{within}
use Rattle.book.specs.Books.{asked}
use Rattle.score.specs.Decisions.{scored_answer}
use Rattle.score.specs.Shown.{shown, shown_answer, of_pairs, exceeds, meets_shown}
use Rattle.score.specs.declared.exact.Exact.{Exact}

pub record ShownTells : Type 0 where
  -- the remainder is 0 up to one below 10 to the 14, and is what the score has beyond the hundredths: these are rounded toward
  -- minus infinity, and nothing is lost
  pub small : (v : ℤ) → (shown v).remainder < 10 ^ 14
  pub exact : (v : ℤ) → scaled (shown v).hundredths +ℤ pos (shown v).remainder ≡ v
  -- there is no other such pair
  pub only : (x : Exact) → x.remainder < 10 ^ 14 → x ≡ shown (scaled x.hundredths +ℤ pos x.remainder)
  -- min and max compare these pairs exactly, however deep they stand in E
  pub pairs : (ps : List Policy) (set : ℕ) (e : Expression)
      → shown (score ps set e) ≡ tree_value of_pairs (λ k. shown (policy_score set (policy_at ps k))) e
  -- T is less than E exactly when the hundredths exceed T, or equal it with a remainder above zero
  pub above : (t v : ℤ) → lt_z (scaled t) v ≡ exceeds t (shown v)
  -- so the decision is what the shown score tells, in both senses: they never contradict each other, and are refused alike
  pub decides : (bytes : List ℕ) (number set : ℕ)
      → scored_answer bytes number set
      ≡ on_result (asked bytes number) (λ (b, c). on_result (shown_answer bytes number set) (λ x. result (meets_shown c.sense c.threshold x)))
  -- of an accepted book the hundredths are -10,000 to 160,000
  pub range : (bytes : List ℕ) (number set : ℕ) (x : Exact) → shown_answer bytes number set ≡ result x
      → within (neg_ℤ (pos 10000)) (pos 160000) x.hundredths ≡ true
