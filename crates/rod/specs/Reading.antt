-- The rod's reading of a listing on a signal set (document 01, "The rod's reading").
use Rattle.std.specs.Prelude.{ℕ, Bool, false, not, cond, ◌&&◌, ◌||◌, List, [], get_or}
use Rattle.arith.specs.Lists.{exists}
use Rattle.arith.specs.Trees.{run}
use Rattle.answers.specs.Answers.{Answer, result, on_result}
use Rattle.signals.specs.Sets.{inside, overlap}
use Rattle.layout.specs.Records.{Join, and, or, records}
use Rattle.layout.specs.Judgement.{verdict}
use Rattle.layout.specs.Nodes.{ListedPolicy, nodes}

-- some line's mask lies wholly inside the set
unfoldable pub some_line : List ℕ → ℕ → Bool
some_line lines set = exists (λ l. inside l set) lines

-- quiet where the mask shares no signal with the set; otherwise yes if some line lies inside it, turned over if turned
unfoldable pub policy_value : ℕ → ListedPolicy → Bool
policy_value set p =
    cond (overlap p.mask set)
    (cond p.turned (not (some_line p.lines set)) (some_line p.lines set))
    p.quiet

-- joins are the usual and, or
unfoldable pub joined : Join → Bool → Bool → Bool
joined and a b = a && b
joined or a b = a || b

-- what the words of a sound listing say of a set: the one value that remains at the end
unfoldable pub says : List ℕ → ℕ → Bool
says ws set = get_or (run joined (policy_value set) (nodes (records ws)) []) 0 false

-- the rod's answer: the listing's refusal, or yes or no
unfoldable pub rod_answer : List ℕ → ℕ → Answer Bool
rod_answer ws set = on_result (verdict ws) (λ u. result (says ws set))
