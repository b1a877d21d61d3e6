-- Short names for the cases: what a book's text comes to, by the definitions.
use Rattle.std.specs.Prelude.{ℕ, Bool, List, ℤ, length, replicate}
use Prim.Native.String.{String}
use Rattle.answers.specs.Answers.{Answer, result, on_result}
use Rattle.rod.specs.Reading.{rod_answer}
use Rattle.rod.specs.Traversing.{traversed}
use Rattle.checks.specs.Checks.{Chosen, chosen}
use Rattle.peal.specs.Policies.{policy_at}
use Rattle.peal.specs.Score.{policy_score}
use Rattle.text.specs.Text.{bytes}
use Rattle.book.specs.Books.{read}
use Rattle.score.specs.Decisions.{scored_answer}
use Rattle.score.specs.Shown.{shown_answer}
use Rattle.score.specs.declared.exact.Exact.{Exact}
use Rattle.compiler.specs.Compiling.{compiled, returned, lent_after, compiled_listing}
use Rattle.checks.specs.Computing.{checks_compute}
use Rattle.score.specs.Computing.{score_computes}
use Rattle.compiler.specs.Computing.{compiler_computes}

-- the compiled listing of condition 0, with 100 lent words
unfoldable pub listing : String → Answer (List ℕ)
listing book =
    let lent : List ℕ = replicate 100 7 in
    let records = compiled (bytes book) 0 100 in
    on_result (returned records) (λ count. result (compiled_listing count (lent_after lent records)))

-- the scored decision of condition 0 on a set, and the rod's answer on its listing
unfoldable pub decides : String → ℕ → Answer Bool × Answer Bool
decides book set = (scored_answer (bytes book) 0 set, on_result (listing book) (λ ws. rod_answer ws set))

-- the answers of a traverse by the listing, with as many lent as there are sets
unfoldable pub traverses : String → List ℕ → Answer (List ℕ)
traverses book sets = on_result (listing book) (λ ws. traversed ws sets (replicate (length sets) 7))

-- the score of a policy on a set
unfoldable pub scores : String → ℕ → ℕ → Answer ℤ
scores book n set = on_result (read (bytes book)) (λ b. result (policy_score set (policy_at b.policies n)))

-- the score of condition 0 on a set, as it is shown
unfoldable pub shows : String → ℕ → Answer Exact
shows book set = shown_answer (bytes book) 0 set

-- the choice check of the listing, with how many sets are judged
unfoldable pub chooses : String → Answer Chosen
chooses book = on_result (listing book) chosen

-- both the logger and the rod say yes, or no
unfoldable pub yes : Answer Bool × Answer Bool
yes = (result Bool.true, result Bool.true)

unfoldable pub no : Answer Bool × Answer Bool
no = (result Bool.false, result Bool.false)

-- two results of one case
infixr 25 ◌&◌
abbrev pub ◌&◌ : {A B : Type 0} → A → B → A × B
a & b = (a, b)

-- no meaning: a case that computes with all definitions says `unfolding all_compute`
unfoldable pub all_compute : Unit {0}
unfolding checks_compute score_computes compiler_computes listing decides traverses scores shows chooses yes no
all_compute = tt
