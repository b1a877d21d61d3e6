-- What `book::ask` tells the crates above, and leaves in the book.
use Rattle.std.specs.Prelude.{ℕ, ◌<◌, List, ◌≡◌, Result, Ok, Err, length, get_or}
use Rattle.answers.specs.Answers.{result}
use Rattle.peal.specs.Policies.{Book, Condition}
use Rattle.peal.specs.Standins.{no_condition}
use Rattle.book.specs.Books.{asked}
use Rattle.book.specs.Meaning.{declined_meaning}
use Rattle.book.specs.declared.Declined.{Declined}

-- condition n of a book
abbrev pub the_condition : Book → ℕ → Condition
the_condition b n = get_or b.conditions n no_condition

-- the book is the one that was asked, and its condition n the condition
pub record IsAsked (bytes : List ℕ) (number : ℕ) (book : Book) (n : ℕ) : Type 0 where
  pub there : n < length book.conditions
  pub told : asked bytes number ≡ result (book, the_condition book n)

-- by what was returned: a condition of the book, or why there is none
abbrev pub AskedAs : List ℕ → ℕ → Book → Result ℕ Declined → Type 0
AskedAs bytes number book (Ok n) = IsAsked bytes number book n
AskedAs bytes number book (Err d) = asked bytes number ≡ declined_meaning d
