-- Compiling on a book's bytes: the listing, or refusals 1 to 8, and the lent words (document 01, "When a call declines").
use Rattle.std.specs.Prelude.{ℕ, ◌*◌, List, ◌++◌, leb, length, take, drop}
use Rattle.answers.specs.Answers.{Answer, result, refused, on_result, require}
use Rattle.layout.specs.Records.{Record, words}
use Rattle.translation.specs.Translation.{listing_records}
use Rattle.book.specs.Books.{asked}

-- some records, or 8 where they have more words than were lent
unfoldable pub fitting : ℕ → List Record → Answer (List Record)
fitting lent rs = require (leb (length (words rs)) lent) 8 0 (result rs)

-- the records of the condition of that number, for so many lent words
unfoldable pub compiled : List ℕ → ℕ → ℕ → Answer (List Record)
compiled bytes number lent = on_result (asked bytes number) (λ (b, c). fitting lent (listing_records b c))

-- what compiling returns, the number of records
unfoldable pub returned : Answer (List Record) → Answer ℕ
returned a = on_result a (λ rs. result (length rs))

-- the lent words after the call: the listing's first and those beyond unchanged; all unchanged on a refusal
unfoldable pub lent_after : List ℕ → Answer (List Record) → List ℕ
lent_after lent (result rs) = words rs ++ drop (length (words rs)) lent
lent_after lent (refused number place) = lent

-- so compiling the condition of that number leaves the lent words
abbrev pub left_by : List ℕ → ℕ → List ℕ → List ℕ
left_by bytes number lent = lent_after lent (compiled bytes number (length lent))

-- the compiled listing: the first words as compiling left them, four for each record in the number it returned
unfoldable pub compiled_listing : ℕ → List ℕ → List ℕ
compiled_listing count lent = take (4 * count) lent
