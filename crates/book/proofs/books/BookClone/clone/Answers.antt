-- `book::books::Book::clone`: the clone is the book.
use Rattle.std.proofs.Common.{◌≡◌, List, [], ◌∷◌, refl, ap₂, rules}
use Rattle.std.specs.List.{AllZip}
use Rattle.book.proofs.books.BookClone.clone.Goals as goal

-- clones, each of which is what it was made of
same : {A : Type 0} (R : A → A → Type 0) (xs ys : List A) → AllZip R xs ys → ((x y : A) → R x y → y ≡ x) → ys ≡ xs
same R [] [] h one = refl
same R [] (y ∷ ys) h one = absurd h
same R (x ∷ xs) [] h one = absurd h
same R (x ∷ xs) (y ∷ ys) h one = ap₂ ◌∷◌ (one x y h.0) (same R xs ys h.1 one)

pub invariant_of-result : goal.invariant_of-result
invariant_of-result c =
    let policies = same _ _ _ c.in-Ok.ensures.cases (λ _ _ k. k) in
    let exclusions = same _ _ _ c.in-Ok-2.ensures.cases (λ _ _ k. k) in
    let conditions = same _ _ _ c.in-Ok-3.ensures.cases (λ _ _ k. k) in
    rw (policies, exclusions, conditions) (search rules)
