-- Words as text: of a word more.
use Rattle.std.specs.Prelude
use Rattle.std.proofs.Common.{ℕ, suc, ◌≡◌, ◌+◌, ◌<◌, List, [], ◌∷◌, ◌++◌, length, take, get_or, codes, refl, sym, ap, subst, ◌∙◌, append_assoc, append-nil, add-one}
use Rattle.std.specs.Fmt.{decimal}
use Rattle.std.specs.Io.KnownBytes.{Appends}
use Rattle.std.proofs.Math.Seq.{take-suc}
use Rattle.printing.specs.Words.{spaced}

spaced-append : (xs ys : List ℕ) → spaced (xs ++ ys) ≡ spaced xs ++ spaced ys
spaced-append [] ys = refl
spaced-append (x ∷ xs) ys = rw (spaced-append xs ys) (sym (append_assoc (codes " " ++ decimal x) (spaced xs) (spaced ys)))

pub spaced-more : (words : List ℕ) (i : ℕ) → i < length words → spaced (take (i + 1) words) ≡ spaced (take i words) ++ (codes " " ++ decimal (get_or words i 0))
spaced-more words i h =
    ap (λ (n : ℕ). spaced (take n words)) (add-one i)
    ∙ ap spaced (take-suc words i 0 h)
    ∙ spaced-append (take i words) (get_or words i 0 ∷ [])
    ∙ ap (λ (bs : List ℕ). spaced (take i words) ++ bs) (append-nil (codes " " ++ decimal (get_or words i 0)))

-- what was appended, and then more
pub appends-both : (a b c : Prelude.Option (List ℕ)) (xs ys : List ℕ) → Appends a b xs → Appends b c ys → Appends a c (xs ++ ys)
appends-both Prelude.None b c xs ys h k = tt
appends-both (Prelude.Some ws) Prelude.None c xs ys h k = absurd h
appends-both (Prelude.Some ws) (Prelude.Some bs) Prelude.None xs ys h k = absurd k
appends-both (Prelude.Some ws) (Prelude.Some bs) (Prelude.Some cs) xs ys h k = k ∙ ap (λ (l : List ℕ). l ++ ys) h ∙ append_assoc ws xs ys
