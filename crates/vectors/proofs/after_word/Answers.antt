-- `vectors::after_word`: a line that begins with the word is the word, and then the rest.
use Rattle.std.proofs.Common.{ℕ, ◌≡◌, ◌-◌, ◌++◌, List, length, take, drop, refl, sym, ap, subst, ◌∙◌, eqb, true, false, arith, Bool}
use Rattle.std.proofs.lemmas.List.{take-append-drop, length-drop}
use Rattle.std.proofs.Math.Seq.{take-length}
use Rattle.std.specs.Cmp.Lexicographic.{pointwise}
use Rattle.vectors.proofs.Words.{same-bytes, bytes-same}
use Rattle.vectors.proofs.after_word.Goals as goal

pub returns-then-starts_with-clause-follows : goal.returns-then-starts_with-clause-follows
returns-then-starts_with-clause-follows c =
    let word : List ℕ = c.args.word.now in
    let line : List ℕ = c.args.line.now in
    let same : word ≡ take (length word) line = same-bytes word (take (length word) line) (sym c.if-starts_with.ensures.value) in
    let rest : take (length line - length word) (drop (length word) line) ≡ drop (length word) line = ap (λ (n : ℕ). take n (drop (length word) line)) (sym (length-drop (length word) line)) ∙ take-length (drop (length word) line) in
    sym (take-append-drop (length word) line) ∙ ap (λ (xs : List ℕ). xs ++ drop (length word) line) (sym same) ∙ ap (λ (xs : List ℕ). word ++ xs) (sym rest)

pub returns-else-starts_with-clause-none : goal.returns-else-starts_with-clause-none
returns-else-starts_with-clause-none c = λ same.
    let word : List ℕ = c.args.word.now in
    let is : pointwise eqb word (take (length word) c.args.line.now) ≡ true = ap (pointwise eqb word) same ∙ bytes-same word in
    let clash : true ≡ false = sym is ∙ sym c.if-starts_with.ensures.value in
    cc
