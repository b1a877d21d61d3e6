-- `printing::read_full`: what one more read gave stands after what the buffer held.
use Rattle.std.proofs.Common.{◌≡◌, ◌≤◌, ◌+◌, ◌++◌, ℕ, List, length, take, rules, sym, ap, subst, ◌∙◌, length-take-le}
use Rattle.std.proofs.Math.Seq.{take-append-add}
use Rattle.std.proofs.lemmas.List.{take-append-le}
use Rattle.std.proofs.KnownBytes.{Consumes-trans}
use Rattle.std.specs.Io.KnownBytes.{Consumes}
use Rattle.printing.proofs.read_full.Goals as goal

-- the first bytes of a list, then the first of another
take-append-front : (at n : ℕ) (xs ys zs : List ℕ) → at ≤ length xs → n ≤ length ys → take (at + n) (take at xs ++ (ys ++ zs)) ≡ take at xs ++ take n ys
take-append-front at n xs ys zs h l =
    ap (λ (k : ℕ). take (k + n) (take at xs ++ (ys ++ zs))) (sym (length-take-le at xs h))
    ∙ take-append-add (take at xs) (ys ++ zs) n
    ∙ ap (λ (t : List ℕ). take at xs ++ t) (take-append-le n ys zs l)

pub loop-at-preserved : goal.loop-at-preserved
loop-at-preserved g c =
    let held = c.loop-at.invariant in
    record {
      within = search rules;
      kept = search rules;
      next = subst (Consumes _ _) (sym (take-append-front c.loop-at.at c.in_ok-n.n c.loop-at.buffer c.read.new.buf _ held.within c.in_ok-n.ensures.bound.0))
          (Consumes-trans _ _ _ _ _ held.next c.in_ok-n.ensures.bytes.0);
    }
