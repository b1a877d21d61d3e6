-- Laws of words written into a table, one after the other.
use Prim.Native.Nat.{ℕ, ◌+◌, ◌≤◌, ◌<◌}
use mathlib.Core.List.{List}
use mathlib.Core.Logic.{⊎_elim}
use mathlib.Core.Path.{◌≡◌, refl, sym, subst, ◌∙◌}
use native.Mathlib.Omega.{arith}
use lib.ListN.{length, get_or, set, length-set}
use lib.Seq.{get_or-set_same, get_or-set_other}
use Rattle.arith.specs.Tables.{Written}
use Rattle.arith.proofs.Order.{le-or-lt}

module _ (place : ℕ → ℕ) (Told : ℕ → ℕ → Type 0) (table : List ℕ) where
  pub written_none : Written place Told 0 table table
  written_none = record { room = refl; told = λ k l. absurd (omega arith); others = λ i o. refl }

  -- one word more, at a place of its own
  pub written-more : (n : ℕ) (left : List ℕ) → Written place Told n table left → place n < length table
      → ((k : ℕ) → k < n → place k ≡ place n → ⊥) → (word : ℕ) → Told n word → Written place Told (n + 1) table (set left (place n) word)
  written-more n left w within apart word t =
      record {
        room = length-set left (place n) word ∙ w.room;
        told = λ k h. ⊎_elim (λ (l : n ≤ k). last k (omega arith)) (λ (l : k < n). earlier k l) (le-or-lt n k);
        others = λ i o. get_or-set_other left (place n) i word 0 (o n (omega arith)) ∙ w.others i (λ k l. o k (omega arith));
      }
    where
      earlier : (k : ℕ) → k < n → Told k (get_or (set left (place n) word) (place k) 0)
      earlier k l = subst (Told k) (sym (get_or-set_other left (place n) (place k) word 0 (apart k l))) (w.told k l)

      here : Told n (get_or (set left (place n) word) (place n) 0)
      here = subst (Told n) (sym (get_or-set_same left (place n) word 0 (omega (arith, w.room)))) t

      last : (k : ℕ) → k ≡ n → Told k (get_or (set left (place n) word) (place k) 0)
      last k e = subst (λ (x : ℕ). Told x (get_or (set left (place n) word) (place x) 0)) (sym e) here

  -- as many as the code counted
  pub written_all : (m n : ℕ) (left : List ℕ) → n ≡ m → Written place Told n table left → Written place Told m table left
  written_all m n left e w = subst (λ (x : ℕ). Written place Told x table left) e w

-- words written over words at the same places
pub written_over : (place : ℕ → ℕ) (First Second : ℕ → ℕ → Type 0) (n : ℕ) (table mid left : List ℕ)
    → Written place First n table mid → Written place Second n mid left → Written place Second n table left
written_over place First Second n table mid left f s =
    record { room = s.room ∙ f.room; told = s.told; others = λ i o. s.others i o ∙ f.others i o }

-- what is told, said otherwise
pub written_as : (place : ℕ → ℕ) (First Second : ℕ → ℕ → Type 0) (n : ℕ) (table left : List ℕ)
    → ((k : ℕ) → k < n → (word : ℕ) → First k word → Second k word) → Written place First n table left → Written place Second n table left
written_as place First Second n table left same w = record { room = w.room; told = λ k h. same k h _ (w.told k h); others = w.others }
