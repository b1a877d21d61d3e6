-- A row of values written into cells one after the other, from cell `at` on: `sets cells at row` of `lib.Seq`, which has its length
-- (`length-sets`) and the cells as a whole (`sets-eq`: those before, the row, those after). Here is what each cell then holds.
use Prim.Native.Nat.{ℕ, zero, suc, ◌+◌, ◌≤◌, ◌<◌}
use mathlib.Core.List.{List, [], ◌∷◌, ◌++◌}
use mathlib.Core.Path.{◌≡◌, refl, ap, ◌∙◌}
use native.Mathlib.Nat.{add-zero}
use native.Mathlib.Omega.{arith}
use lib.ListN.{length, get_or, set, length-set}
use lib.Seq.{sets, get_or-set_same, get_or-set_other}

module _ {A : Type 0} where
  -- ---- as code writes a row: into cells at + i, at + (i + 1), ..

  abbrev pub stored : List A → (at i : ℕ) → List A → List A
  stored cells at i [] = cells
  stored cells at i (v ∷ row) = stored (set cells (at + i) v) at (i + 1) row

  stored-from : (row cells : List A) (at i from : ℕ) → at + i ≡ from → stored cells at i row ≡ sets cells from row
  stored-from [] cells at i from e = refl
  stored-from (v ∷ row) cells at i from e =
      ap (λ (m : ℕ). stored (set cells m v) at (i + 1) row) e ∙ stored-from row (set cells from v) at (i + 1) (suc from) (omega arith)

  pub stored_row : (cells : List A) (at i : ℕ) (row : List A) → stored cells at i row ≡ sets cells (at + i) row
  stored_row cells at i row = stored-from row cells at i (at + i) refl

  -- the first into cell `at` itself
  pub first-stored : (cells : List A) (at : ℕ) (v : A) (row : List A) → stored (set cells at v) at 1 row ≡ sets cells at (v ∷ row)
  first-stored cells at v row = stored-from row (set cells at v) at 1 (suc at) (omega arith)

  -- ---- what cell j holds: the row's member i, or what it held

  pub before-row : (row cells : List A) (at j : ℕ) (d : A) → j < at → get_or (sets cells at row) j d ≡ get_or cells j d
  before-row [] cells at j d h = refl
  before-row (v ∷ row) cells at j d h =
      before-row row (set cells at v) (suc at) j d (omega arith) ∙ get_or-set_other cells at j v d (λ e. omega arith)

  pub after-row : (row cells : List A) (at j : ℕ) (d : A) → at + length row ≤ j → get_or (sets cells at row) j d ≡ get_or cells j d
  after-row [] cells at j d h = refl
  after-row (v ∷ row) cells at j d h =
      after-row row (set cells at v) (suc at) j d (omega arith) ∙ get_or-set_other cells at j v d (λ e. omega arith)

  pub in_row : (row cells : List A) (at i j : ℕ) (d : A) → j ≡ at + i → i < length row → at + length row ≤ length cells
      → get_or (sets cells at row) j d ≡ get_or row i d
  in_row [] cells at i j d e h room = absurd (omega arith)
  in_row (v ∷ row) cells at zero j d e h room =
      ap (λ (m : ℕ). get_or (sets cells at (v ∷ row)) m d) e
      ∙ before-row row (set cells at v) (suc at) (at + 0) d (omega arith)
      ∙ ap (λ (m : ℕ). get_or (set cells at v) m d) (add-zero at)
      ∙ get_or-set_same cells at v d (omega arith)
  in_row (v ∷ row) cells at (suc i) j d e h room =
      in_row row (set cells at v) (suc at) i j d (omega arith) (omega arith) (omega (arith, length-set cells at v))

  -- ---- a row after a row

  pub row-then-row : (row more cells : List A) (at : ℕ) → sets cells at (row ++ more) ≡ sets (sets cells at row) (at + length row) more
  row-then-row [] more cells at = let e : at ≡ at + 0 = omega arith in ap (λ (m : ℕ). sets cells m more) e
  row-then-row (v ∷ row) more cells at =
      let e : suc at + length row ≡ at + suc (length row) = omega arith in
      row-then-row row more (set cells at v) (suc at) ∙ ap (λ (m : ℕ). sets (sets (set cells at v) (suc at) row) m more) e
