-- The masks of records in a row, put into a table one after the other.
use Prim.Native.Nat.{ℕ, zero, suc, ◌+◌, ◌-◌, ◌*◌, ◌/◌, ◌%◌, ◌≤◌, ◌<◌}
use mathlib.Core.Bool.{Bool, ◌||◌, or_assoc, or-false}
use mathlib.Core.List.{List, ◌∷◌, ◌++◌}
use mathlib.Core.Path.{◌≡◌, sym, ap, ap₂, subst, ◌∙◌}
use native.Mathlib.Nat.{add-zero, zero-add, suc-add}
use native.Mathlib.Omega.{arith}
use lib.ListN.{length, get_or}
use Rattle.arith.specs.Lists.{exists}
use Rattle.arith.proofs.EveryExists.{exists-append}
use Rattle.arith.proofs.Each.{each-front, each-rest}
use Rattle.rod.specs.Values.{mask_at, AllSets}
use Rattle.groups.specs.Groups.{masks_from, MasksAt, tells, mask_reaches, Added, Gathered}

-- ---- rows of records

-- so many records and those after them
masks-append : (ws : List ℕ) (n i m : ℕ) → masks_from ws i (n + m) ≡ masks_from ws i n ++ masks_from ws (i + n) m
unfolding masks_from
masks-append ws zero i m = ap₂ (λ (x y : ℕ). masks_from ws x y) (sym (add-zero i)) (zero-add m)
masks-append ws (suc n) i m =
    ap (masks_from ws i) (suc-add n m)
    ∙ ap (λ (ms : List ℕ). mask_at ws i ∷ ms) (masks-append ws n (i + 1) m ∙ ap (λ (x : ℕ). masks_from ws (i + 1) n ++ masks_from ws x m) (next i n))
  where
    next : (a c : ℕ) → a + 1 + c ≡ a + suc c
    next a c = omega arith

module _ (ws : List ℕ) (from mid end : ℕ) (h : from ≤ mid) (g : mid ≤ end) where
  in_two : masks_from ws from (end - from) ≡ masks_from ws from (mid - from) ++ masks_from ws mid (end - mid)
  in_two = ap (masks_from ws from) whole ∙ masks-append ws (mid - from) from (end - mid) ∙ ap (λ (x : ℕ). masks_from ws from (mid - from) ++ masks_from ws x (end - mid)) reached
    where
      whole : end - from ≡ mid - from + (end - mid)
      whole = omega arith

      reached : from + (mid - from) ≡ mid
      reached = omega arith

  pub masks-front : MasksAt ws from end → MasksAt ws from mid
  masks-front m = record { ordered = h; within = omega (arith, m.within); sets = each-front (λ (l : ℕ). l ≤ 65535) (masks_from ws from (mid - from)) (masks_from ws mid (end - mid)) (subst AllSets in_two m.sets) }

  pub masks-rest : MasksAt ws from end → MasksAt ws mid end
  masks-rest m = record { ordered = g; within = m.within; sets = each-rest (λ (l : ℕ). l ≤ 65535) (masks_from ws from (mid - from)) (masks_from ws mid (end - mid)) (subst AllSets in_two m.sets) }

  pub gathered-both : (group : ℕ) (table middle left : List ℕ) → Gathered ws from mid group table middle → Gathered ws mid end group middle left → Gathered ws from end group table left
  gathered-both group table middle left f s =
      record {
        room = s.room;
        told = λ x l.
            s.told x l
            ∙ ap (λ (t : Bool). t || exists (mask_reaches 0 group x) (masks_from ws mid (end - mid))) (f.told x l)
            ∙ or_assoc (tells table x) (exists (mask_reaches 0 group x) (masks_from ws from (mid - from))) (exists (mask_reaches 0 group x) (masks_from ws mid (end - mid)))
            ∙ ap (λ (t : Bool). tells table x || t)
            (sym (ap (exists (mask_reaches 0 group x)) in_two ∙ exists-append (mask_reaches 0 group x) (masks_from ws from (mid - from)) (masks_from ws mid (end - mid))));
      }

-- ---- record by record

-- the masks before index i are in the table
pub record Gathering (ws : List ℕ) (from end group : ℕ) (table left : List ℕ) (i : ℕ) : Type 0 where
  pub more : MasksAt ws i end
  pub room : length left ≡ 16
  pub same : (x : ℕ) → x < 1024
      → (tells left x || exists (mask_reaches 0 group x) (masks_from ws i (end - i))) ≡ (tells table x || exists (mask_reaches 0 group x) (masks_from ws from (end - from)))

-- a record is left
module _ {ws : List ℕ} {end i : ℕ} (m : MasksAt ws i end) (some : i < end) where
  first-mask : masks_from ws i (end - i) ≡ mask_at ws i ∷ masks_from ws (i + 1) (end - (i + 1))
  unfolding masks_from
  first-mask = ap (masks_from ws i) one_more
    where
      one_more : end - i ≡ suc (end - (i + 1))
      one_more = omega arith

  pub mask-set : mask_at ws i ≤ 65535
  mask-set = (subst AllSets first-mask m.sets).0

  masks-after : MasksAt ws (i + 1) end
  masks-after = record { ordered = omega arith; within = m.within; sets = (subst AllSets first-mask m.sets).1 }

module _ {ws : List ℕ} {from end group : ℕ} {table left : List ℕ} {i : ℕ} (g : Gathering ws from end group table left i) where
  pub gathered-more : i < end → (next : List ℕ) → Added (mask_at ws i) group left next → Gathering ws from end group table next (i + 1)
  gathered-more some next a =
      record {
        more = masks-after g.more some;
        room = a.room;
        same = λ x h.
            ap (λ (t : Bool). t || exists (mask_reaches 0 group x) (masks_from ws (i + 1) (end - (i + 1)))) (a.told x h)
            ∙ or_assoc (tells left x) (mask_reaches 0 group x (mask_at ws i)) (exists (mask_reaches 0 group x) (masks_from ws (i + 1) (end - (i + 1))))
            ∙ ap (λ (ms : List ℕ). tells left x || exists (mask_reaches 0 group x) ms) (sym (first-mask g.more some))
            ∙ g.same x h;
      }

  -- none is left
  pub gathered-all : end ≤ i → Gathered ws from end group table left
  unfolding masks_from
  gathered-all l =
      record {
        room = g.room;
        told = λ x h.
            sym (or-false (tells left x))
            ∙ ap (λ (n : ℕ). tells left x || exists (mask_reaches 0 group x) (masks_from ws i n)) (sym no_more)
            ∙ g.same x h;
      }
    where
      no_more : end - i ≡ 0
      no_more = omega arith

-- ---- by the place of the mask's word, as the code has it

pub mask-small : (ws : List ℕ) (from end : ℕ) → MasksAt ws from end → (place : ℕ) → place % 4 ≡ 1 → from ≤ place / 4 → place / 4 < end → get_or ws place 0 ≤ 65535
mask-small ws from end m place e l h = subst (λ (x : ℕ). get_or ws x 0 ≤ 65535) (back place e) (mask-set (masks-rest ws from (place / 4) end l (omega arith) m) h)
  where
    back : (x : ℕ) → x % 4 ≡ 1 → x / 4 * 4 + 1 ≡ x
    back x r = omega arith

pub gathered-at : (ws : List ℕ) (from end group : ℕ) (table left : List ℕ) (i : ℕ) → Gathering ws from end group table left i → i < end
    → (place : ℕ) → i * 4 + 1 ≡ place → (next : List ℕ) → Added (get_or ws place 0) group left next → (j : ℕ) → i + 1 ≡ j → Gathering ws from end group table next j
gathered-at ws from end group table left i g h place e next a j k =
    subst (Gathering ws from end group table next) k (gathered-more g h next (subst (λ (x : ℕ). Added (get_or ws x 0) group left next) (sym e) a))
