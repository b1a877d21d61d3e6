-- A turn of the search, wherever the sets that are found go.
use Prim.Native.Nat.{ℕ, ◌+◌, ◌-◌, ◌≤◌, ◌<◌}
use mathlib.Core.Bool.{true, false}
use mathlib.Core.List.{List, [], ◌∷◌, ◌++◌, map, map-append, append_assoc, append-nil}
use mathlib.Core.Path.{◌≡◌, refl, sym, ap, subst, ◌∙◌}
use native.Mathlib.Omega.{arith}
use lib.ListN.{length, length-append, length-map}
use Rattle.peal.specs.Policies.{Rule, mask_of}
use Rattle.compiler.specs.Searching.{Point, having, all_at, taking, found, Searching}
use Rattle.compiler.specs.declared.planning.Plan.{Plan}
use Rattle.compiler.specs.declared.searching.Taken.{Taken}
use Rattle.compiler.proofs.PointLaws.{fewer-coming}
use Rattle.compiler.proofs.FoundLaws.{tried, tried-itself, tried-further, found-further}

-- some sets are put, and with what is found from here on, where `left` rules are still to come, they are all that is found
pub record Underway {S : Type 0} (after : S → List ℕ → S → Type 0) (begun now : S) (plan : Plan) (taken : Taken) (p : Point) (rank left : ℕ) : Type 0 where
  pub done : List (List Rule)
  pub here : Searching plan taken left p
  pub put : after begun (map mask_of done) now
  pub all : done ++ found p left ≡ found p rank

module _ {S : Type 0} (after : S → List ℕ → S → Type 0) {begun : S} {plan : Plan} {taken : Taken} {p : Point} {rank : ℕ} where
  pub underway : after begun [] begun → Searching plan taken rank p → Underway after begun begun plan taken p rank rank
  underway none h = record { done = []; here = h; put = none; all = refl }

  module _ {now : S} {left : ℕ} (u : Underway after begun now plan taken p rank left) where
    -- nothing more is found
    pub ended : found p left ≡ [] → after begun (map mask_of (found p rank)) now
    ended e =
        let same : u.done ≡ found p rank = sym (append-nil u.done) ∙ ap (λ (F : List (List Rule)). u.done ++ F) (sym e) ∙ u.all in
        subst (λ (F : List (List Rule)). after begun (map mask_of F) now) same u.put

    -- some rule is still to come
    pub turn : 0 < left → Underway after begun now plan taken p rank (left - 1 + 1)
    turn some = let e : left ≡ left - 1 + 1 = omega arith in subst (Underway after begun now plan taken p rank) e u

  -- a rule is tried, since all the rules together have the property
  module _ {now : S} (left : ℕ) (u : Underway after begun now plan taken p rank (left + 1)) (reaches : having p (all_at p (left + 1)) ≡ true) where
    abbrev next : Point
    next = taking p (left + 1)

    further : u.done ++ (tried next left ++ found p left) ≡ found p rank
    further = ap (λ (F : List (List Rule)). u.done ++ F) (sym (found-further left u.here reaches)) ∙ u.all

    -- the sets found with the rule are among all
    room : {F : List (List Rule)} → tried next left ≡ F → length (map mask_of u.done) + length F ≤ length (found p rank)
    room {F} e =
        omega (
          arith,
          length-map u.done mask_of,
          ap (λ (G : List (List Rule)). length G) further,
          length-append u.done (tried next left ++ found p left),
          length-append (tried next left) (found p left),
          ap (λ (G : List (List Rule)). length G) e,
        )

    -- they are put, and the rule is left out
    passed : {F : List (List Rule)} → tried next left ≡ F → {later : S} → after begun (map mask_of u.done ++ map mask_of F) later
        → Underway after begun later plan taken p rank left
    passed {F} e {later} put =
        record {
          done = u.done ++ F;
          here = fewer-coming u.here left (omega arith);
          put = subst (λ (m : List ℕ). after begun m later) (sym (map-append mask_of u.done F)) put;
          all =
              append_assoc u.done F (found p left)
              ∙ ap (λ (G : List (List Rule)). u.done ++ (G ++ found p left)) (sym e)
              ∙ further;
        }

    -- with the rule those taken have the property: they are the one set found
    module _ (yes : having next next.taken ≡ true) where
      pub one-room : length (map mask_of u.done) + 1 ≤ length (found p rank)
      one-room = room (tried-itself next left yes)

      pub one-put : {later : S} → after begun (map mask_of u.done ++ (mask_of next.taken ∷ [])) later → Underway after begun later plan taken p rank left
      one-put put = passed (tried-itself next left yes) put

    -- they have not: what is found beyond them
    module _ (no : having next next.taken ≡ false) where
      pub more-room : length (map mask_of u.done) + length (found next left) ≤ length (found p rank)
      more-room = room (tried-further next left no)

      pub more-put : {later : S} → after begun (map mask_of u.done ++ map mask_of (found next left)) later → Underway after begun later plan taken p rank left
      more-put put = passed (tried-further next left no) put
