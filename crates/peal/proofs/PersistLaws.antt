-- For each operator the property of lines persists among the ranked rules.
use mathlib.Core.Bool.{true}
use mathlib.Core.List.Permᴰ
use mathlib.Core.List.Sublistᴰ
use mathlib.Core.List.{List, [], ◌∷◌, ◌++◌, append_assoc, Permᴰ}
use mathlib.Core.Path.{◌≡◌, refl, sym, ap, ◌∙◌}
use native.Mathlib.Omega.{arith}
use lib.IntN.{ℤ}
use Rattle.arith.proofs.Sublists.{inside-length, front-inside, end-inside, each-inside}
use Rattle.arith.proofs.InOrder.{order-inside}
use Rattle.arith.proofs.Reordering.{each-reordered, length-reordered}
use Rattle.peal.specs.Policies.{Rule}
use Rattle.peal.specs.Ranking.{ranked}
use Rattle.peal.specs.SetsOfRules.{SetInside}
use Rattle.peal.specs.Lines.{has}
use Rattle.peal.specs.SearchFindsMinimal.{Persists}
use Rattle.peal.specs.SearchFindsLines.{score_fits, RulesFit}
use Rattle.peal.specs.declared.Operator.{Operator}
use Rattle.peal.proofs.HigherLaws.{not-higher-score}
use Rattle.peal.proofs.RankLaws.{ranked-reordered, NotBelow, ranked-order}
use Rattle.peal.proofs.HavingLaws.{has-reordered, has-added, has-exchanged}

pub fits-reordered : {op : Operator} {X Y : List Rule} → Permᴰ X Y → RulesFit op X → RulesFit op Y
fits-reordered {op} {X} {Y} d fit =
    record {
      scores = each-reordered (λ (r : Rule). score_fits op r.score ≡ true) d fit.scores;
      room = λ e. omega (arith, fit.room e, length-reordered d);
    }

pub fits-inside : {op : Operator} {Y X : List Rule} → SetInside Y X → RulesFit op X → RulesFit op Y
fits-inside {op} s fit =
    record {
      scores = each-inside (λ (r : Rule). score_fits op r.score ≡ true) s fit.scores;
      room = λ e. omega (arith, fit.room e, inside-length s);
    }

-- where the empty set has the property, every set has it
pub has_all : (op : Operator) (t : ℤ) (X : List Rule) → RulesFit op X → has op t [] ≡ true → has op t X ≡ true
has_all op t [] fit h = h
has_all op t (r ∷ X) fit h = has-added op t r X fit (has_all op t X (fits-inside (Sublistᴰ.cons (Sublistᴰ.refl X)) fit) h)

pub has-persists : (op : Operator) (t : ℤ) (rules : List Rule) → RulesFit op rules → Persists (has op t) (ranked op rules)
has-persists op t rules fit = record { added = added; exchanged = exchanged }
  where
    ranked-fit : RulesFit op (ranked op rules)
    ranked-fit = fits-reordered (Permᴰ.symm (ranked-reordered op rules)) fit

    added : (X Y : List Rule) (r : Rule) → SetInside (X ++ (r ∷ Y)) (ranked op rules) → has op t (X ++ Y) ≡ true → has op t (X ++ (r ∷ Y)) ≡ true
    added X Y r i h =
        has-reordered op t (Permᴰ.middle r X Y) ∙ has-added op t r (X ++ Y) (fits-reordered (Permᴰ.middle r X Y) (fits-inside i ranked-fit)) h

    -- a stands before b
    before : (X Y : List Rule) (a b : Rule) → SetInside (a ∷ b ∷ []) (X ++ (a ∷ (Y ++ (b ∷ []))))
    before X Y a b = Sublistᴰ.trans (Sublistᴰ.cons-cons refl (end-inside Y (b ∷ []))) (end-inside X (a ∷ (Y ++ (b ∷ []))))

    exchanged : (X Y : List Rule) (a b : Rule) → SetInside (X ++ (a ∷ (Y ++ (b ∷ [])))) (ranked op rules)
        → has op t (X ++ (Y ++ (b ∷ []))) ≡ true → has op t (X ++ (a ∷ Y)) ≡ true
    exchanged X Y a b i h =
        has-reordered op t (Permᴰ.middle a X Y)
        ∙ has-exchanged op t a b (X ++ Y)
        (fits-inside (Sublistᴰ.trans (Sublistᴰ.append (Sublistᴰ.refl X) (Sublistᴰ.cons (front-inside Y (b ∷ [])))) i) ranked-fit)
        (not-higher-score op b a (order-inside (NotBelow op) (Sublistᴰ.trans (before X Y a b) i) (ranked-order op rules)).0.0)
        (sym (has-reordered op t (Permᴰ.append_comm (X ++ Y) (b ∷ []))) ∙ ap (has op t) (append_assoc X Y (b ∷ [])) ∙ h)
