-- A set of some rules leaves some of them out, or none, and keeps the order of the others.
use mathlib.Core.List.{List, Sublistᴰ}
use Rattle.peal.specs.Policies.{Rule}

-- Y is a set inside X
abbrev pub SetInside : List Rule → List Rule → Type 0
SetInside Y X = Sublistᴰ Y X
