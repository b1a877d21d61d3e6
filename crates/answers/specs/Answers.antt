-- What a call returns (document 01, "When a call declines").
use Rattle.std.specs.Prelude.{ℕ, Bool, true, false, List, ◌++◌, codes}
use Rattle.std.specs.Fmt.{decimal}

-- a result, or a refusal: its number (1 to 10 of document 01's table, 11 of change request 6), and the line, record or 0 beside it
pub data Answer (A : Type 0) : Type 0 where
  result : A → Answer A
  refused : (number value : ℕ) → Answer A

-- go on with the result; a refusal is passed up
abbrev pub on_result : {A B : Type 0} → Answer A → (A → Answer B) → Answer B
on_result (result a) f = f a
on_result (refused number value) f = refused number value

-- refused by this number, with this value beside it, unless the test holds
abbrev pub require : {A : Type 0} → Bool → (number value : ℕ) → Answer A → Answer A
require true number value a = a
require false number value a = refused number value

-- the words in which programs print a refusal
abbrev pub refused_text : (number value : ℕ) → List ℕ
refused_text number value = codes "refused " ++ decimal number ++ codes " " ++ decimal value
