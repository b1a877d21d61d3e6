-- Bytes, lines and fields (document 01, "The book": bytes in lines, each ended by byte 10; fields parted by exactly one space).
use Rattle.std.specs.Prelude.{ℕ, Bool, true, false, cond, ◌&&◌, List, [], ◌∷◌, eqb, length, drop}
use Prim.Native.Char.{code}
use Prim.Native.String.{String}
use Rattle.std.proofs.Math.Option.{Option, some}
use Rattle.arith.specs.Options.{if◌then◌}

-- the bytes of a quoted text
abbrev pub bytes : String → List ℕ
bytes String.[] = []
bytes (String.◌∷◌ c s) = code c ∷ bytes s

-- a line: its bytes before the end, and whether byte 10 ends it
pub record Line : Type 0 where
  pub text : List ℕ
  pub ended : Bool

-- a byte in front of the first piece
unfoldable pub longer : ℕ → List (List ℕ) → List (List ℕ)
longer b [] = (b ∷ []) ∷ []
longer b (p ∷ ps) = (b ∷ p) ∷ ps

-- the pieces of s between the bytes x: two in a row, or one at an end, leave an empty piece
unfoldable pub parted : ℕ → List ℕ → List (List ℕ)
parted x [] = [] ∷ []
parted x (b ∷ s) = cond (eqb b x) ([] ∷ parted x s) (longer b (parted x s))

-- pieces as lines: each but the last is ended; after the last end there is no further line
unfoldable pub as_lines : List (List ℕ) → List Line
as_lines [] = []
as_lines ([] ∷ []) = []
as_lines ((b ∷ s) ∷ []) = record { text = b ∷ s; ended = false } ∷ []
as_lines (p ∷ q ∷ ps) = record { text = p; ended = true } ∷ as_lines (q ∷ ps)

-- the lines of a book, each ended by byte 10
unfoldable pub text_lines : List ℕ → List Line
text_lines s = as_lines (parted 10 s)

-- the space
abbrev pub space : ℕ
space = 32

-- the fields of a line, parted by the space
unfoldable pub fields : List ℕ → List (List ℕ)
fields s = parted space s

-- s is the word w
unfoldable pub is : List ℕ → List ℕ → Bool
is [] [] = true
is [] (b ∷ s) = false
is (x ∷ w) [] = false
is (x ∷ w) (b ∷ s) = eqb b x && is w s

-- s begins with the word w
unfoldable pub begins : List ℕ → List ℕ → Bool
begins [] s = true
begins (x ∷ w) [] = false
begins (x ∷ w) (b ∷ s) = eqb b x && begins w s

-- what stands after the word w that s begins with; nothing where s does not begin with it
unfoldable pub after : List ℕ → List ℕ → Option (List ℕ)
after w s = if begins w s then some (drop (length w) s)
