-- Laws of bits as the code holds them: shifts and powers of two.
use Prim.Native.Nat.{ℕ, ◌*◌, ◌%◌, ◌^◌, ◌<◌}
use mathlib.Core.Path.{◌≡◌, ◌∙◌}
use native.Mathlib.Nat.{one-mul}
use native.Mathlib.Omega.{arith}
use lib.Dec.{lit<}
use lib.Pow.{shl_exact}

-- 1 << s in w bits
pub bit_is : (s w : ℕ) → s < w → (1 * 2 ^ s) % 2 ^ w ≡ 2 ^ s
bit_is s w h = shl_exact {a = 1} 1 s w (lit< tt) (omega arith) ∙ one-mul (2 ^ s)
