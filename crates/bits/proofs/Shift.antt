-- Shifts left that lose nothing are products: what is shifted stays below 2 ^ 64. Any other is the product of what stays.
-- Assumes nothing.
use mathlib.Core.Path.{◌≡◌, ◌∙◌, ap₂}
use Prim.Native.Nat.{ℕ, ◌+◌, ◌*◌, ◌%◌, ◌≤◌, ◌<◌, ◌^◌}
use native.Mathlib.Nat.{one-mul, mul-mod_left, add-zero}
use native.Mathlib.Omega.{arith}
use lib.Dec.{lit<}
use lib.Pow.{shl_exact, shl-shr, mod-pow-add}

pub one_shl : (k : ℕ) → k < 64 → (1 * 2 ^ k) % 2 ^ 64 ≡ 2 ^ k
one_shl k h = shl_exact {a = 1} 1 k 64 (lit< tt) (omega arith) ∙ one-mul (2 ^ k)

pub shl : (p k v : ℕ) → v < 2 ^ k → p + k ≤ 64 → (v * 2 ^ p) % 2 ^ 64 ≡ v * 2 ^ p
shl p k v h l = shl_exact k p 64 h (omega arith)

pub shl-low : (n j k : ℕ) → (n * 2 ^ k) % 2 ^ (j + k) ≡ n % 2 ^ j * 2 ^ k
shl-low n j k =
    mod-pow-add (n * 2 ^ k) j k
    ∙ ap₂ (λ (x y : ℕ). x % 2 ^ j * 2 ^ k + y) (shl-shr n k) (mul-mod_left n (2 ^ k))
    ∙ add-zero (n % 2 ^ j * 2 ^ k)
