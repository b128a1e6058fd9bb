-- An integer of 64 bits is that of its pattern, which has 64 bits. Assumes nothing.
use mathlib.Core.Path.{◌≡◌, ap, ◌∙◌}
use mathlib.Core.Bool.{Bool, cond}
use Prim.Native.Nat.{suc, ◌-◌, ◌≤◌, ◌<◌, ◌^◌}
use native.Mathlib.Omega.{arith}
use borrow.Author.Tests.{lt-ltb, le-ltb}
use lib.IntN.{ℤ, pos, negsuc}
use mir.Syntax.{w64}
use mir.Val.{SFits}
use Rattle.operand.specs.Pattern.{integer_of, pattern_of}

-- an integer is that of its pattern
pub integer-pattern : (z : ℤ) → SFits w64 z → integer_of (pattern_of z) ≡ z
integer-pattern (pos n) f = ap (λ (b : Bool). cond b (pos n) (negsuc (2 ^ 64 - suc n))) (lt-ltb n (2 ^ 63) f.sfits)
integer-pattern (negsuc n) f =
    let h : n < 2 ^ 63 = f.sfits in
    let g : 2 ^ 63 ≤ 2 ^ 64 - suc n = omega arith in
    let e : 2 ^ 64 - suc (2 ^ 64 - suc n) ≡ n = omega arith in
    ap (λ (b : Bool). cond b (pos (2 ^ 64 - suc n)) (negsuc (2 ^ 64 - suc (2 ^ 64 - suc n)))) (le-ltb (2 ^ 64 - suc n) (2 ^ 63) g) ∙ ap negsuc e

-- a pattern is one of 64 bits
pub pattern_lt : (z : ℤ) → SFits w64 z → pattern_of z < 2 ^ 64
pattern_lt (pos n) f = let h : n < 2 ^ 63 = f.sfits in omega arith
pattern_lt (negsuc n) f = omega arith
