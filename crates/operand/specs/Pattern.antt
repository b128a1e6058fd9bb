-- An integer of 64 bits and its pattern. Assumes nothing.
use Rattle.std.specs.Prelude.{ℕ, suc, ◌-◌, ◌^◌, cond, ltb, ℤ, pos, negsuc}
use Rattle.operand.specs.Kind.{of_i64, of_u64}
use Rattle.operand.specs.declared.Operand.{Operand}

-- the pattern of an integer: its number, or 2 ^ 64 less as much as it is below zero
abbrev pub pattern_of : ℤ → ℕ
pattern_of (pos n) = n
pattern_of (negsuc n) = 2 ^ 64 - suc n

-- the integer of a pattern: one of 2 ^ 63 or more is negative
abbrev pub integer_of : ℕ → ℤ
integer_of n = cond (ltb n (2 ^ 63)) (pos n) (negsuc (2 ^ 64 - suc n))

-- the 64-bit pattern of an immediate, and 0 of any other operand
abbrev pub pattern_in : Operand → ℕ
pattern_in o = of_i64 o pattern_of (of_u64 o (λ v. v) 0)
