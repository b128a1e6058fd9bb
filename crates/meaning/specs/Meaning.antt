-- What a raw number of w bits means, and which raw number a value has. Assumes nothing.
use Rattle.std.specs.Prelude.{ℕ, zero, suc, ◌+◌, ◌-◌, ◌*◌, ◌/◌, ◌%◌, ◌^◌, Bool, true, false, cond, ℤ, pos, negsuc, ◌==◌, nat_le, nat_lt}
use Rattle.std.specs.declared.result.Result.{Result}
use Rattle.std.specs.declared.result.Result.TheVariants.{Ok, Err}
use Rattle.answer.specs.Answer.{accepted, bad_value, number_of}
use Rattle.answer.specs.declared.Refusal.{Refusal}
use Rattle.bits.specs.Part.{part}
use Rattle.operand.specs.Kind.{of_i64, of_u64}
use Rattle.operand.specs.Pattern.{pattern_of, integer_of}
use Rattle.operand.specs.declared.Operand.{Operand}
use Rattle.operand.specs.declared.Operand.TheVariants.{ImmI64, ImmU64}
use Rattle.operand.specs.declared.Operand.TheVariants.{None as NoOperand}
use Rattle.meaning.specs.declared.Meaning.{Meaning}
use Rattle.meaning.specs.declared.Meaning.TheVariants.{None, Unsigned, Signed, Chosen, Complement}

-- whether a raw number has a value
abbrev pub means : Meaning → Bool
means None = false
means (Unsigned plus) = true
means (Signed unit) = true
means (Chosen signed list) = true
means (Complement top) = true

-- a raw number with a sign: the top bit is the sign, and the number counts units
abbrev pub signed_of : ℕ → ℕ → ℕ → ℤ
signed_of unit w raw = cond (nat_lt raw (2 ^ (w - 1))) (pos (unit * raw)) (negsuc (unit * (2 ^ w - raw) - 1))

-- what stands at a place of a list: a list of numbers of 8 bits is one number, and the first of them stands lowest
abbrev pub entry : ℕ → ℕ → ℕ
entry list place = part list (8 * place) 8

-- a number of 8 bits as a value, with a sign or without
abbrev pub entry_value : Bool → ℕ → Operand
entry_value true b = ImmI64 (signed_of 1 8 b)
entry_value false b = ImmU64 b

-- the value of a raw number
abbrev pub value_of : Meaning → ℕ → ℕ → Operand
value_of None w raw = NoOperand
value_of (Unsigned plus) w raw = ImmU64 (plus + raw)
value_of (Signed unit) w raw = ImmI64 (signed_of unit w raw)
value_of (Chosen signed list) w raw = entry_value signed (entry list raw)
value_of (Complement top) w raw = ImmU64 (top - raw)

-- a 64-bit pattern as a value, with a sign or without
abbrev pub patterned : Bool → ℕ → Operand
patterned true p = ImmI64 (integer_of p)
patterned false p = ImmU64 p

-- whether a meaning's values have a sign
abbrev pub has_sign : Meaning → Bool
has_sign None = false
has_sign (Unsigned plus) = false
has_sign (Signed unit) = true
has_sign (Chosen signed list) = signed
has_sign (Complement top) = false

-- the value with that pattern, of the kind that a meaning's values have
abbrev pub operand_for : Meaning → ℕ → Operand
operand_for m p = patterned (has_sign m) p

-- what taking a value out of its operand comes to: an answer, and a 64-bit pattern, 0 where it is refused
pub record Taken : Type 0 where
  pub answer : ℕ
  pub pattern : ℕ

abbrev pub as_taken : Result ℕ Refusal → Taken
as_taken (Ok pattern) = record { answer = accepted; pattern = pattern }
as_taken (Err refusal) = record { answer = number_of refusal; pattern = 0 }

-- a pattern that is taken out of its operand, and the refusal of an operand of another kind
abbrev pub Out : ℕ → Taken
Out pattern = record { answer = accepted; pattern = pattern }

abbrev pub Other : Taken
Other = record { answer = bad_value; pattern = 0 }

-- the pattern of an immediate, with a sign or without; every other operand is refused
abbrev pub taken_by : Bool → Operand → Taken
taken_by true value = of_i64 value (λ v. Out (pattern_of v)) Other
taken_by false value = of_u64 value Out Other

-- the pattern of a value of the kind that a meaning's values have
abbrev pub taken_of : Meaning → Operand → Taken
taken_of m value = taken_by (has_sign m) value

-- what a value's raw number comes to: an answer, and the number, 0 where it is refused
pub record Raw : Type 0 where
  pub answer : ℕ
  pub raw : ℕ

abbrev pub as_raw : Result ℕ Refusal → Raw
as_raw (Ok raw) = record { answer = accepted; raw = raw }
as_raw (Err refusal) = record { answer = number_of refusal; raw = 0 }

-- a value's raw number, and the refusal of a value that has none
abbrev pub Is : ℕ → Raw
Is raw = record { answer = accepted; raw = raw }

abbrev pub Bad : Raw
Bad = record { answer = bad_value; raw = 0 }

-- the raw number of so many units, and of so many below zero
abbrev pub raw_up : ℕ → ℕ → ℕ → Raw
raw_up unit w v = cond (v % unit == 0) (cond (nat_lt (v / unit) (2 ^ (w - 1))) (Is (v / unit)) Bad) Bad

abbrev pub raw_down : ℕ → ℕ → ℕ → Raw
raw_down unit w v = cond (v % unit == 0) (cond (nat_le (v / unit) (2 ^ (w - 1))) (Is (2 ^ w - v / unit)) Bad) Bad

abbrev pub raw_signed : ℕ → ℕ → ℤ → Raw
raw_signed unit w (pos v) = raw_up unit w v
raw_signed unit w (negsuc v) = raw_down unit w (suc v)

-- the raw number that a number is above another, which is to have w bits
abbrev pub raw_above : ℕ → ℕ → ℕ → Raw
raw_above low w high = cond (nat_lt high low) Bad (cond (nat_lt (high - low) (2 ^ w)) (Is (high - low)) Bad)

-- the number of 8 bits of a value, with a sign or without
abbrev pub entry_of : Bool → Operand → Raw
entry_of true value = of_i64 value (raw_signed 1 8) Bad
entry_of false value = of_u64 value (raw_above 0 8) Bad

-- the place, below n, at which a list has a number
abbrev pub place_in : ℕ → ℕ → ℕ → Raw
place_in list zero b = Bad
place_in list (suc n) b = cond (entry list n == b) (Is n) (place_in list n b)

-- the raw number of a value; a value of another kind, range or multiple, or that isn't in the list, has none
abbrev pub raw_of : Meaning → ℕ → Operand → Raw
raw_of None w value = Bad
raw_of (Unsigned plus) w value = of_u64 value (raw_above plus w) Bad
raw_of (Signed unit) w value = of_i64 value (raw_signed unit w) Bad
raw_of (Chosen signed list) w value = let b = entry_of signed value in cond (b.answer == accepted) (place_in list (2 ^ w) b.raw) Bad
raw_of (Complement top) w value = of_u64 value (λ v. raw_above v w top) Bad
