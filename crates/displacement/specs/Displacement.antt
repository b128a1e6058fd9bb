-- The value that makes an address the target of a form: what `target` undoes. Assumes nothing.
use Rattle.std.specs.Prelude.{ℕ, ◌+◌, ◌-◌, ◌%◌, ◌^◌, not, List, ◌∷◌, ◌==◌, Result, Ok, Err}
use Rattle.answer.specs.Answer.{Reason, first, outcome, accepted, number_of, bad_form, bad_value}
use Rattle.answer.specs.declared.Refusal.{Refusal}
use Rattle.form.specs.declared.Form.{Form}
use Rattle.operand.specs.Pattern.{integer_of}
use Rattle.operand.specs.declared.Operand.{Operand}
use Rattle.operand.specs.declared.Operand.TheVariants.{None, ImmI64}
use Rattle.row.specs.Row.{is_none, target_row_of}
use Rattle.immediate.specs.Immediate.{value_refusals}

-- how far a target is from an address, as a 64-bit pattern, which wraps at 2 ^ 64
abbrev pub distance : ℕ → ℕ → ℕ
distance address wanted = (wanted + (2 ^ 64 - address)) % 2 ^ 64

-- the same as a value, which has a sign
abbrev pub reaching : ℕ → ℕ → Operand
reaching address wanted = ImmI64 (integer_of (distance address wanted))

-- when there is none: 3 for a form without a target; 6 for an address that is no multiple of 16, and where the row hasn't the value
abbrev pub displacement_refusals : Form → ℕ → ℕ → List Reason
displacement_refusals form address wanted =
    (bad_form, is_none (target_row_of form)) ∷ (bad_value, not (address % 16 == 0)) ∷ value_refusals (target_row_of form) (reaching address wanted)

-- what a displacement comes to: an answer, and the value where it accepts
pub record Displacement : Type 0 where
  pub answer : ℕ
  pub value : Operand

-- a refused displacement
abbrev pub no_displacement : ℕ → Displacement
no_displacement answer = record { answer = answer; value = None }

-- what `displacement` hands back, as that
abbrev pub as_displacement : Result Operand Refusal → Displacement
as_displacement (Ok value) = record { answer = accepted; value = value }
as_displacement (Err refusal) = no_displacement (number_of refusal)

-- what `displacement` comes to: the value that makes `wanted` the target of a form in the bundle at an address
unfoldable pub displacement_of : Form → ℕ → ℕ → Displacement
displacement_of form address wanted =
    let answer = first (displacement_refusals form address wanted) in
    outcome answer (record { answer = accepted; value = reaching address wanted }) (no_displacement answer)
