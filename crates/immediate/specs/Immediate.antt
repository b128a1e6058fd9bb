-- Immediates of a bundle: read, changed, and the targets that they make. A bundle is its number n; a call on a code is `find`'s refusals and
-- then those of the bundle. Assumes nothing.
use Rattle.std.specs.Prelude.{ℕ, ◌+◌, ◌%◌, ◌^◌, Bool, cond, not, ◌||◌, List, [], ◌∷◌, ◌++◌, ℤ, ◌==◌, nat_lt, slice_index, Result, Ok, Err}
use Rattle.answer.specs.Answer.{Reason, first, outcome, accepted, number_of, bad_bundle, bad_form, bad_slot, bad_value}
use Rattle.answer.specs.declared.Refusal.{Refusal}
use Rattle.bits.specs.Parts.{Parts, gather, scatter}
use Rattle.bundle.specs.Template.{unitless}
use Rattle.bundle.specs.Bundle.{number_at, units_in, find_answer, halves_of}
use Rattle.bundle.specs.declared.half.Halves.{Halves}
use Rattle.form.specs.Form.{A, I, M}
use Rattle.form.specs.declared.Form.{Form}
use Rattle.form.specs.declared.Edit.{Edit}
use Rattle.parts.specs.Placed.{placed, width_of}
use Rattle.operand.specs.Pattern.{pattern_of}
use Rattle.operand.specs.declared.Operand.{Operand}
use Rattle.operand.specs.declared.Operand.TheVariants.{None as NoOperand}
use Rattle.row.specs.Row.{Row, is_none, row_of, target_row_of}
use Rattle.meaning.specs.Meaning.{Raw, value_of, signed_of, operand_for, raw_of}

-- a form fits a slot of its family's unit; an A form one of I or M
abbrev pub fits : Form → ℕ → Bool
fits form unit = cond (form.family == A) (unit == I || unit == M) (form.family == unit)

-- when units are refused for a row: 2, 3
abbrev pub row_refusals : List ℕ → Row → List Reason
row_refusals units row = (bad_bundle, unitless units) ∷ (bad_form, is_none row) ∷ []

-- when a form doesn't stand in a slot of them: 5
abbrev pub slot_refusals : List ℕ → ℕ → Form → List Reason
slot_refusals units slot form = (bad_slot, nat_lt 2 slot || not (fits form (slice_index units slot))) ∷ []

-- when reading a form's row in a slot is refused
abbrev pub read_refusals : ℕ → ℕ → Form → Row → List Reason
read_refusals n slot form row = row_refusals (units_in n) row ++ slot_refusals (units_in n) slot form

-- the value that a row reads in a slot
abbrev pub value_in : Row → ℕ → ℕ → Operand
value_in row slot n = value_of row.meaning (width_of row.parts) (gather n (placed slot row.parts))

-- what reading comes to: an answer, and the value where it accepts
pub record Immediate : Type 0 where
  pub answer : ℕ
  pub value : Operand

-- a refused reading
abbrev pub no_immediate : ℕ → Immediate
no_immediate answer = record { answer = answer; value = NoOperand }

-- what `immediate` hands back, as that
abbrev pub as_immediate : Result Operand Refusal → Immediate
as_immediate (Ok value) = record { answer = accepted; value = value }
as_immediate (Err refusal) = no_immediate (number_of refusal)

-- the immediate of a form in a slot of a bundle
unfoldable pub immediate_in : ℕ → ℕ → Form → Immediate
immediate_in n slot form =
    let answer = first (read_refusals n slot form (row_of form)) in
    outcome answer (record { answer = accepted; value = value_in (row_of form) slot n }) (no_immediate answer)

-- what `immediate` comes to: refused as `find` is, and then as the bundle's reading
unfoldable pub immediate_of : List ℕ → ℕ → ℕ → Form → Immediate
immediate_of code k slot form = outcome (find_answer code k) (immediate_in (number_at code k) slot form) (no_immediate (find_answer code k))

-- the raw number that a row has for a value, or refusal 6
abbrev pub raw_for : Row → Operand → Raw
raw_for row value = raw_of row.meaning (width_of row.parts) value

-- when a value has no raw number: 6
abbrev pub value_refusals : Row → Operand → List Reason
value_refusals row value = (bad_value, not ((raw_for row value).answer == accepted)) ∷ []

-- when an edit of a bundle is refused: 2, 3, then 5, then 6
abbrev pub change_refusals : ℕ → Edit → List Reason
change_refusals n e =
    row_refusals (units_in n) (row_of e.form) ++ slot_refusals (units_in n) e.slot e.form ++ value_refusals (row_of e.form) e.value

-- the bundle with a raw number in a row's parts
abbrev pub with_raw : Row → ℕ → ℕ → ℕ → ℕ
with_raw row slot n raw = scatter n (placed slot row.parts) raw

-- the parts of an edit's immediate in its bundle
abbrev pub parts_of : Edit → Parts
parts_of e = placed e.slot (row_of e.form).parts

-- the bundle with an edit's value in its immediate
abbrev pub changed_number : ℕ → Edit → ℕ
changed_number n e = with_raw (row_of e.form) e.slot n (raw_for (row_of e.form) e.value).raw

-- what changing a bundle comes to: an answer, and the bundle after the edit where it accepts
pub record Changed : Type 0 where
  pub answer : ℕ
  pub bundle : Halves

-- a refused change
abbrev pub no_change : ℕ → Changed
no_change answer = record { answer = answer; bundle = halves_of 0 }

-- what `change` hands back, as that
abbrev pub as_changed : Result Halves Refusal → Changed
as_changed (Ok bundle) = record { answer = accepted; bundle = bundle }
as_changed (Err refusal) = no_change (number_of refusal)

-- the bundle after an edit
unfoldable pub changed_of : ℕ → Edit → Changed
changed_of n e =
    let answer = first (change_refusals n e) in
    outcome answer (record { answer = accepted; bundle = halves_of (changed_number n e) }) (no_change answer)

-- the edit of bundle k that a slot, a form and its value's pattern tell of
abbrev pub edit_by_pattern : ℕ → ℕ → Form → ℕ → Edit
edit_by_pattern k slot form p = record { bundle = k; slot = slot; form = form; value = operand_for (row_of form).meaning p }

-- the displacement that a row of a target reads
abbrev pub displacement_in : Row → ℕ → ℕ → ℤ
displacement_in row slot n = signed_of 16 (width_of row.parts) (gather n (placed slot row.parts))

-- when a target is refused: as reading is, then for an address that is no multiple of 16
abbrev pub target_refusals : ℕ → ℕ → Form → ℕ → List Reason
target_refusals n slot form address = read_refusals n slot form (target_row_of form) ++ (bad_value, not (address % 16 == 0)) ∷ []

-- what a target comes to: an answer, and the address where it accepts
pub record Target : Type 0 where
  pub answer : ℕ
  pub address : ℕ

-- a refused target
abbrev pub no_target : ℕ → Target
no_target answer = record { answer = answer; address = 0 }

-- what `target` hands back, as that
abbrev pub as_target : Result ℕ Refusal → Target
as_target (Ok address) = record { answer = accepted; address = address }
as_target (Err refusal) = no_target (number_of refusal)

-- the target of a form in a slot of the bundle at an address: the address plus the displacement's pattern, which wraps at 2 ^ 64
unfoldable pub target_in : ℕ → ℕ → Form → ℕ → Target
target_in n slot form address =
    let answer = first (target_refusals n slot form address) in
    outcome answer
    (record { answer = accepted; address = (address + pattern_of (displacement_in (target_row_of form) slot n)) % 2 ^ 64 })
    (no_target answer)

-- what `target` comes to: refused as `find` is, and then as the bundle's target
unfoldable pub target_of : List ℕ → ℕ → ℕ → Form → ℕ → Target
target_of code k slot form address = outcome (find_answer code k) (target_in (number_at code k) slot form address) (no_target (find_answer code k))
