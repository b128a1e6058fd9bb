-- What is so of displacements and targets: each undoes the other. Proved in `proofs/Reached.antt`. Assumes nothing.
use Rattle.std.specs.Prelude.{◌≡◌, ℕ, ◌+◌, ◌%◌, ◌^◌, ◌<◌, false, List, ℤ}
use Rattle.answer.specs.Answer.{accepted}
use Rattle.bundle.specs.Bundle.{number_at, find_answer}
use Rattle.form.specs.declared.Form.{Form}
use Rattle.form.specs.declared.Edit.{Edit}
use Rattle.operand.specs.Pattern.{pattern_of}
use Rattle.operand.specs.declared.Operand.TheVariants.{ImmI64}
use Rattle.row.specs.Row.{is_none, row_of, target_row_of}
use Rattle.immediate.specs.Immediate.{value_in, raw_for, changed_number, changed_of, target_in, target_of}
use Rattle.displacement.specs.Displacement.{displacement_of}

-- the edit of bundle k that sets a form in a slot to the value for a wanted target
abbrev pub reaching_edit : ℕ → ℕ → Form → ℕ → ℕ → Edit
reaching_edit k slot form address wanted = record { bundle = k; slot = slot; form = form; value = (displacement_of form address wanted).value }

-- after an edit that sets the value, which the bundle takes, the target is the wanted address
abbrev pub Reached : Type 0
Reached =
    (n k slot : ℕ) (form : Form) (address wanted : ℕ) → address < 2 ^ 64 → wanted < 2 ^ 64 → (displacement_of form address wanted).answer ≡ accepted
    → let e = reaching_edit k slot form address wanted in
    (changed_of n e).answer ≡ accepted → target_in (changed_number n e) slot form address ≡ record { answer = accepted; address = wanted }

-- and so it is in any code that has the changed bundle
abbrev pub ReachedIn : Type 0
ReachedIn =
    (code : List ℕ) (n k slot : ℕ) (form : Form) (address wanted : ℕ) → address < 2 ^ 64 → wanted < 2 ^ 64 → (displacement_of form address wanted).answer ≡ accepted
    → let e = reaching_edit k slot form address wanted in
    (changed_of n e).answer ≡ accepted → find_answer code k ≡ accepted → number_at code k ≡ changed_number n e
    → target_of code k slot form address ≡ record { answer = accepted; address = wanted }

-- a value of the row that reaches the wanted address is the one that is given, so that 6 is answered only where none does
abbrev pub OnlyValue : Type 0
OnlyValue =
    (form : Form) (address wanted : ℕ) (v : ℤ) → address < 2 ^ 64 → is_none (target_row_of form) ≡ false → address % 16 ≡ 0
    → (raw_for (target_row_of form) (ImmI64 v)).answer ≡ accepted → (address + pattern_of v) % 2 ^ 64 ≡ wanted
    → displacement_of form address wanted ≡ record { answer = accepted; value = ImmI64 v }

-- a target that a bundle has is never refused: its value is the one that the bundle has
abbrev pub GivenBack : Type 0
GivenBack =
    (n slot : ℕ) (form : Form) (address wanted : ℕ) → address < 2 ^ 64 → target_in n slot form address ≡ record { answer = accepted; address = wanted }
    → displacement_of form address wanted ≡ record { answer = accepted; value = value_in (row_of form) slot n }
