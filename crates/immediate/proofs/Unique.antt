-- Two outcomes that a contract allows for one input are equal: each contract is an equation with one definition.
-- Assumes nothing.
use Rattle.std.proofs.Common.{◌≡◌, ℕ, List}
use Rattle.answer.proofs.Laws.{one-outcome}
use Rattle.form.specs.declared.Form.{Form}
use Rattle.form.specs.declared.Edit.{Edit}
use Rattle.immediate.specs.Immediate.{Immediate, immediate_of, Changed, changed_of, Target, target_of}

pub immediate-unique : (code : List ℕ) (k slot : ℕ) (form : Form) {r s : Immediate} → r ≡ immediate_of code k slot form → s ≡ immediate_of code k slot form → r ≡ s
immediate-unique code k slot form = one-outcome

pub change-unique : (n : ℕ) (e : Edit) {r s : Changed} → r ≡ changed_of n e → s ≡ changed_of n e → r ≡ s
change-unique n e = one-outcome

pub target-unique : (code : List ℕ) (k slot : ℕ) (form : Form) (address : ℕ) {r s : Target} → r ≡ target_of code k slot form address → s ≡ target_of code k slot form address → r ≡ s
target-unique code k slot form address = one-outcome
