-- Two outcomes that a contract allows for one input are equal: each contract is an equation with one definition.
-- Assumes nothing.
use mathlib.Core.Path.{◌≡◌}
use mathlib.Core.List.{List}
use Prim.Native.Nat.{ℕ}
use Rattle.answer.proofs.Laws.{one-outcome}
use Rattle.form.specs.declared.Form.{Form}
use Rattle.glindorsc.specs.Calls.{Filled, Answered, cut_call, immediate_call, target_call}

pub cut-unique : (code : List ℕ) (k : ℕ) {r s : Filled} → r ≡ cut_call code k → s ≡ cut_call code k → r ≡ s
cut-unique code k = one-outcome

pub immediate-unique : (code : List ℕ) (k slot : ℕ) (form : Form) {r s : Answered} → r ≡ immediate_call code k slot form → s ≡ immediate_call code k slot form → r ≡ s
immediate-unique code k slot form = one-outcome

pub target-unique : (code : List ℕ) (k slot : ℕ) (form : Form) (address : ℕ) {r s : Answered} → r ≡ target_call code k slot form address → s ≡ target_call code k slot form address → r ≡ s
target-unique code k slot form address = one-outcome
