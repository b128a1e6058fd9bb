-- Two outcomes that a contract allows for one input are equal: the contract is an equation with one definition. Assumes nothing.
use Rattle.std.proofs.Common.{◌≡◌, ℕ}
use Rattle.answer.proofs.Laws.{one-outcome}
use Rattle.form.specs.declared.Form.{Form}
use Rattle.displacement.specs.Displacement.{Displacement, displacement_of}

pub displacement-unique : (form : Form) (address wanted : ℕ) {r s : Displacement} → r ≡ displacement_of form address wanted → s ≡ displacement_of form address wanted → r ≡ s
displacement-unique form address wanted = one-outcome
