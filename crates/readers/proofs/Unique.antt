-- Two outcomes that the contract of `operands` allows for one input are equal: it is an equation with one definition. Assumes
-- nothing.
use mathlib.Core.Path.{◌≡◌}
use Prim.Native.Nat.{ℕ}
use Rattle.answer.proofs.Laws.{one-outcome}
use Rattle.form.specs.declared.Form.{Form}
use Rattle.readers.specs.Call.{Operands, operands_of}

pub operands-unique : (form : Form) (word l : ℕ) {r s : Operands} → r ≡ operands_of form word l → s ≡ operands_of form word l → r ≡ s
operands-unique form word l = one-outcome
