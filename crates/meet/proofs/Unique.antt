-- Two outcomes that a contract allows for one input are equal: the contract is an equation with one definition. Assumes nothing.
use mathlib.Core.Path.{◌≡◌}
use Rattle.answer.proofs.Laws.{one-outcome}
use Rattle.form.specs.declared.Edit.{Edit}
use Rattle.meet.specs.Meet.{Met, meet_of}

pub meet-unique : (one other : Edit) {r s : Met} → r ≡ meet_of one other → s ≡ meet_of one other → r ≡ s
meet-unique one other = one-outcome
