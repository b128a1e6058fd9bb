-- Two outcomes of one choice are equal: both are what the definition says. Assumes nothing.
use mathlib.Core.Path.{◌≡◌}
use Prim.Native.Nat.{ℕ}
use Rattle.answer.proofs.Laws.{one-outcome}
use Rattle.choice.specs.Choice.{Choice, choice_of}

pub choose-unique : (unit word : ℕ) (r s : Choice) → r ≡ choice_of unit word → s ≡ choice_of unit word → r ≡ s
choose-unique unit word r s = one-outcome
