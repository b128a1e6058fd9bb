-- Two outcomes that the contract of `add` allows for one input are equal: the contract is an equation with one definition. Assumes nothing.
use mathlib.Core.Path.{◌≡◌}
use mathlib.Core.List.{List}
use Prim.Native.Nat.{ℕ}
use Rattle.answer.proofs.Laws.{one-outcome}
use Rattle.tally.specs.Report.{Added, added_of}

pub add-unique : (report image : List ℕ) {r s : Added} → r ≡ added_of report image → s ≡ added_of report image → r ≡ s
add-unique report image = one-outcome
