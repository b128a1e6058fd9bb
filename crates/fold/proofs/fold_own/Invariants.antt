-- The records so far are folded. Assumes nothing.
use Rattle.fold.proofs.Folding.{Folding}
use Rattle.fold.proofs.fold_own.Given as goal

abbrev pub invariant-loop-place : goal.invariant-loop-place
invariant-loop-place l = Folding l.count l.fn.records l.records l.places l.left l.place
