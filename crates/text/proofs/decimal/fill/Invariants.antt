-- The digits after those of `rest` stand from `i` on.
use Rattle.text.proofs.Filling.{Filling}
use Rattle.text.proofs.decimal.fill.Given as goal

abbrev pub invariant-loop-rest : goal.invariant-loop-rest
invariant-loop-rest l = Filling l.fn.out l.at l.end l.n l.out l.i l.rest

abbrev pub decreases-loop-rest : goal.decreases-loop-rest
decreases-loop-rest l = l.rest
