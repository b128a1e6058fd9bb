-- The places so far are written. Assumes nothing.
use Rattle.sheet.proofs.Filled.{Filled}
use Rattle.sheet.proofs.fill.Given as goal

abbrev pub invariant-loop-place : goal.invariant-loop-place
invariant-loop-place l = Filled l.party l.text l.found l.fn.records l.records l.at l.place
