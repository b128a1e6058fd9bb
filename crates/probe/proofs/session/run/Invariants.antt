-- The lent slices keep their lengths. Assumes nothing.
use Rattle.std.proofs.Common.{◌≡◌, length}
use Rattle.probe.proofs.session.run.Given as goal

abbrev pub invariant-loop : goal.invariant-loop
invariant-loop l = (length l.text ≡ length l.initial.text) × (length l.out ≡ length l.initial.out)
