-- The number stays below the prime. Assumes nothing.
use Rattle.std.proofs.Common.{◌<◌}
use Rattle.probe.proofs.command.sum.of.Given as goal

abbrev pub invariant-loop-b : goal.invariant-loop-b
invariant-loop-b l = l.h < 4294967291
