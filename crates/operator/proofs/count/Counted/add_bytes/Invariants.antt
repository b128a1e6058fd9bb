-- The measure of its loop.
use Rattle.std.proofs.Common.{◌-◌}
use Rattle.operator.proofs.count.Counted.add_bytes.Given as goal

abbrev pub decreases-loop-done : goal.decreases-loop-done
decreases-loop-done l = l.extent.size - l.done
