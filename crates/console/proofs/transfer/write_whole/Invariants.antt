-- Each turn writes a byte or more. Assumes nothing.
use Rattle.std.proofs.Common.{length}
use Rattle.console.proofs.transfer.write_whole.Given as goal

abbrev pub decreases-loop-rest : goal.decreases-loop-rest
decreases-loop-rest g l = length l.rest
