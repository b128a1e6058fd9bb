-- The digits counted and those of `rest` are all.
use Rattle.std.proofs.Common.{◌+◌, ◌≡◌, length}
use Rattle.text.specs.Decimal.{decimal}
use Rattle.text.proofs.decimal.digits.Given as goal

abbrev pub invariant-loop-rest : goal.invariant-loop-rest
invariant-loop-rest l = l.count + length (decimal l.rest) ≡ length (decimal l.n)

abbrev pub decreases-loop-rest : goal.decreases-loop-rest
decreases-loop-rest l = l.rest
