-- The first `i` numbers are sums that fit.
use Rattle.std.proofs.Common.{◌≡◌, ◌++◌, take, drop}
use Rattle.tally.specs.Report.{plus}
use Rattle.tally.proofs.Sums.{large}
use Rattle.tally.proofs.add_up.Given as goal

abbrev pub invariant-loop-i : goal.invariant-loop-i
invariant-loop-i l = (l.sums ≡ take l.i (plus l.report l.fn.more) ++ drop l.i l.report) × (large (take l.i (plus l.report l.fn.more)) ≡ 0)
