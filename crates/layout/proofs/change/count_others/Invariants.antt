-- Those found and those to be found among the windows left are all.
use Rattle.std.proofs.Common.{◌≡◌, ◌+◌, length}
use Rattle.layout.specs.Change.{others}
use Rattle.layout.specs.Read.{windows_at}
use Rattle.layout.specs.inner.Left.{windows_left}
use Rattle.layout.proofs.change.count_others.Given as goal

abbrev pub invariant-loop-one : goal.invariant-loop-one
invariant-loop-one l = l.others + length (others l.window (windows_left l.one-iterator)) ≡ length (others l.window (windows_at l.text l.fn.found.first l.fn.found.count))
