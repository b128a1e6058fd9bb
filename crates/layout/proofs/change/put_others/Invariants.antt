-- With the windows left written, all are.
use Rattle.std.proofs.Common.{◌≡◌, ℕ, ◌<◌, ◌^◌, List, length}
use Rattle.text.specs.Put.{Put}
use Rattle.layout.specs.Change.{others}
use Rattle.layout.specs.Layout.{lines_of}
use Rattle.layout.specs.Read.{windows_at}
use Rattle.layout.specs.inner.Left.{windows_left}
use Rattle.layout.proofs.change.put_others.Given as goal

abbrev pub invariant-loop-one : goal.invariant-loop-one
invariant-loop-one l =
    (length l.out ≡ length l.fn.out)
    × (l.end < 2 ^ 64)
    × ((after : List ℕ) (next : ℕ) → Put l.out l.end (lines_of (others l.window (windows_left l.one-iterator))) after next → Put l.fn.out l.at (lines_of (others l.window (windows_at l.text l.fn.found.first l.fn.found.count))) after next)
