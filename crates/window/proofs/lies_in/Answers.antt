-- The tests are the definition's, without a sum.
use Rattle.std.proofs.Common.{arith}
use Rattle.window.proofs.Laws.{lies, not-in-file, not-below}
use Rattle.window.proofs.lies_in.Goals as goal

pub returns-then-length-size : goal.returns-then-length-size
returns-then-length-size c = not-in-file _ _ (omega arith)

pub returns-then-length-size-2 : goal.returns-then-length-size-2
returns-then-length-size-2 c = not-in-file _ _ (omega arith)

pub returns-then-size-eq0 : goal.returns-then-size-eq0
returns-then-size-eq0 c = lies _ _ (record { in-file = omega arith; below = omega arith })

pub returns-then-extent-size : goal.returns-then-extent-size
returns-then-extent-size c = not-below _ _ (omega arith)

pub returns : goal.returns
returns c = lies _ _ (record { in-file = omega arith; below = omega arith })
