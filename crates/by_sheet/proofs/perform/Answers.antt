-- The room is asked for first. Assumes nothing.
use borrow.Author.Tests.{lt-ltb, le-ltb}
use Rattle.by_sheet.specs.Perform.{performed_of}
use Rattle.by_sheet.proofs.perform.Goals as goal

pub returns-then-out-lt-CAPACITY : goal.returns-then-out-lt-CAPACITY
unfolding performed_of
returns-then-out-lt-CAPACITY c = rw (lt-ltb _ _ c.if-out-lt-CAPACITY.true)

pub returns : goal.returns
unfolding performed_of
returns c = rw (le-ltb _ _ c.if-out-lt-CAPACITY.false) c.perform_in.ensures
