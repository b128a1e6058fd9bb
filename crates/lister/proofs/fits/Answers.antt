-- No listing is longer than the capacity, and what writing to an output with no room answers is the length.
use Rattle.std.proofs.Common.{sym}
use native.Mathlib.Nat.{le_trans}
use borrow.Author.Tests.{le-leb}
use Rattle.lister.proofs.Lengths.{list-most}
use Rattle.lister.proofs.fits.Goals as goal

pub returns-then-room-ge-CAPACITY : goal.returns-then-room-ge-CAPACITY
returns-then-room-ge-CAPACITY c = sym (le-leb _ c.args.room (le_trans (list-most c.args.code.now c.requires) c.if-room-ge-CAPACITY.true))
