-- The tests are the definition's.
use Rattle.std.proofs.Common.{ℕ, length, ap}
use borrow.Author.Tests.{le-leb}
use lib.Dec.{eqb}
use Rattle.bundle.specs.Bytes.{number}
use Rattle.elf.proofs.is_elf.Goals as goal

pub returns : goal.returns
unfolding number
returns c = rw (le-leb 64 (length c.args.bytes.now) c.if-bytes-lt-HEADER.false) (ap (λ (n : ℕ). eqb n 1179403647) c.field.ensures)
