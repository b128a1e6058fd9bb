-- The definition's fields.
use Rattle.elf.specs.Elf.{segment_of}
use Rattle.elf.proofs.segment.Goals as goal

pub returns : goal.returns
unfolding segment_of
returns c = c.part_of.ensures
