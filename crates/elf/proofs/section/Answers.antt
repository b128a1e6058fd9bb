-- The definition's fields.
use Rattle.elf.specs.Elf.{section_of}
use Rattle.elf.proofs.section.Goals as goal

pub returns : goal.returns
unfolding section_of
returns c = c.part_of.ensures
