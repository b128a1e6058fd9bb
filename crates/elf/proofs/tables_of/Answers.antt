-- Six fields.
use Rattle.elf.specs.Elf.{tables_of}
use Rattle.elf.proofs.tables_of.Goals as goal

pub returns : goal.returns
unfolding tables_of
returns c =
    λ i.
    record {
      sections = record { offset = c.field.ensures i; size = c.field-2.ensures i; count = c.field-3.ensures i };
      segments = record { offset = c.field-4.ensures i; size = c.field-5.ensures i; count = c.field-6.ensures i };
    }
