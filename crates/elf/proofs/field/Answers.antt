-- Eight bytes, of which those after the field are zeros.
use Rattle.std.proofs.Common.{arith}
use Rattle.elf.proofs.Laws.{read-of-eight}
use Rattle.elf.proofs.field.Goals as goal

pub returns : goal.returns
returns c = read-of-eight c.args.bytes.now c.copy_from_slice.new.self c.args.at c.args.width c.from_le_bytes.result (omega arith) (omega arith) c.copy_from_slice.ensures.after c.from_le_bytes.ensures
