-- As many fields are written as pairs were yielded.
use Rattle.std.proofs.Common.{length, take}
use Rattle.text.specs.Fields.{fields}
use Rattle.text.specs.Put.{Put}
use Rattle.text.proofs.put.put_fields.Given as goal

abbrev pub invariant-loop-n : goal.invariant-loop-n
invariant-loop-n l = let i = length l.yielded in Put l.fn.out l.at (fields (take i l.of) (take i l.ends)) l.out l.next
