-- As many units are written as pairs were yielded.
use Rattle.std.proofs.Common.{length, take}
use Rattle.text.specs.Put.{Put}
use Rattle.lister.proofs.Lines.{marks}
use Rattle.lister.proofs.line.put_units.Given as goal

abbrev pub invariant-loop-unit : goal.invariant-loop-unit
invariant-loop-unit l = let i = length l.yielded in Put l.fn.out l.at (marks (take i l.fn.template.units) (take i l.fn.template.stops)) l.out l.next
