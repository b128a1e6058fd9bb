-- The lines of the records so far are written after the first line. Assumes nothing.
use lib.ListN.{take}
use Rattle.text.specs.Put.{Put}
use Rattle.sheet.specs.Sheet.{lines_as}
use Rattle.sheet.specs.declared.line.Kind.TheVariants.{Full}
use Rattle.sheet.proofs.put_sheet.Given as goal

abbrev pub invariant-loop-place : goal.invariant-loop-place
invariant-loop-place l = Put l.initial.out l.initial.at (lines_as Full (take l.place l.records)) l.out l.at
