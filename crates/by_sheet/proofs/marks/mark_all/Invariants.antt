-- The first records' bundles are marked. Assumes nothing.
use mathlib.Core.Path.{◌≡◌}
use lib.ListN.{take}
use Rattle.by_sheet.specs.Mark.{marked_by}
use Rattle.by_sheet.proofs.marks.mark_all.Given as goal

abbrev pub invariant-loop-one : goal.invariant-loop-one
invariant-loop-one l = l.marks ≡ marked_by l.fn.marks (take l.one-index l.records)
