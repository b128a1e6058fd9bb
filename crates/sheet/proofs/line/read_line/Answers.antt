-- A line of its kind, tested. Assumes nothing.
use mathlib.Core.Path.{ap, ◌∙◌}
use Rattle.sheet.specs.Load.{tested, line_at}
use Rattle.sheet.proofs.line.read_line.Goals as goal

pub returns-in-Full : goal.returns-in-Full
unfolding line_at
returns-in-Full c = rw c.in-Full.is (c.test.ensures ∙ ap (tested c.args.party) c.read_full.ensures)

pub returns-in-Old : goal.returns-in-Old
unfolding line_at
returns-in-Old c = rw c.in-Old.is (c.test-in-Old.ensures ∙ ap (tested c.args.party) c.read_old.ensures)
