-- A line is what its fields tell.
use Rattle.redo.specs.Read.{change_at}
use Rattle.redo.proofs.reader.line_at.Goals as goal

pub returns-in_err-of : goal.returns-in_err-of
unfolding change_at
returns-in_err-of c = rw (c.from_residual.ensures, ← c.in_err-of.ensures)

pub returns : goal.returns
unfolding change_at
returns c = rw (← c.in_ok-of.ensures)
