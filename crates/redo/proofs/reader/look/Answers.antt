-- A case of what looking comes to at each return.
use Rattle.std.proofs.Common.{sym}
use Rattle.redo.specs.Read.{look_of}
use Rattle.redo.proofs.reader.look.Goals as goal

pub returns-then-not-begins : goal.returns-then-not-begins
unfolding look_of
returns-then-not-begins c = rw (sym c.if-not-begins.ensures)

pub returns-in_err-of : goal.returns-in_err-of
unfolding look_of
returns-in_err-of c = rw (c.from_residual.ensures, sym c.if-not-begins.ensures, ← c.in_err-of.ensures)

pub returns-in_err-sheet : goal.returns-in_err-sheet
unfolding look_of
returns-in_err-sheet c = rw (c.from_residual-in_err-sheet.ensures, sym c.if-not-begins.ensures, ← c.in_ok-of.ensures, ← c.in_err-sheet.ensures)

pub returns : goal.returns
unfolding look_of
returns c = rw (sym c.if-not-begins.ensures, ← c.in_ok-of.ensures, ← c.in_ok-sheet.ensures) c.parts_at.ensures
