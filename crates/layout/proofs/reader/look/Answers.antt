-- A case of what looking comes to at each return.
use Rattle.std.proofs.Common.{sym}
use Rattle.layout.specs.Read.{look_of}
use Rattle.layout.proofs.reader.look.Goals as goal

pub returns-then-not-begins : goal.returns-then-not-begins
unfolding look_of
returns-then-not-begins c = rw (sym c.if-not-begins.ensures)

pub returns-in_err-of : goal.returns-in_err-of
unfolding look_of
returns-in_err-of c = rw (sym c.if-not-begins.ensures, sym c.in_err-of.ensures) c.from_residual.ensures

pub returns-then-not-ends_after : goal.returns-then-not-ends_after
unfolding look_of
returns-then-not-ends_after c = rw (sym c.if-not-begins.ensures, sym c.in_ok-of.ensures, sym c.if-not-ends_after.ensures)

pub returns : goal.returns
unfolding look_of
returns c = rw (sym c.if-not-begins.ensures, sym c.in_ok-of.ensures, sym c.if-not-ends_after.ensures)
