-- The number, and then what is asked. Assumes nothing.
use Rattle.std.proofs.Common.{sym}
use Rattle.script.specs.Line.{asked_in}
use Rattle.script.proofs.line.asked_in.Goals as goal

pub returns-in_err-number : goal.returns-in_err-number
unfolding asked_in
returns-in_err-number c = rw (sym c.in_err-number.ensures) c.from_residual.ensures

pub returns-then-number-next : goal.returns-then-number-next
unfolding asked_in
returns-then-number-next c = rw (sym c.in_ok-number.ensures, c.if-number-next.true) c.act_at.ensures

pub returns-else-number-next : goal.returns-else-number-next
unfolding asked_in
returns-else-number-next c = rw (sym c.in_ok-number.ensures, c.if-number-next.false)
