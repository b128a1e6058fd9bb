-- The name, and whether the byte stands after it.
use Rattle.std.proofs.Common.{arith, sym}
use Rattle.text.proofs.RoundTrip.{stands-within}
use Rattle.name.specs.Name.{named_at}
use Rattle.name.proofs.read_field.Goals as goal

pub returns-in_err-form : goal.returns-in_err-form
unfolding named_at
returns-in_err-form c = rw (c.from_residual.ensures, sym c.in_err-form.ensures)

pub overflow_add-result : goal.overflow_add-result
overflow_add-result c = omega (arith, stands-within c.args.text.now c.in_ok-form.next c.args.end (sym c.if-is_at.ensures))

pub returns-then-is_at : goal.returns-then-is_at
unfolding named_at
returns-then-is_at c = rw (sym c.in_ok-form.ensures, sym c.if-is_at.ensures)

pub returns-else-is_at : goal.returns-else-is_at
unfolding named_at
returns-else-is_at c = rw (sym c.in_ok-form.ensures, sym c.if-is_at.ensures)
