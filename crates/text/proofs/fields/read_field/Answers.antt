-- The number, and whether the byte stands after it.
use Rattle.std.proofs.Common.{arith, sym, ◌∙◌}
use Rattle.text.specs.Fields.{field_at}
use Rattle.text.proofs.RoundTrip.{stands-within}
use Rattle.text.proofs.fields.read_field.Goals as goal

pub returns-in_err-n : goal.returns-in_err-n
unfolding field_at
returns-in_err-n c = rw (c.from_residual.ensures, sym c.in_err-n.ensures)

pub overflow_add-result : goal.overflow_add-result
overflow_add-result c = omega (arith, stands-within c.args.text.now c.in_ok-n.next c.args.end (sym c.is_at.ensures ∙ c.if-is_at.true))

pub returns-then-is_at : goal.returns-then-is_at
unfolding field_at
returns-then-is_at c = rw (sym c.in_ok-n.ensures, sym c.is_at.ensures ∙ c.if-is_at.true)

pub returns-else-is_at : goal.returns-else-is_at
unfolding field_at
returns-else-is_at c = rw (sym c.in_ok-n.ensures, sym c.is_at.ensures ∙ c.if-is_at.false)
