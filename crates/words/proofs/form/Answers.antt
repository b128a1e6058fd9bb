-- A dash is none, and a name is one where the word ends after it.
use Rattle.std.proofs.Common.{sym, eq-eqb, ne_eqb}
use Rattle.words.specs.Words.{as_form}
use Rattle.words.proofs.form.Goals as goal

pub returns-then-is_at : goal.returns-then-is_at
unfolding as_form
returns-then-is_at c = rw (sym c.if-is_at.ensures)

pub returns-in_err-form : goal.returns-in_err-form
unfolding as_form
returns-in_err-form c = rw (c.from_residual.ensures, sym c.if-is_at.ensures, sym c.in_err-form.ensures)

pub returns-then-next-word : goal.returns-then-next-word
unfolding as_form
returns-then-next-word c = rw (sym c.if-is_at.ensures, sym c.in_ok-form.ensures, eq-eqb _ _ c.if-next-word.true)

pub returns-else-next-word : goal.returns-else-next-word
unfolding as_form
returns-else-next-word c = rw (sym c.if-is_at.ensures, sym c.in_ok-form.ensures, ne_eqb _ _ c.if-next-word.false)
