-- Its fields, one after the other. Assumes nothing.
use Rattle.std.proofs.Common.{sym, ap, ◌∙◌, Some}
use Rattle.form.specs.declared.Edit.{Edit}
use Rattle.journal.specs.declared.Act.TheVariants as act
use Rattle.script.specs.Line.{edit_at}
use Rattle.script.proofs.line.edit_at.Goals as goal

pub returns-in_err-bundle : goal.returns-in_err-bundle
unfolding edit_at
returns-in_err-bundle c = rw (sym c.in_err-bundle.ensures) c.from_residual.ensures

pub returns-in_err-slot : goal.returns-in_err-slot
unfolding edit_at
returns-in_err-slot c = rw (sym c.in_ok-bundle.ensures, sym c.in_err-slot.ensures) c.from_residual-in_err-slot.ensures

pub returns-in_err-form : goal.returns-in_err-form
unfolding edit_at
returns-in_err-form c = rw (sym c.in_ok-bundle.ensures, sym c.in_ok-slot.ensures, sym c.in_err-form.ensures) c.from_residual-in_err-form.ensures

pub returns-then-eq : goal.returns-then-eq
unfolding edit_at
returns-then-eq c = rw (sym c.in_ok-bundle.ensures, sym c.in_ok-slot.ensures, sym c.in_ok-form.ensures, sym c.eq.ensures ∙ c.if-eq.true)

pub returns-in_err-pattern : goal.returns-in_err-pattern
unfolding edit_at
returns-in_err-pattern c =
    rw (sym c.in_ok-bundle.ensures, sym c.in_ok-slot.ensures, sym c.in_ok-form.ensures, sym c.eq.ensures ∙ c.if-eq.false, sym c.in_err-pattern.ensures)
    c.from_residual-in_err-pattern.ensures

pub returns : goal.returns
unfolding edit_at
returns c =
    rw (sym c.in_ok-bundle.ensures, sym c.in_ok-slot.ensures, sym c.in_ok-form.ensures, sym c.eq.ensures ∙ c.if-eq.false, sym c.in_ok-pattern.ensures)
    (ap (λ (e : Edit). Some (act.Edit e)) c.edit_of.ensures)
