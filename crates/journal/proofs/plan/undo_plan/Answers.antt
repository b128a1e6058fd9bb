-- Where none of the refusals applies there is a last record. Assumes nothing.
use mathlib.Core.Path.{◌≡◌, ◌∙◌, ap, sym}
use Prim.Native.Nat.{◌-◌}
use Rattle.std.proofs.Common.{Some, Ok}
use Rattle.std.proofs.lemmas.Result.{err_from_is_err_and}
use Rattle.answer.specs.Answer.{first}
use Rattle.answer.proofs.Laws.{accepts}
use Rattle.record.specs.Record.{no_record}
use Rattle.records.specs.Journal.{Shown}
use Rattle.records.specs.inner.Shows.{as_shown}
use Rattle.journal.specs.Edit.{undo_refusals}
use Rattle.journal.specs.inner.Plan.{undo_plan_of}
use Rattle.journal.proofs.Laws.{refused-is}
use Rattle.journal.proofs.plan.undo_plan.Goals as goal

pub returns-in_err-view : goal.returns-in_err-view
unfolding undo_plan_of
returns-in_err-view c =
    let reason = err_from_is_err_and c.from_residual.result c.from_residual.ensures.1 in
    rw (reason.1, reason.2) (refused-is _ _ _ c.in_err-view.ensures.answer)

pub returns : goal.returns
unfolding undo_plan_of
returns c =
    let a = c.args in
    let v = c.in_ok-view.view in
    let shown : as_shown a.view ≡ as_shown (Some v) = ap as_shown c.in_ok-view.ensures.shown.0 in
    let done = sym (accepts (first (undo_refusals a.code.now (as_shown a.view))) _ _ (sym c.in_ok-view.ensures.answer)) in
    ap (λ (s : Shown). Ok (record { bundle = s.last.bundle; halves = s.last.old; place = s.count - 1; kept = no_record; count = s.count - 1 })) (sym shown) ∙ done
