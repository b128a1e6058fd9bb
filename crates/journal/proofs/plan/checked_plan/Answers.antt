-- Its refusals are those of the question after the form, then the look's and, where both accept, the edit's. Assumes nothing.
use mathlib.Core.Path.{◌∙◌, ap, sym}
use mathlib.Core.List.{[], ◌∷◌, ◌++◌}
use Rattle.std.proofs.lemmas.Result.{err_from_is_err_and}
use Rattle.answer.proofs.Laws.{first-stop, no-acceptance}
use Rattle.row.specs.Row.{row_of}
use Rattle.immediate.specs.Immediate.{value_refusals}
use Rattle.records.specs.inner.Shows.{as_shown}
use Rattle.journal.specs.Change.{room_refusals}
use Rattle.journal.specs.Edit.{form_refusal}
use Rattle.journal.specs.inner.Plan.{new_refusals, look_refusals, edit_plan_of}
use Rattle.journal.proofs.Laws.{refused-is, behind, new, looked}
use Rattle.journal.proofs.plan.checked_plan.Goals as goal

pub returns-in_err-new_allowed : goal.returns-in_err-new_allowed
unfolding edit_plan_of
returns-in_err-new_allowed c =
    let a = c.args in
    let reason = err_from_is_err_and c.from_residual.result c.from_residual.ensures.1 in
    let is = c.in_err-new_allowed.ensures in
    let rest = behind (form_refusal a.code.now a.edit ∷ []) a.code.now a.edit ++ room_refusals a.own.places (as_shown a.own.view) 1 in
    rw (reason.1, reason.2) (refused-is _ _ _ (is ∙ sym (first-stop (new_refusals a.code.now a.edit) rest (λ e. no-acceptance _ (is ∙ e)))))

pub returns-in_err-word_allowed : goal.returns-in_err-word_allowed
unfolding edit_plan_of
returns-in_err-word_allowed c =
    let a = c.args in
    let reason = err_from_is_err_and c.from_residual-in_err-word_allowed.result c.from_residual-in_err-word_allowed.ensures.1 in
    let is = c.in_err-word_allowed.ensures in
    let room = room_refusals a.own.places (as_shown a.own.view) 1 in
    let rest = value_refusals (row_of a.edit.form) a.edit.value ++ room in
    let asked = new (form_refusal a.code.now a.edit ∷ []) a.code.now a.edit room (sym c.in_ok-new_allowed.ensures) in
    rw (reason.1, reason.2) (refused-is _ _ _ (is ∙ sym (asked ∙ first-stop (look_refusals a.code.now a.edit) rest (λ e. no-acceptance _ (is ∙ e)))))

pub returns : goal.returns
returns c =
    let a = c.args in
    let view = as_shown a.own.view in
    let room = room_refusals a.own.places view 1 in
    let asked = new (form_refusal a.code.now a.edit ∷ []) a.code.now a.edit room (sym c.in_ok-new_allowed.ensures) in
    c.edit_plan.ensures ∙ ap (edit_plan_of a.party a.code.now view a.edit) (sym (asked ∙ looked a.code.now a.edit room (sym c.in_ok-word_allowed.ensures)))
