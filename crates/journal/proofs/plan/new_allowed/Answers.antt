-- It answers as loading does, then as the form's row does, and then by whether the form is retired. Assumes nothing.
use mathlib.Core.Path.{◌∙◌, ap, sym}
use mathlib.Core.Bool.{Bool, cond}
use mathlib.Core.List.{List, [], ◌∷◌, ◌++◌}
use Prim.Native.Nat.{ℕ}
use borrow.Author.Rules.{rules}
use Rattle.std.proofs.lemmas.Result.{err_from_is_err_and}
use Rattle.answer.specs.Answer.{Reason, accepted, retired, first}
use Rattle.answer.proofs.Laws.{first_on}
use Rattle.bundle.specs.Bundle.{number_at, units_in}
use Rattle.bundle.proofs.Bytes.{Bytes}
use Rattle.form.specs.declared.Edit.{Edit}
use Rattle.row.specs.Row.{row_of}
use Rattle.immediate.specs.Immediate.{row_refusals}
use Rattle.journal.specs.Edit.{retired_refusal}
use Rattle.journal.proofs.Laws.{refusal-stops, load-stops, load-goes-on, load-number}
use Rattle.journal.proofs.plan.new_allowed.Goals as goal

abbrev rows : List ℕ → Edit → List Reason
rows code edit = row_refusals (units_in (number_at code edit.bundle)) (row_of edit.form)

abbrev late : Edit → List Reason
late edit = retired_refusal edit ∷ []

pub returns-in_err-halves : goal.returns-in_err-halves
returns-in_err-halves c =
    let a = c.args in
    let bytes : Bytes a.code.now = λ i. search rules in
    let reason = err_from_is_err_and c.from_residual.result c.from_residual.ensures.1 in
    rw (reason.1, reason.2) (load-stops a.code.now a.edit.bundle bytes (rows a.code.now a.edit ++ late a.edit) _ c.in_err-halves.ensures)

pub returns-in_err-row_answer : goal.returns-in_err-row_answer
returns-in_err-row_answer c =
    let a = c.args in
    let bytes : Bytes a.code.now = λ i. search rules in
    let reason = err_from_is_err_and c.from_residual-in_err-row_answer.result c.from_residual-in_err-row_answer.ensures.1 in
    let asked = rows a.code.now a.edit ++ late a.edit in
    let number = load-number a.code.now a.edit.bundle bytes asked _ c.in_ok-halves.ensures in
    let is = c.in_err-row_answer.ensures ∙ ap (λ (n : ℕ). first (row_refusals (units_in n) (row_of a.edit.form))) number in
    rw (reason.1, reason.2) (refusal-stops _ (rows a.code.now a.edit) (late a.edit) is ∙ sym (load-goes-on a.code.now a.edit.bundle bytes asked _ c.in_ok-halves.ensures))

-- the question after the form is left
pub returns-then-is_retired : goal.returns-then-is_retired
returns-then-is_retired c =
    let a = c.args in
    let bytes : Bytes a.code.now = λ i. search rules in
    let asked = rows a.code.now a.edit ++ late a.edit in
    let number = load-number a.code.now a.edit.bundle bytes asked _ c.in_ok-halves.ensures in
    let is = c.in_ok-row_answer.ensures ∙ ap (λ (n : ℕ). first (row_refusals (units_in n) (row_of a.edit.form))) number in
    ap (λ (t : Bool). cond t retired accepted) (sym c.if-is_retired.true ∙ c.is_retired.ensures)
    ∙ sym (load-goes-on a.code.now a.edit.bundle bytes asked _ c.in_ok-halves.ensures ∙ first_on (rows a.code.now a.edit) (late a.edit) tt (sym is))

pub returns : goal.returns
returns c =
    let a = c.args in
    let bytes : Bytes a.code.now = λ i. search rules in
    let asked = rows a.code.now a.edit ++ late a.edit in
    let number = load-number a.code.now a.edit.bundle bytes asked _ c.in_ok-halves.ensures in
    let is = c.in_ok-row_answer.ensures ∙ ap (λ (n : ℕ). first (row_refusals (units_in n) (row_of a.edit.form))) number in
    ap (λ (t : Bool). cond t retired accepted) (sym c.if-is_retired.false ∙ c.is_retired.ensures)
    ∙ sym (load-goes-on a.code.now a.edit.bundle bytes asked _ c.in_ok-halves.ensures ∙ first_on (rows a.code.now a.edit) (late a.edit) tt (sym is))
