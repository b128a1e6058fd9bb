-- It answers as loading does, then as reading does, and then by whether the word has the form. Assumes nothing.
use mathlib.Core.Path.{◌∙◌, ap, sym}
use mathlib.Core.Bool.{Bool, cond, not}
use mathlib.Core.List.{List, [], ◌∷◌, ◌++◌}
use Prim.Native.Nat.{ℕ}
use borrow.Author.Rules.{rules}
use Rattle.std.proofs.lemmas.Result.{err_from_is_err_and}
use Rattle.answer.specs.Answer.{Reason, accepted, bad_opcode, first}
use Rattle.answer.proofs.Laws.{first_on}
use Rattle.bundle.specs.Bundle.{number_at}
use Rattle.bundle.proofs.Bytes.{Bytes}
use Rattle.choice.specs.Choice.{has_form}
use Rattle.form.specs.declared.Edit.{Edit}
use Rattle.row.specs.Row.{row_of}
use Rattle.immediate.specs.Immediate.{read_refusals}
use Rattle.journal.specs.Edit.{form_refusal}
use Rattle.journal.proofs.Laws.{refusal-stops, load-stops, load-goes-on, load-number}
use Rattle.journal.proofs.plan.word_allowed.Goals as goal

abbrev reading : List ℕ → Edit → List Reason
reading code edit = read_refusals (number_at code edit.bundle) edit.slot edit.form (row_of edit.form)

abbrev word : List ℕ → Edit → List Reason
word code edit = form_refusal code edit ∷ []

pub returns-in_err-halves : goal.returns-in_err-halves
returns-in_err-halves c =
    let a = c.args in
    let bytes : Bytes a.code.now = λ i. search rules in
    let reason = err_from_is_err_and c.from_residual.result c.from_residual.ensures.1 in
    rw (reason.1, reason.2) (load-stops a.code.now a.edit.bundle bytes (reading a.code.now a.edit ++ word a.code.now a.edit) _ c.in_err-halves.ensures)

pub returns-in_err-read_answer : goal.returns-in_err-read_answer
returns-in_err-read_answer c =
    let a = c.args in
    let bytes : Bytes a.code.now = λ i. search rules in
    let reason = err_from_is_err_and c.from_residual-in_err-read_answer.result c.from_residual-in_err-read_answer.ensures.1 in
    let asked = reading a.code.now a.edit ++ word a.code.now a.edit in
    let number = load-number a.code.now a.edit.bundle bytes asked _ c.in_ok-halves.ensures in
    let is = c.in_err-read_answer.ensures ∙ ap (λ (n : ℕ). first (read_refusals n a.edit.slot a.edit.form (row_of a.edit.form))) number in
    rw (reason.1, reason.2)
    (refusal-stops _ (reading a.code.now a.edit) (word a.code.now a.edit) is ∙ sym (load-goes-on a.code.now a.edit.bundle bytes asked _ c.in_ok-halves.ensures))

-- the word is looked at
pub returns-then-not-has_form : goal.returns-then-not-has_form
returns-then-not-has_form c =
    let a = c.args in
    let bytes : Bytes a.code.now = λ i. search rules in
    let asked = reading a.code.now a.edit ++ word a.code.now a.edit in
    let number = load-number a.code.now a.edit.bundle bytes asked _ c.in_ok-halves.ensures in
    let is = c.in_ok-read_answer.ensures ∙ ap (λ (n : ℕ). first (read_refusals n a.edit.slot a.edit.form (row_of a.edit.form))) number in
    let has = c.has_form.ensures ∙ ap (λ (n : ℕ). has_form n a.edit.slot a.edit.form) number in
    ap (λ (t : Bool). cond (not t) bad_opcode accepted) (sym c.if-not-has_form.true ∙ has)
    ∙ sym (load-goes-on a.code.now a.edit.bundle bytes asked _ c.in_ok-halves.ensures ∙ first_on (reading a.code.now a.edit) (word a.code.now a.edit) tt (sym is))

pub returns : goal.returns
returns c =
    let a = c.args in
    let bytes : Bytes a.code.now = λ i. search rules in
    let asked = reading a.code.now a.edit ++ word a.code.now a.edit in
    let number = load-number a.code.now a.edit.bundle bytes asked _ c.in_ok-halves.ensures in
    let is = c.in_ok-read_answer.ensures ∙ ap (λ (n : ℕ). first (read_refusals n a.edit.slot a.edit.form (row_of a.edit.form))) number in
    let has = c.has_form.ensures ∙ ap (λ (n : ℕ). has_form n a.edit.slot a.edit.form) number in
    ap (λ (t : Bool). cond (not t) bad_opcode accepted) (sym c.if-not-has_form.false ∙ has)
    ∙ sym (load-goes-on a.code.now a.edit.bundle bytes asked _ c.in_ok-halves.ensures ∙ first_on (reading a.code.now a.edit) (word a.code.now a.edit) tt (sym is))
