-- `immediate_in` meets its contract: a row that stands in the slot is sound there, and reads the bundle's number.
use Rattle.std.proofs.Common.{sym, ap, ◌∙◌}
use Rattle.std.proofs.lemmas.Result.{err_from_is_err_and}
use Rattle.answer.proofs.Laws.{accepts}
use Rattle.bundle.specs.Bundle.{whole}
use Rattle.row.specs.Row.{Row, row_of}
use Rattle.row.proofs.Rows.{row-good}
use Rattle.immediate.specs.Immediate.{value_in, no_immediate, immediate_in}
use Rattle.immediate.proofs.Laws.{row_is, packed-sound, refused}
use Rattle.immediate.proofs.immediate_in.Goals as goal

pub returns-in_err-row : goal.returns-in_err-row
unfolding immediate_in
returns-in_err-row c =
    let reason = err_from_is_err_and c.from_residual.result c.from_residual.ensures.1 in
    rw (reason.1, reason.2) (refused no_immediate _ _ _ (c.in_err-row.ensures.answer (row_of c.args.form) c.packed_of.ensures))

pub value_in-requires : goal.value_in-requires
value_in-requires c =
    let a = c.args in
    let ok = c.in_ok-row.ensures in
    packed-sound (whole a.bundle) a.slot a.form (row_of a.form) c.packed_of.ensures ok.same (row-good a.form) (ok.answer (row_of a.form) c.packed_of.ensures)

pub returns : goal.returns
unfolding immediate_in
returns c =
    let a = c.args in
    let n = whole a.bundle in
    let row = row_of a.form in
    let ok = c.in_ok-row.ensures in
    let value = c.value_in.ensures ∙ ap (λ (r : Row). value_in r a.slot n) (row_is n a.slot a.form row c.packed_of.ensures ok.same) in
    (λ i. record { answer = 0; value = value i }) ∙ sym (accepts _ _ _ (sym (ok.answer row c.packed_of.ensures)))
