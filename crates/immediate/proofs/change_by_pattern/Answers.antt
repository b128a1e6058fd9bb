-- `change_by_pattern` meets its contract: a row that stands in the slot is sound there, and the value with the pattern is written in it.
use Rattle.std.proofs.Common.{sym, ap, ◌∙◌}
use Rattle.std.proofs.lemmas.Result.{err_from_is_err_and}
use Rattle.bundle.specs.Bundle.{whole}
use Rattle.meaning.specs.Meaning.{operand_for}
use Rattle.row.specs.Row.{Row, row_of}
use Rattle.row.proofs.Rows.{row-good}
use Rattle.immediate.specs.Immediate.{edit_by_pattern}
use Rattle.immediate.specs.inner.Sound.{written_in}
use Rattle.immediate.proofs.Laws.{row_is, packed-sound, changed-refused, changed-written}
use Rattle.immediate.proofs.change_by_pattern.Goals as goal

pub returns-in_err-row : goal.returns-in_err-row
returns-in_err-row c k =
    let a = c.args in
    let reason = err_from_is_err_and c.from_residual.result c.from_residual.ensures.1 in
    rw (reason.1, reason.2)
    (changed-refused (whole a.bundle) (edit_by_pattern k a.slot a.form a.pattern) _ (c.in_err-row.ensures.answer (row_of a.form) c.packed_of.ensures))

pub with_value-requires : goal.with_value-requires
with_value-requires c =
    let a = c.args in
    let ok = c.in_ok-row.ensures in
    packed-sound (whole a.bundle) a.slot a.form (row_of a.form) c.packed_of.ensures ok.same (row-good a.form) (ok.answer (row_of a.form) c.packed_of.ensures)

pub returns : goal.returns
returns c k =
    let a = c.args in
    let n = whole a.bundle in
    let row = row_of a.form in
    let ok = c.in_ok-row.ensures in
    c.with_value.ensures
    ∙ ap (λ (r : Row). written_in r a.slot n (operand_for r.meaning a.pattern)) (row_is n a.slot a.form row c.packed_of.ensures ok.same)
    ∙ changed-written n (edit_by_pattern k a.slot a.form a.pattern) (sym (ok.answer row c.packed_of.ensures))
