-- A case of what it comes to at each return. Assumes nothing.
use Rattle.std.specs.Prelude.{Ok, Err}
use Rattle.std.proofs.lemmas.Result.{err_from_is_err_and}
use Rattle.answer.specs.Answer.{accepted, number_of}
use Rattle.answer.proofs.Laws.{no-acceptance}
use Rattle.by_sheet.proofs.Performing.{untold, task-refused, task-written, uncounted}
use Rattle.by_sheet.proofs.Told.{loads, load-answer}
use Rattle.by_sheet.proofs.perform_in.Goals as goal

pub returns-in_err-told : goal.returns-in_err-told
returns-in_err-told c =
    let a = c.args in
    let refusal = err_from_is_err_and c.from_residual.result c.from_residual.ensures.1 in
    let loaded = loads (Err c.in_err-told.field-0.0) c.load.new.records c.opened.ensures c.free-records.ensures c.in_err-told.ensures in
    rw (refusal.1, refusal.2) (uncounted (untold a.code.now a.sheet.now a.task a.out.now (load-answer loaded) (no-acceptance c.in_err-told.field-0.0)))

pub returns-in_err-counts : goal.returns-in_err-counts
returns-in_err-counts c =
    let a = c.args in
    let refusal = err_from_is_err_and c.from_residual-in_err-counts.result c.from_residual-in_err-counts.ensures.1 in
    let loaded = loads (Ok c.in_ok-told.told) c.load.new.records c.opened.ensures c.free-records.ensures c.in_ok-told.ensures in
    rw (refusal.1, refusal.2) (uncounted (task-refused a.code.now a.sheet.now a.task a.out.now loaded c.perform_task.new.records c.perform_task.new.code c.in_err-counts.field-0.0 c.in_err-counts.ensures))

pub returns-in_err-length : goal.returns-in_err-length
returns-in_err-length c =
    let a = c.args in
    let refusal = err_from_is_err_and c.from_residual-in_err-length.result c.from_residual-in_err-length.ensures.1 in
    let loaded = loads (Ok c.in_ok-told.told) c.load.new.records c.opened.ensures c.free-records.ensures c.in_ok-told.ensures in
    rw (refusal.1, refusal.2) (uncounted (task-written a.code.now a.sheet.now a.task a.out.now loaded c.perform_task.new.records c.perform_task.new.code c.in_ok-counts.counts c.in_ok-counts.ensures (record { answer = number_of c.in_err-length.field-0.0; length = 0 }) c.write.new.out c.in_err-length.ensures))

pub returns : goal.returns
returns c =
    let a = c.args in
    let loaded = loads (Ok c.in_ok-told.told) c.load.new.records c.opened.ensures c.free-records.ensures c.in_ok-told.ensures in
    task-written a.code.now a.sheet.now a.task a.out.now loaded c.perform_task.new.records c.perform_task.new.code c.in_ok-counts.counts c.in_ok-counts.ensures (record { answer = accepted; length = c.in_ok-length.length }) c.write.new.out c.in_ok-length.ensures
