-- The records that the sheet tells of are put back, the last first. Assumes nothing.
use mathlib.Core.Path.{sym, ◌∙◌}
use lib.ListN.{length}
use lib.Seq.{length-take-le}
use Rattle.std.specs.Prelude.{Ok, Err}
use Rattle.std.proofs.lemmas.Result.{err_from_is_err_and}
use Rattle.answer.proofs.Laws.{no-acceptance}
use Rattle.by_sheet.specs.inner.Back.{all_back}
use Rattle.by_sheet.proofs.Backs.{untaken, backs-taken}
use Rattle.by_sheet.proofs.Told.{loads, load-answer, told, told-first, told-within}
use Rattle.by_sheet.proofs.taking.take_out_of.Goals as goal

pub returns-in_err-told : goal.returns-in_err-told
returns-in_err-told c =
    let refusal = err_from_is_err_and c.from_residual.result c.from_residual.ensures.1 in
    let loaded = loads (Err c.in_err-told.field-0.0) c.load.new.records c.opened.ensures c.free-records.ensures c.in_err-told.ensures in
    rw (refusal.1, refusal.2) (untaken c.args.code.now c.args.sheet.now (load-answer loaded) (no-acceptance c.in_err-told.field-0.0))

pub slice_bounds-records-end : goal.slice_bounds-records-end
slice_bounds-records-end c =
    let loaded = loads (Ok c.in_ok-told.told) c.load.new.records c.opened.ensures c.free-records.ensures c.in_ok-told.ensures in
    told-within loaded (told _ (sym (load-answer loaded)))

pub slice_bounds-put_all_back-end : goal.slice_bounds-put_all_back-end
slice_bounds-put_all_back-end c =
    let loaded = loads (Ok c.in_ok-told.told) c.load.new.records c.opened.ensures c.free-records.ensures c.in_ok-told.ensures in
    sym (length-take-le _ _ (told-within loaded (told _ (sym (load-answer loaded)))))

pub returns : goal.returns
returns c =
    let loaded = loads (Ok c.in_ok-told.told) c.load.new.records c.opened.ensures c.free-records.ensures c.in_ok-told.ensures in
    let taken = sym (load-answer loaded) in
    let t = told _ taken in
    c.put_all_back.ensures
    ∙ (λ i. all_back (told-first loaded t i) (length (told-first loaded t i)) c.args.code.now)
    ∙ backs-taken t taken c.args.code.now c.requires
