-- The bundles of the records that the sheet tells of are marked. Assumes nothing.
use mathlib.Core.Path.{sym, ap, ◌∙◌}
use lib.ListN.{length}
use lib.Seq.{length-take-le}
use Rattle.std.specs.Prelude.{Ok, Err}
use Rattle.std.proofs.lemmas.Result.{err_from_is_err_and}
use Rattle.answer.specs.Answer.{accepted}
use Rattle.answer.proofs.Laws.{accepts, no-acceptance}
use Rattle.by_sheet.specs.Mark.{marked_by, marked_of}
use Rattle.by_sheet.proofs.Touched.{mark-untold}
use Rattle.by_sheet.proofs.Told.{loads, load-answer, told, told-count, told-first, told-within, told-records}
use Rattle.by_sheet.proofs.marks.mark.Goals as goal

pub returns-in_err-told : goal.returns-in_err-told
returns-in_err-told c =
    let refusal = err_from_is_err_and c.from_residual.result c.from_residual.ensures.1 in
    let loaded = loads (Err c.in_err-told.field-0.0) c.load.new.records c.opened.ensures c.free-records.ensures c.in_err-told.ensures in
    rw (refusal.1, refusal.2) (mark-untold c.args.sheet.now c.args.marks.now (load-answer loaded) (no-acceptance c.in_err-told.field-0.0))

pub slice_bounds-records-end : goal.slice_bounds-records-end
slice_bounds-records-end c =
    let loaded = loads (Ok c.in_ok-told.told) c.load.new.records c.opened.ensures c.free-records.ensures c.in_ok-told.ensures in
    told-within loaded (told _ (sym (load-answer loaded)))

pub slice_bounds-mark_all-end : goal.slice_bounds-mark_all-end
slice_bounds-mark_all-end c =
    let loaded = loads (Ok c.in_ok-told.told) c.load.new.records c.opened.ensures c.free-records.ensures c.in_ok-told.ensures in
    sym (length-take-le _ _ (told-within loaded (told _ (sym (load-answer loaded)))))

pub returns : goal.returns
unfolding marked_of
returns c =
    let l = loads (Ok c.in_ok-told.told) c.load.new.records c.opened.ensures c.free-records.ensures c.in_ok-told.ensures in
    let taken = sym (load-answer l) in
    let t = told _ taken in
    (λ i. (record { answer = accepted; count = (told-count l t ∙ sym (ap length (told-records l t))) i }, (c.mark_all.ensures ∙ ap (marked_by _) (told-first l t ∙ sym (told-records l t))) i))
    ∙ sym (accepts _ _ _ taken)
