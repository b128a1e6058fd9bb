-- Each turn marks one record's bundle. Assumes nothing.
use mathlib.Core.Path.{sym, ap, ◌∙◌}
use Prim.Native.Nat.{ℕ}
use native.Mathlib.Numerals.{add-one}
use lib.ListN.{get_or, set, take}
use lib.Seq.{take-suc}
use Rattle.record.specs.Record.{no_record}
use Rattle.by_sheet.specs.Mark.{marked_by}
use Rattle.by_sheet.proofs.Touched.{marked_more}
use Rattle.by_sheet.proofs.marks.mark_all.Goals as goal

pub loop-one-preserved : goal.loop-one-preserved
loop-one-preserved c =
    let a = c.args in
    let l = c.loop-one in
    let i = l.one-index in
    let more = ap (λ (n : ℕ). take n a.records.now) (add-one i) ∙ take-suc a.records.now i no_record c.loop-one-test.true in
    c.set_mark.ensures
    ∙ (λ j. set (l.invariant j) (get_or a.records.now i no_record).bundle 1)
    ∙ sym (ap (marked_by a.marks.now) more ∙ marked_more a.marks.now (take i a.records.now) (get_or a.records.now i no_record))
