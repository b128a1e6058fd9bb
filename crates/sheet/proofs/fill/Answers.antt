-- Each turn writes one place more. Assumes nothing.
use mathlib.Core.Path.{◌≡◌, refl, sym, ap, ◌∙◌}
use mathlib.Core.List.{List}
use mathlib.Core.Option.{some}
use native.Mathlib.Omega.{arith}
use lib.ListN.{length, drop, set, length-set}
use lib.Seq.{take-length, drop-drop}
use Rattle.record.specs.declared.Record.{Record}
use Rattle.records.specs.Journal.{journal_of}
use Rattle.records.proofs.Standing.{journal-places}
use Rattle.sheet.specs.inner.Finds.{Gives}
use Rattle.sheet.proofs.Filled.{turn}
use Rattle.sheet.proofs.fill.Goals as goal

pub loop-place-preserved : goal.loop-place-preserved
loop-place-preserved c =
    let l = c.loop-place in
    let i = l.invariant in
    let place = l.place in
    let same : length (set l.records l.place c.next_line-next.result.one) ≡ length l.records = length-set l.records l.place _ in
    let next : (rs : List Record) → Gives _ _ _ rs → _ = λ rs g. c.next_line-next.ensures (drop place rs) (i.lines rs g) in
    record {
      within = omega (arith, same);
      long = same ∙ i.long;
      lines = λ rs g. (next rs g).1 ∙ ap some (drop-drop 1 place rs);
      full = λ rs g few. turn _ place l.records (set l.records l.place c.next_line-next.result.one) rs c.next_line-next.result.one (omega arith) i.long few refl (next rs g).0 (i.full rs g few);
    }

pub returns : goal.returns
returns c rs g few =
    let l = c.loop-place in
    let places = length c.args.records.now in
    let whole = (journal_of places rs).records in
    let all : l.place ≡ length l.records = omega arith in
    let all-too : l.place ≡ length whole = omega (arith, journal-places places rs few) in
    sym (rw all (take-length l.records)) ∙ l.invariant.full rs g few ∙ rw all-too (take-length whole)
