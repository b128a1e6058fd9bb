-- The first line and the records' lines, one after the other. Assumes nothing.
use mathlib.Core.Path.{◌≡◌, sym, ap, ◌∙◌}
use mathlib.Core.List.{List}
use Prim.Native.Nat.{ℕ, ◌^◌, ◌≤◌, ◌<◌}
use native.Mathlib.Omega.{arith}
use lib.ListN.{length, take}
use lib.Seq.{length-take-le}
use Rattle.record.specs.declared.Record.{Record}
use Rattle.records.specs.Journal.{lent, standing}
use Rattle.records.proofs.Standing.{standing-places}
use Rattle.text.proofs.Writing.{put_then, put-length}
use Rattle.sheet.specs.Sheet.{sheet_as}
use Rattle.sheet.specs.declared.line.Kind.TheVariants.{Full}
use Rattle.sheet.proofs.Sheets.{lines_more}
use Rattle.sheet.proofs.put_sheet.Goals as goal

-- as many records stand as the journal counts
counts : (count : ℕ) (rs : List Record) → count ≤ length rs → count ≡ length (standing (lent count rs))
counts count rs h = sym (ap length (standing-places (lent count rs)) ∙ length-take-le count rs h)

pub loop-place-preserved : goal.loop-place-preserved
loop-place-preserved c =
    let l = c.loop-place in
    let i = l.place in
    let short : length c.args.out.now < 2 ^ 64 = omega arith in
    let room = put-length c.put_head-at.ensures in
    let more = lines_more Full c.args.records.now i (omega (arith, c.requires)) in
    let line = rw c.get-one.ensures at c.put_line-at.ensures in
    rw more (put_then (omega (arith, short, room)) l.invariant line)

pub returns : goal.returns
unfolding sheet_as
returns c =
    let l = c.loop-place in
    let a = c.args in
    let j = lent a.count a.records.now in
    let short : length a.out.now < 2 ^ 64 = omega arith in
    let count = counts a.count a.records.now c.requires in
    let all : l.place ≡ a.count = omega arith in
    let records = ap (λ (n : ℕ). take n a.records.now) all ∙ sym (standing-places j) in
    put_then short (rw count at c.put_head-at.ensures) (rw records at l.invariant)
