-- A record that fits is one whose bundle lies in the code. Assumes nothing.
use mathlib.Core.Path.{◌≡◌, refl, sym}
use Prim.Native.Nat.{◌+◌, ◌-◌, ◌*◌}
use native.Mathlib.Omega.{arith}
use borrow.Author.Tests.{eqb-false}
use lib.Seq.{drop-drop}
use Rattle.answer.specs.Answer.{accepted, stale, number_of}
use Rattle.answer.proofs.Laws.{refuses, no-acceptance}
use Rattle.record.specs.Record.{same_halves}
use Rattle.journal.specs.Change.{rewritten}
use Rattle.by_sheet.proofs.Backs.{same-fits, other-stale, back-taken, back-refused, fits-lies}
use Rattle.by_sheet.proofs.taking.put_back.Goals as goal

pub returns-in-Err : goal.returns-in-Err
returns-in-Err c =
    let q = c.args.one in
    let refusal = c.in-Err.refusal in
    let missing = sym (refuses (number_of refusal) _ _ (no-acceptance refusal)) in
    rw c.unfit.ensures (back-refused c.args.code.now q c.in-Err.ensures missing (no-acceptance refusal))

pub returns-then-ne : goal.returns-then-ne
returns-then-ne c =
    let q = c.args.one in
    rw c.unfit-then-ne.ensures
    (back-refused c.args.code.now q c.in-Ok.ensures (other-stale (same_halves c.in-Ok.found q.new) c.if-ne.ensures) (eqb-false stale accepted refl))

pub overflow_mul-at : goal.overflow_mul-at
overflow_mul-at c =
    let h = fits-lies c.args.code.now c.args.one c.in-Ok.ensures (same-fits (same_halves c.in-Ok.found c.args.one.new) c.if-ne.ensures) refl in
    omega (arith, h.short, h.within)

pub overflow_add-at : goal.overflow_add-at
overflow_add-at c =
    let h = fits-lies c.args.code.now c.args.one c.in-Ok.ensures (same-fits (same_halves c.in-Ok.found c.args.one.new) c.if-ne.ensures) refl in
    omega (arith, h.short, h.within)

pub slice_bounds-write-end : goal.slice_bounds-write-end
slice_bounds-write-end c =
    let h = fits-lies c.args.code.now c.args.one c.in-Ok.ensures (same-fits (same_halves c.in-Ok.found c.args.one.new) c.if-ne.ensures) refl in
    omega (arith, h.within)

pub returns : goal.returns
unfolding rewritten
returns c =
    let q = c.args.one in
    let at : q.bundle * 16 ≡ 16 * q.bundle = omega arith in
    let size : q.bundle * 16 + 16 - q.bundle * 16 ≡ 16 = omega arith in
    rw (size, at, c.write.ensures, drop-drop)
    (back-taken c.args.code.now q c.in-Ok.ensures (same-fits (same_halves c.in-Ok.found c.args.one.new) c.if-ne.ensures) refl)
