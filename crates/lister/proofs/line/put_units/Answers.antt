-- A unit written after those of the pairs so far makes one more.
use Rattle.std.proofs.Common.{arith, add-one, length-append, length, false}
use Rattle.std.proofs.lemmas.Slice.Zip.{zip_turn, zip_end}
use Rattle.text.proofs.Writing.{put-none, put_then}
use Rattle.lister.proofs.Lines.{marks-next, marks-all, marks-three}
use Rattle.lister.proofs.line.put_units.Goals as goal

pub loop-unit-init : goal.loop-unit-init
loop-unit-init c = put-none (omega arith)

pub loop-unit-preserved : goal.loop-unit-preserved
loop-unit-preserved c =
    let i = length c.loop-unit.yielded in
    let t = zip_turn c.args.template.units c.args.template.stops c.loop-unit.yielded _ _ c.next.new.self _ (cc) (cc) c.loop-unit.yielded_by (c.in-Some.unit, c.in-Some.stop) c.in-Some.is c.next.ensures.steps in
    rw (length-append, add-one, marks-next i c.args.template.units c.args.template.stops t.0 t.1, ← t.2 0, ← t.3 false) (put_then (omega arith) c.loop-unit.invariant c.put_unit-next.ensures)

pub returns : goal.returns
returns c =
    let e = zip_end c.args.template.units c.args.template.stops c.loop-unit.yielded _ _ c.next.new.self _ (cc) (cc) c.loop-unit.yielded_by c.in-None.is c.next.ensures.steps in
    rw (marks-all (length c.loop-unit.yielded) c.args.template.units c.args.template.stops (omega (arith, e)), marks-three c.args.template (omega arith) (omega arith)) at c.loop-unit.invariant
