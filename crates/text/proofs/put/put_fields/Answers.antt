-- A field written after those of the pairs so far makes one more.
use Rattle.std.proofs.Common.{arith, add-one, length-append, length}
use Rattle.std.proofs.lemmas.Slice.Zip.{zip_turn, zip_end}
use Rattle.text.proofs.Writing.{put_then, fields-next, fields-all}
use Rattle.text.proofs.put.put_fields.Goals as goal

pub loop-n-preserved : goal.loop-n-preserved
loop-n-preserved c =
    let i = length c.loop-n.yielded in
    let t = zip_turn c.args.of.now c.args.ends.now c.loop-n.yielded _ _ c.next.new.self _ (cc) (cc) c.loop-n.yielded_by (c.in-Some.n, c.in-Some.end) c.in-Some.is c.next.ensures.steps in
    rw (length-append, add-one, fields-next i c.args.of.now c.args.ends.now t.0 t.1, ← t.2 0, ← t.3 0) (put_then (omega arith) c.loop-n.invariant c.put_field-next.ensures)

pub returns : goal.returns
returns c =
    let e = zip_end c.args.of.now c.args.ends.now c.loop-n.yielded _ _ c.next.new.self _ (cc) (cc) c.loop-n.yielded_by c.in-None.is c.next.ensures.steps in
    rw (fields-all (length c.loop-n.yielded) c.args.of.now c.args.ends.now (omega (arith, e))) at c.loop-n.invariant
