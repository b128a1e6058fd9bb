-- The header, the lines and the rest, one after the other.
use Rattle.std.proofs.Common.{◌≡◌, ◌/◌, length, arith}
use Rattle.text.proofs.Writing.{put-none, put_then, put-length}
use Rattle.lister.specs.Listing.{bundle_lines, list_of}
use Rattle.lister.proofs.Lines.{lines_more, in-code, found-cut}
use Rattle.lister.proofs.write.Goals as goal

pub loop-n-init : goal.loop-n-init
unfolding bundle_lines
loop-n-init c = put-none (omega (arith, c.put_text-at.ensures.place))

pub loop-n-preserved : goal.loop-n-preserved
loop-n-preserved c =
    let l = c.loop-n in
    rw (lines_more c.args.code.now l.n) (put_then (omega (arith, put-length c.put_text-at.ensures)) l.invariant (rw c.cut.ensures at c.put_line-at.ensures))

pub returns : goal.returns
unfolding list_of
returns c =
    let l = c.loop-n in
    let e : l.n ≡ length c.args.code.now / 16 = omega arith in
    put_then (omega arith) c.put_text-at.ensures (put_then (omega (arith, put-length c.put_text-at.ensures)) (rw e at l.invariant) c.put_rest.ensures)

pub put_line-at-requires : goal.put_line-at-requires
put_line-at-requires c = found-cut c.args.code.now c.loop-n.n (in-code c.args.code.now c.loop-n.n c.requires c.loop-n-test.true) _ c.cut.ensures
