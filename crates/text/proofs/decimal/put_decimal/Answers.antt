-- The digits are written in place, or aside and then as a text.
use Rattle.std.proofs.Common.{◌≡◌, length, take, replicate, arith, sym, ap, ◌∙◌}
use lib.Seq.{length-sets}
use Rattle.text.specs.Decimal.{decimal}
use Rattle.text.proofs.Numerals.{decimal-length}
use Rattle.text.proofs.Writing.{written-front}
use Rattle.text.proofs.decimal.put_decimal.Goals as goal

pub fill-requires-2 : goal.fill-requires-2
fill-requires-2 c = (omega (arith, c.digits-count.ensures), omega (arith, c.digits-count.ensures, decimal-length 19 c.args.n (omega arith)))

pub slice_bounds-text-end : goal.slice_bounds-text-end
slice_bounds-text-end c =
    let size : length c.fill-2.new.out ≡ 20 = ap length c.fill-2.ensures ∙ simp length-sets in
    omega (arith, c.digits-count.ensures, decimal-length 19 c.args.n (omega arith))

pub slice_bounds-put_text-end : goal.slice_bounds-put_text-end
slice_bounds-put_text-end c =
    let short = decimal-length 19 c.args.n (omega arith) in
    let spelled : take c.digits-count.result c.fill-2.new.out ≡ decimal c.args.n = rw (c.digits-count.ensures, c.fill-2.ensures) (written-front (replicate 20 0) (decimal c.args.n) short) in
    c.digits-count.ensures ∙ sym (ap length spelled)

pub returns : goal.returns
returns c =
    let short = decimal-length 19 c.args.n (omega arith) in
    let spelled : take c.digits-count.result c.fill-2.new.out ≡ decimal c.args.n = rw (c.digits-count.ensures, c.fill-2.ensures) (written-front (replicate 20 0) (decimal c.args.n) short) in
    rw spelled at c.put_text.ensures
