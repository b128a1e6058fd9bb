-- A digit stored from the end on leaves less to write.
use Rattle.std.proofs.Common.{◌≡◌, ◌+◌, ◌-◌, ◌%◌, length, set, arith, ap, refl, ◌∙◌}
use Rattle.text.specs.Decimal.{decimal}
use Rattle.text.specs.Put.{written}
use Rattle.text.proofs.Numerals.{decimal-one, length_more}
use Rattle.text.proofs.Filling.{filling-one, filling-rest}
use Rattle.text.proofs.decimal.fill_few.Goals as goal

pub overflow_sub-i : goal.overflow_sub-i
overflow_sub-i c = omega (arith, length_more c.loop-rest.rest c.loop-rest-test.true)

pub bounds-out-i : goal.bounds-out-i
bounds-out-i c = omega (arith, length_more c.loop-rest.rest c.loop-rest-test.true)

pub loop-rest-preserved : goal.loop-rest-preserved
loop-rest-preserved c =
    let more = length_more c.loop-rest.rest c.loop-rest-test.true in
    filling-one c.loop-rest.invariant (c.loop-rest.i - 1) (48 + c.loop-rest.rest % 10) (omega arith) c.loop-rest-test.true refl

pub bounds-out-at : goal.bounds-out-at
bounds-out-at c = omega (arith, ap length (decimal-one c.loop-rest.rest (omega arith)))

pub returns : goal.returns
returns c =
    let last : set c.loop-rest.out c.args.at (48 + c.loop-rest.rest) ≡ written c.loop-rest.out c.args.at (decimal c.loop-rest.rest) = rw (decimal-one c.loop-rest.rest (omega arith)) in
    last ∙ filling-rest c.loop-rest.invariant c.requires.0 c.requires.1
