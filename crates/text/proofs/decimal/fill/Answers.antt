-- Four digits stored from the end on leave less to write.
use Rattle.std.proofs.Common.{arith, ◌∙◌, length-set}
use Rattle.text.proofs.Numerals.{length-four}
use Rattle.text.proofs.Filling.{filling-four, filling-rest}
use Rattle.text.proofs.decimal.fill.Goals as goal

pub overflow_sub-out : goal.overflow_sub-out
overflow_sub-out c = omega (arith, length-four c.loop-rest.rest c.loop-rest-test.true)

pub bounds-out-i : goal.bounds-out-i
bounds-out-i c = omega (arith, length-four c.loop-rest.rest c.loop-rest-test.true)

pub overflow_sub-out-in-loop-rest : goal.overflow_sub-out-in-loop-rest
overflow_sub-out-in-loop-rest c = omega (arith, length-four c.loop-rest.rest c.loop-rest-test.true)

pub bounds-out-i-in-loop-rest : goal.bounds-out-i-in-loop-rest
bounds-out-i-in-loop-rest c = simp length-set (omega (arith, length-four c.loop-rest.rest c.loop-rest-test.true))

pub overflow_sub-out-in-loop-rest-2 : goal.overflow_sub-out-in-loop-rest-2
overflow_sub-out-in-loop-rest-2 c = omega (arith, length-four c.loop-rest.rest c.loop-rest-test.true)

pub bounds-out-i-in-loop-rest-2 : goal.bounds-out-i-in-loop-rest-2
bounds-out-i-in-loop-rest-2 c = simp length-set (omega (arith, length-four c.loop-rest.rest c.loop-rest-test.true))

pub overflow_sub-out-in-loop-rest-3 : goal.overflow_sub-out-in-loop-rest-3
overflow_sub-out-in-loop-rest-3 c = omega (arith, length-four c.loop-rest.rest c.loop-rest-test.true)

pub bounds-out-i-in-loop-rest-3 : goal.bounds-out-i-in-loop-rest-3
bounds-out-i-in-loop-rest-3 c = simp length-set (omega (arith, length-four c.loop-rest.rest c.loop-rest-test.true))

pub overflow_sub-i : goal.overflow_sub-i
overflow_sub-i c = omega (arith, length-four c.loop-rest.rest c.loop-rest-test.true)

pub loop-rest-preserved : goal.loop-rest-preserved
loop-rest-preserved c = filling-four c.loop-rest.invariant c.loop-rest-test.true

pub returns : goal.returns
returns c = c.fill_few.ensures ∙ filling-rest c.loop-rest.invariant c.requires.0 c.requires.1
