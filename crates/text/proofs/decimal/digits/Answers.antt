-- A number below 2 ^ 64 has at most twenty digits.
use Rattle.std.proofs.Common.{arith}
use Rattle.text.proofs.Numerals.{decimal-length, length-four}
use Rattle.text.proofs.decimal.digits.Goals as goal

pub overflow_add-count : goal.overflow_add-count
overflow_add-count c = omega (arith, decimal-length 19 c.args.n (omega arith))

pub loop-rest-preserved : goal.loop-rest-preserved
loop-rest-preserved c = omega (arith, length-four c.loop-rest.rest c.loop-rest-test.true)

pub overflow_add-result : goal.overflow_add-result
overflow_add-result c = omega (arith, decimal-length 19 c.args.n (omega arith), c.few.ensures)
