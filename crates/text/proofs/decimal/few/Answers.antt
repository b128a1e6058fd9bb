-- Each return counts the tenths down to one digit.
use Rattle.std.proofs.Common.{◌/◌, length, arith, sym, ap}
use Rattle.text.proofs.Numerals.{decimal-one, length_more}
use Rattle.text.proofs.decimal.few.Goals as goal

pub returns-then-n-lt10 : goal.returns-then-n-lt10
returns-then-n-lt10 c = sym (ap length (decimal-one c.args.n (omega arith)))

pub returns-then-n-lt100 : goal.returns-then-n-lt100
returns-then-n-lt100 c = let n = c.args.n in omega (arith, length_more n (omega arith), ap length (decimal-one (n / 10) (omega arith)))

pub returns-then-n-lt1000 : goal.returns-then-n-lt1000
returns-then-n-lt1000 c =
    let n = c.args.n in
    omega (arith, length_more n (omega arith), length_more (n / 10) (omega arith), ap length (decimal-one (n / 10 / 10) (omega arith)))

pub returns-else-n-lt1000 : goal.returns-else-n-lt1000
returns-else-n-lt1000 c =
    let n = c.args.n in
    omega (arith, length_more n (omega arith), length_more (n / 10) (omega arith), length_more (n / 10 / 10) (omega arith), ap length (decimal-one (n / 10 / 10 / 10) (omega arith)))
