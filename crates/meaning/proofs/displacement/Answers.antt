-- `displacement` meets its contract: the units of what stands below the top bit, less those of the top bit, are the pattern.
use Rattle.std.proofs.Common.{◌-◌, ◌<◌, arith}
use Rattle.bits.proofs.Shift.{one_shl}
use Rattle.meaning.proofs.Units.{top-fits, signed-pattern}
use Rattle.meaning.proofs.displacement.Goals as goal

pub overflow_mul-result-2 : goal.overflow_mul-result-2
overflow_mul-result-2 c =
    let a = c.args in
    let h : a.width - 1 < 64 = omega arith in
    rw (one_shl (a.width - 1) h) (omega (arith, top-fits a.unit a.width a.raw c.requires.0 c.requires.1))

pub returns : goal.returns
returns c =
    let a = c.args in
    let h : a.width - 1 < 64 = omega arith in
    rw (one_shl (a.width - 1) h) (signed-pattern a.unit a.width a.raw c.requires.0 c.requires.1)
