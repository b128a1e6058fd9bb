-- `value_of` meets its contract: a list has at most eight places.
use Rattle.std.proofs.Common.{arith}
use Rattle.meaning.proofs.Units.{at-most-8}
use Rattle.meaning.proofs.value_of.Goals as goal

pub entry_at-requires : goal.entry_at-requires
entry_at-requires c =
    let p = rw c.in-Chosen.is at c.requires in
    omega (arith, at-most-8 c.args.width p.0.0)
