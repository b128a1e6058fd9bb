-- `raw_chosen` meets its contract: a list has at most eight places.
use Rattle.std.proofs.Common.{◌<◌, arith}
use Rattle.bits.proofs.Shift.{one_shl}
use Rattle.meaning.proofs.Units.{at-most-8}
use Rattle.meaning.proofs.raw_chosen.Goals as goal

pub place_among-requires : goal.place_among-requires
place_among-requires c =
    let w = c.args.width in
    let h : w < 64 = omega arith in
    rw (one_shl w h) (at-most-8 w c.requires.0)
