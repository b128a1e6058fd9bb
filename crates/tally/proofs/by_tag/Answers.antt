-- None is counted at first, and all at the end.
use Rattle.std.proofs.Common.{◌≡◌, ◌/◌, length, arith, refl}
use Rattle.tally.specs.Report.{below, tags_of}
use Rattle.tally.proofs.by_tag.Goals as goal

pub loop-turn-init : goal.loop-turn-init
unfolding below
loop-turn-init c = refl

pub returns : goal.returns
unfolding tags_of
returns c =
    let all : c.loop-n.n ≡ length c.args.image.now / 16 = omega arith in
    rw all at c.loop-n.invariant
