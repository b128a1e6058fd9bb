-- A part that can be read ends in the bundle.
use Rattle.parts.proofs.Placed.{ends}
use Rattle.meet.proofs.Bits.of.Goals as goal

pub invariant_of-result : goal.invariant_of-result
invariant_of-result c = record { in_bundle = rw (c.stands_at.ensures, c.from.ensures) (ends c.args.slot c.args.part c.requires.0 c.requires.1) }
