-- The parts that were passed meet none of the other's, so those that are left decide.
use Rattle.std.proofs.Common.{◌≡◌}
use Rattle.bits.specs.Parts.{meet_not}
use Rattle.parts.specs.Placed.{placed}
use Rattle.meet.proofs.Turns.{left}
use Rattle.meet.proofs.Standing.is_apart.Given as goal

abbrev pub invariant-loop-part : goal.invariant-loop-part
invariant-loop-part l =
    let qs = placed l.fn.other.slot l.fn.other.parts.now in
    meet_not (placed l.fn.self.slot l.fn.self.parts.now) qs ≡ meet_not (left l.fn.self.slot l.fn.self.parts.now l.part-index) qs
