-- The parts that were passed are apart from the bits, so those that are left decide.
use Rattle.std.proofs.Common.{◌≡◌, ℕ}
use Rattle.bits.specs.Parts.{apart_from}
use Rattle.parts.specs.Placed.{placed}
use Rattle.meet.proofs.Turns.{left}
use Rattle.meet.proofs.Standing.is_apart_from.Given as goal

abbrev pub invariant-loop-part : goal.invariant-loop-part
invariant-loop-part l =
    let bits : ℕ × ℕ = (l.bits.at, l.bits.width) in
    apart_from bits (placed l.fn.self.slot l.fn.self.parts.now) ≡ apart_from bits (left l.fn.self.slot l.fn.self.parts.now l.part-index)
