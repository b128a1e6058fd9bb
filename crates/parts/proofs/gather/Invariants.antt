-- The number so far stands below that of the parts from i on.
use Rattle.std.proofs.Common.{◌≡◌, ◌+◌, ◌≤◌, ◌<◌, ◌^◌, drop}
use Rattle.bits.specs.Part.{above}
use Rattle.bits.specs.Parts.{gather}
use Rattle.bundle.specs.Bundle.{whole}
use Rattle.parts.specs.Placed.{placed, width_of}
use Rattle.parts.proofs.gather.Given as goal

abbrev pub invariant-loop-part : goal.invariant-loop-part
invariant-loop-part l =
    let ps = l.parts in
    record {
      fits : l.raw < 2 ^ l.below;
      room : l.below + width_of (drop l.part-index ps) ≤ 64;
      is : above l.below l.raw (gather (whole l.halves) (placed l.slot (drop l.part-index ps))) ≡ gather (whole l.halves) (placed l.slot ps);
    }
