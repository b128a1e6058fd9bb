-- What is left to be scattered into the parts from i on gives the same bundle.
use Rattle.std.proofs.Common.{◌≡◌, drop}
use Rattle.bits.specs.Parts.{scatter}
use Rattle.bundle.specs.Bundle.{whole}
use Rattle.parts.specs.Placed.{placed}
use Rattle.parts.proofs.scatter.Given as goal

abbrev pub invariant-loop-part : goal.invariant-loop-part
invariant-loop-part l =
    let ps = l.parts in
    record {
      is : scatter (whole l.fn.halves) (placed l.slot ps) l.fn.raw ≡ scatter (whole l.bundle) (placed l.slot (drop l.part-index ps)) l.rest;
    }
