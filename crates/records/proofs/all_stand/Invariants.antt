-- Those that were looked at may all stand, and are records of the code. Assumes nothing.
use Rattle.std.proofs.Common.{◌≡◌, take, T}
use Rattle.record.specs.Record.{may_stand, fits64}
use Rattle.records.specs.Journal.{all}
use Rattle.records.proofs.all_stand.Given as goal

abbrev pub invariant-loop-one : goal.invariant-loop-one
invariant-loop-one l = (l.stand ≡ all (may_stand l.party) (take l.one-index l.records)) × T (all fits64 (take l.one-index l.records))
