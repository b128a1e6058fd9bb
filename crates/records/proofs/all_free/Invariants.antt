-- Those that were looked at are all free. Assumes nothing.
use Rattle.std.proofs.Common.{◌≡◌, take}
use Rattle.record.specs.Record.{is_free}
use Rattle.records.specs.Journal.{all}
use Rattle.records.proofs.all_free.Given as goal

abbrev pub invariant-loop-one : goal.invariant-loop-one
invariant-loop-one l = l.free ≡ all is_free (take l.one-index l.records)
