-- A line is what its fields tell. Assumes nothing.
use native.Mathlib.Omega.{arith}
use Rattle.std.specs.Prelude.{Some}
use Rattle.record.specs.Record.{whole_record}
use Rattle.text.proofs.Stored.{none_read, all_read}
use Rattle.sheet.specs.Load.{ends, read_as}
use Rattle.sheet.proofs.line.read_old.Goals as goal

pub returns-in_err-of : goal.returns-in_err-of
unfolding read_as
returns-in_err-of c = rw (none_read _ _ ends c.in_err-of.ensures) c.from_residual.ensures

pub returns : goal.returns
unfolding read_as
returns c =
    let t = all_read _ _ ends _ _ (omega arith) c.in_ok-of.ensures in
    let n = t.looked in
    rw (t.found, c.whole_record.ensures, c.halves_in.ensures)
    (λ j. Some (whole_record c.args.party (n 0 j) (record { low = n 1 j; high = n 2 j }) (record { low = n 3 j; high = n 4 j }), c.in_ok-of.end))
