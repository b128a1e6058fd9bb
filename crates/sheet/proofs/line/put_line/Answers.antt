-- The line's three parts, one after the other. Assumes nothing.
use native.Mathlib.Omega.{arith}
use Rattle.text.proofs.Writing.{put_then, put-length}
use Rattle.sheet.proofs.Lines.{full-line}
use Rattle.sheet.proofs.line.put_line.Goals as goal

pub returns : goal.returns
returns c =
    let front = c.put_fields-third.ensures in
    rw (← full-line c.args.one)
    (put_then (omega arith) front (put_then (omega (arith, put-length front)) c.put_field-fourth.ensures c.put_fields.ensures))
