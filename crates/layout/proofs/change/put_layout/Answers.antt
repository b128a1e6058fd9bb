-- The first line, the others' lines and that of the window, one after the other.
use Rattle.std.proofs.Common.{arith}
use Rattle.text.proofs.Writing.{put_then}
use Rattle.layout.specs.Read.{windows_at}
use Rattle.layout.proofs.Changes.{layout-with, layout-without}
use Rattle.layout.proofs.change.put_layout.Goals as goal

pub returns-then-listed : goal.returns-then-listed
returns-then-listed c =
    let a = c.args in
    let head = rw c.count_others-others.ensures.0 at c.put_head-head.ensures in
    rw (c.if-listed.true, ← layout-with a.found.reading a.window (windows_at a.text.now a.found.first a.found.count))
    (put_then (omega arith) (put_then (omega arith) head c.put_others-end.ensures) c.put_field.ensures)

pub returns : goal.returns
returns c =
    let a = c.args in
    let head = rw c.count_others-others.ensures.0 at c.put_head-head-2.ensures in
    rw (c.if-listed.false, ← layout-without a.found.reading a.window (windows_at a.text.now a.found.first a.found.count)) (put_then (omega arith) head c.put_others.ensures)
