-- The two fields and the end, one after the other.
use Rattle.std.proofs.Common.{arith}
use Rattle.text.proofs.Writing.{put_then}
use Rattle.lister.specs.Listing.{end_of, bundle_line}
use Rattle.lister.proofs.line.put_line.Goals as goal

pub returns-in-Ok : goal.returns-in-Ok
unfolding end_of bundle_line
returns-in-Ok c = rw c.in-Ok.is (put_then (omega arith) c.put_numbers-next.ensures c.put_slots.ensures)

pub returns-in-Err-Reserved : goal.returns-in-Err-Reserved
unfolding end_of bundle_line
returns-in-Err-Reserved c =
    let reserved = rw c.in-Err-Reserved.is at c.in-Err-Reserved.field-0-is in
    rw (c.in-Err-Reserved.is, reserved) (put_then (omega arith) c.put_numbers-next-in-Err-Reserved.ensures c.put_text.ensures)
