-- The units with their stops and the three slots, one after the other.
use Rattle.std.proofs.Common.{arith}
use lib.Seq.{append_snoc}
use Rattle.bundle.specs.Template.{marked_units}
use Rattle.text.proofs.Writing.{put_then}
use Rattle.lister.proofs.Lines.{shown-is}
use Rattle.lister.proofs.line.put_slots.Goals as goal

pub returns : goal.returns
returns c =
    let units = put_then (omega arith) c.put_units-next.ensures c.put_byte-next.ensures in
    rw (← shown-is c.args.bundle.template c.args.bundle.slots (omega arith), ← append_snoc (marked_units c.args.bundle.template) 9 _) (put_then (omega arith) units c.put_fields.ensures)
