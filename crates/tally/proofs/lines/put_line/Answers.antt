-- The label, a tab and the number, one after the other.
use Rattle.std.proofs.Common.{arith}
use lib.Seq.{append_snoc}
use Rattle.text.proofs.Writing.{put_then}
use Rattle.tally.specs.Text.{label_of, number_line}
use Rattle.tally.proofs.lines.put_line.Goals as goal

pub returns : goal.returns
unfolding number_line
returns c =
    rw (← append_snoc (label_of c.args.i) 9 _)
    (put_then (omega arith) (put_then (omega arith) c.put_label-next.ensures c.put_byte-next.ensures) c.put_field.ensures)
