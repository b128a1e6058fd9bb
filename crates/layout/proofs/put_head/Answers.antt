-- The fixed string and the five numbers, one after the other.
use Rattle.std.proofs.Common.{arith}
use Rattle.text.proofs.Writing.{put_then}
use Rattle.layout.proofs.put_head.Goals as goal

pub returns : goal.returns
returns c = put_then (omega arith) c.put_text-next.ensures c.put_fields.ensures
