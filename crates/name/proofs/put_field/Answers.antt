-- Two writes are one.
use Rattle.std.proofs.Common.{arith}
use Rattle.text.proofs.Writing.{put_then}
use Rattle.name.proofs.put_field.Goals as goal

pub returns : goal.returns
returns c = put_then (omega arith) c.put_name-next.ensures c.put_byte.ensures
