-- Nothing where no bytes are left, else one line.
use Rattle.std.proofs.Common.{arith}
use Rattle.text.proofs.Writing.{put-none, put_then}
use Rattle.lister.specs.Listing.{rest_of}
use Rattle.lister.proofs.Lines.{rest_some}
use Rattle.lister.proofs.line.put_rest.Goals as goal

pub returns-then-bytes-eq0 : goal.returns-then-bytes-eq0
unfolding rest_of
returns-then-bytes-eq0 c = rw c.if-bytes-eq0.true (put-none (omega arith))

pub returns : goal.returns
returns c = rw (rest_some c.args.bytes (omega arith)) (put_then (omega arith) c.put_text-next.ensures c.put_field.ensures)
