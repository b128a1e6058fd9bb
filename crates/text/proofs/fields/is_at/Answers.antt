-- Nothing stands past the text, and in it the byte that is there.
use Rattle.text.proofs.RoundTrip.{stands-past, stands-there}
use Rattle.text.proofs.fields.is_at.Goals as goal

pub returns-then-text-at : goal.returns-then-text-at
returns-then-text-at c = stands-past c.args.text.now c.args.at c.args.byte c.if-text-at.true

pub returns : goal.returns
returns c = stands-there c.args.text.now c.args.at c.args.byte c.if-text-at.false
