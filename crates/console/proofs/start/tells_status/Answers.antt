-- Its tests are the definition's. Assumes nothing.
use Rattle.text.proofs.RoundTrip.{same-as}
use Rattle.console.proofs.start.tells_status.Goals as goal

pub returns : goal.returns
returns c = rw (same-as _ _ _ c.same.ensures.0 c.same.ensures.1, c.is_descriptor.ensures)
