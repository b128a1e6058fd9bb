-- Each arm is the definition's case.
use Rattle.std.proofs.Common.{sym}
use Rattle.words.specs.Words.{as_place}
use Rattle.words.proofs.place.Goals as goal

pub returns-in_err-n : goal.returns-in_err-n
unfolding as_place
returns-in_err-n c = rw (sym c.in_err-n.ensures) c.from_residual.ensures

pub returns-in-Unsigned : goal.returns-in-Unsigned
unfolding as_place
returns-in-Unsigned c = rw (sym c.in_ok-n.ensures, c.in-Unsigned.is) c.place_of.ensures

pub returns-in-Negative : goal.returns-in-Negative
unfolding as_place
returns-in-Negative c = rw (sym c.in_ok-n.ensures, c.in-Negative.is)
