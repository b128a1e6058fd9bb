-- A case of writing a whole text at each return. Assumes nothing.
use mathlib.Core.Path.{refl, sym, ◌∙◌}
use native.Mathlib.Omega.{arith}
use borrow.Author.Tests.{leb-true, leb-false}
use Rattle.text.proofs.Wholes.{whole-no-room, whole-put}
use Rattle.sheet.proofs.write_own.Goals as goal

pub returns-then-fits : goal.returns-then-fits
returns-then-fits c = whole-put _ _ _ tt refl (omega arith) (leb-true _ _ (sym c.fits.ensures ∙ c.if-fits.true)) c.put_sheet.ensures

pub returns : goal.returns
returns c = whole-no-room _ _ _ tt refl (leb-false _ _ (sym c.fits.ensures ∙ c.if-fits.false))
