-- A case of writing a whole text at each return.
use Rattle.std.proofs.Common.{arith, refl, sym}
use borrow.Author.Tests.{leb-true, leb-false, eqb-false}
use Rattle.answer.specs.Answer.{accepted, too_long}
use Rattle.text.proofs.Wholes.{whole-refused, whole-no-room, whole-put}
use Rattle.lister.specs.Listing.{list_refusals}
use Rattle.lister.proofs.Listings.{short-listed, long-refused}
use Rattle.lister.proofs.list.Goals as goal

pub returns-then-code-gt-LONGEST_CODE : goal.returns-then-code-gt-LONGEST_CODE
returns-then-code-gt-LONGEST_CODE c =
    whole-refused (list_refusals c.args.code.now) _ _ too_long (long-refused c.args.code.now c.if-code-gt-LONGEST_CODE.true) (eqb-false too_long accepted refl)

pub returns-then-fits : goal.returns-then-fits
returns-then-fits c =
    whole-put (list_refusals c.args.code.now) _ _ tt (short-listed c.args.code.now c.if-code-gt-LONGEST_CODE.false) (omega arith) (leb-true _ _ (sym c.if-fits.ensures)) c.write.ensures

pub returns : goal.returns
returns c =
    whole-no-room (list_refusals c.args.code.now) _ _ tt (short-listed c.args.code.now c.if-code-gt-LONGEST_CODE.false) (leb-false _ _ (sym c.if-fits.ensures))
