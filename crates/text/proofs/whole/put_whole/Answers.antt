-- The two returns are the cases of no refusal before.
use Rattle.std.proofs.Common.{[], refl, arith}
use Rattle.text.proofs.Wholes.{whole-no-room, whole-put}
use Rattle.text.proofs.whole.put_whole.Goals as goal

pub returns-then-out-text : goal.returns-then-out-text
returns-then-out-text c = whole-no-room [] _ _ tt refl c.if-out-text.true

pub returns : goal.returns
returns c = whole-put [] _ _ tt refl (omega arith) c.if-out-text.false c.put_text.ensures
