-- A case of writing a whole text at each return. Assumes nothing.
use mathlib.Core.Path.{refl}
use native.Mathlib.Omega.{arith}
use Rattle.text.proofs.Wholes.{whole-no-room, whole-put}
use Rattle.sheet.proofs.numbered.write_numbered.Goals as goal

pub returns-then-out-put_numbered : goal.returns-then-out-put_numbered
returns-then-out-put_numbered c = whole-no-room _ _ _ tt refl (omega (arith, c.put_numbered.ensures.place, c.if-out-put_numbered.true))

pub returns : goal.returns
returns c = whole-put _ _ _ tt refl (omega arith) (omega (arith, c.put_numbered.ensures.place, c.if-out-put_numbered.false)) c.put_numbered-length.ensures
