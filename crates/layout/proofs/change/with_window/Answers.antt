-- A case of writing a whole text at each return.
use Rattle.std.proofs.Common.{arith, refl, sym}
use Rattle.text.proofs.Wholes.{whole-no-room, whole-put}
use Rattle.layout.specs.Read.{layout_in}
use Rattle.layout.proofs.change.with_window.Goals as goal

pub returns-in_default : goal.returns-in_default
unfolding layout_in
returns-in_default c = rw (sym c.in_default.ensures)

pub returns-then-out-put_layout : goal.returns-then-out-put_layout
unfolding layout_in
returns-then-out-put_layout c =
    rw (sym c.in-Some.ensures) (whole-no-room _ _ _ tt refl (omega (arith, c.put_layout.ensures.place, c.if-out-put_layout.true)))

pub returns : goal.returns
unfolding layout_in
returns c =
    rw (sym c.in-Some.ensures)
    (whole-put _ _ _ tt refl (omega arith) (omega (arith, c.put_layout.ensures.place, c.if-out-put_layout.false)) c.put_layout-2.ensures)
