-- Each return has the tests that led there.
use borrow.Author.Tests.{lt-ltb, le-ltb, ne_eqb}
use Rattle.hex_text.specs.Hex.{pair_of}
use Rattle.hex_text.proofs.pair.Goals as goal
use Rattle.hex_text.proofs.pair.Goals.{then-high-gt15-via-then-high-gt15, then-high-gt15-via-else-high-gt15+then-low-gt15}

pub returns-then-high-gt15 : goal.returns-then-high-gt15
unfolding pair_of
returns-then-high-gt15 c =
    elim c.then-high-gt15.branch [
      | then-high-gt15-via-then-high-gt15 w ↦ rw (lt-ltb 15 c.args.high w.if-high-gt15.true)
      | then-high-gt15-via-else-high-gt15+then-low-gt15 w ↦ rw (le-ltb 15 c.args.high w.if-high-gt15.false, lt-ltb 15 c.args.low w.if-low-gt15.true)
    ]

pub returns-then-room-eq0 : goal.returns-then-room-eq0
unfolding pair_of
returns-then-room-eq0 c = rw (le-ltb 15 c.args.high c.if-high-gt15.false, le-ltb 15 c.args.low c.if-low-gt15.false, c.if-room-eq0.true)

pub returns-then-ends : goal.returns-then-ends
unfolding pair_of
returns-then-ends c =
    rw (le-ltb 15 c.args.high c.if-high-gt15.false, le-ltb 15 c.args.low c.if-low-gt15.false, ne_eqb c.args.room 0 c.if-room-eq0.false, c.if-ends.true)

pub returns-else-ends : goal.returns-else-ends
unfolding pair_of
returns-else-ends c =
    rw (le-ltb 15 c.args.high c.if-high-gt15.false, le-ltb 15 c.args.low c.if-low-gt15.false, ne_eqb c.args.room 0 c.if-room-eq0.false, c.if-ends.false)
