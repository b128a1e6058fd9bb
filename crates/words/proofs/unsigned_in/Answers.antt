-- A word that begins as hex has what comes after that.
use Rattle.std.proofs.Common.{◌≤◌, length, sym, ap, ◌∙◌, arith}
use Rattle.words.specs.Number.{hex_in, unsigned_in}
use Rattle.words.proofs.Beginnings.{rest, hex-long}
use Rattle.words.proofs.unsigned_in.Goals as goal

pub slice_bounds-hex_in-count : goal.slice_bounds-hex_in-count
slice_bounds-hex_in-count c = hex-long c.args.word.now (sym c.if-is_hex.ensures)

pub slice_bounds-hex_in-start : goal.slice_bounds-hex_in-start
slice_bounds-hex_in-start c =
    let long : 2 ≤ length c.args.word.now = hex-long c.args.word.now (sym c.if-is_hex.ensures) in
    omega arith

pub returns-then-is_hex : goal.returns-then-is_hex
unfolding unsigned_in
returns-then-is_hex c = rw (sym c.if-is_hex.ensures) (c.hex_in.ensures ∙ ap hex_in (rest 2 c.args.word.now))

pub returns : goal.returns
unfolding unsigned_in
returns c = rw (sym c.if-is_hex.ensures) c.decimal_in.ensures
