-- The number stands there, and whether the word ends after it.
use Rattle.std.proofs.Common.{sym, eq-eqb, ne_eqb}
use Rattle.words.specs.Number.{decimal_in}
use Rattle.words.proofs.decimal_in.Goals as goal

pub returns-in_err-n : goal.returns-in_err-n
unfolding decimal_in
returns-in_err-n c = rw (c.from_residual.ensures, sym c.in_err-n.ensures)

pub returns-then-end-word : goal.returns-then-end-word
unfolding decimal_in
returns-then-end-word c = rw (sym c.in_ok-n.ensures, eq-eqb _ _ c.if-end-word.true)

pub returns-else-end-word : goal.returns-else-end-word
unfolding decimal_in
returns-else-end-word c = rw (sym c.in_ok-n.ensures, ne_eqb _ _ c.if-end-word.false)
