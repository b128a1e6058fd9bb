-- `packed_of` meets its contract: a family that no arm names stands in no line.
use borrow.Author.Tests.{ne_eqb}
use Rattle.row.specs.Row.{row_of}
use Rattle.row.proofs.packed_of.Goals as goal

pub returns-in_default : goal.returns-in_default
unfolding row_of
returns-in_default c =
    let r = c.in_default.in_default-own.rest in
    rw (ne_eqb _ 65 r.0.0.0.0.0.1, ne_eqb _ 66 r.0.0.0.0.1, ne_eqb _ 70 r.0.0.0.1, ne_eqb _ 73 r.0.0.1, ne_eqb _ 77 r.0.1, ne_eqb _ 88 r.1)
