-- The row says whether there is one and whether its values have a sign.
use Rattle.std.proofs.Common.{◌≡◌, true, false, Bool, sym, ap, ◌∙◌}
use Rattle.meaning.specs.Meaning.{has_sign}
use Rattle.row.specs.Row.{Row, is_none, row_of}
use Rattle.row.specs.inner.Packed.{Packs}
use Rattle.row.specs.declared.Packed.{Packed}
use Rattle.std.specs.Prelude.{Some, None}
use Rattle.words.specs.Words.{as_value}
use Rattle.words.proofs.value.Goals as goal

-- whether there is a row
no_row-none : (row : Row) → Packs None row → is_none row ≡ true
no_row-none row h = rw h

a_row : (p : Packed) (row : Row) → Packs (Some p) row → is_none row ≡ false
a_row p row h = sym (ap (λ x. x.2) h)

-- whether its values have a sign
sign-is : (p : Packed) (row : Row) (t : Bool) → Packs (Some p) row → t ≡ has_sign p.meaning → has_sign row.meaning ≡ t
sign-is p row t h s = sym (s ∙ ap (λ x. has_sign x.0.meaning) h)

pub returns-in_default : goal.returns-in_default
unfolding as_value
returns-in_default c = rw (no_row-none (row_of c.args.form) (rw c.in_default.is at c.packed_of.ensures))

pub returns-then-has_sign : goal.returns-then-has_sign
unfolding as_value
returns-then-has_sign c =
    let packs = rw c.in-Some.is at c.packed_of.ensures in
    rw (a_row c.in-Some.row.now (row_of c.args.form) packs, sign-is c.in-Some.row.now (row_of c.args.form) true packs c.if-has_sign.ensures, ← c.number-given.ensures)
    c.signed_by.ensures

pub returns-else-has_sign : goal.returns-else-has_sign
unfolding as_value
returns-else-has_sign c =
    let packs = rw c.in-Some.is at c.packed_of.ensures in
    rw (a_row c.in-Some.row.now (row_of c.args.form) packs, sign-is c.in-Some.row.now (row_of c.args.form) false packs c.if-has_sign.ensures, ← c.number-given.ensures)
    c.unsigned_by.ensures
