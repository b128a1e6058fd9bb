-- What is read goes by the first byte.
use Rattle.std.proofs.Common.{sym, ◌∙◌}
use lib.ListN.{get_or-eq_default}
use Rattle.name.specs.Name.{name_at}
use Rattle.name.proofs.Names.{name-dash, name-other, name-number, name-no-number}
use Rattle.name.proofs.read_name.Goals as goal

pub returns-then-text-at : goal.returns-then-text-at
unfolding name_at
returns-then-text-at c = rw (get_or-eq_default c.args.text.now 0 c.if-text-at.true)

pub returns-then-family-eq-DASH : goal.returns-then-family-eq-DASH
returns-then-family-eq-DASH c = sym (name-dash c.args.text.now c.args.at (rw c.from-family.ensures at c.if-family-eq-DASH.true))

pub returns-then-not-is_letter : goal.returns-then-not-is_letter
returns-then-not-is_letter c =
    let f = c.from-family.ensures in
    sym (name-other c.args.text.now c.args.at (rw f at c.if-family-eq-DASH.false) (rw f at (sym c.if-not-is_letter.ensures)))

pub returns-in_err-number : goal.returns-in_err-number
returns-in_err-number c =
    let f = c.from-family.ensures in
    c.from_residual.ensures ∙ sym (name-no-number c.args.text.now c.args.at (rw f at c.if-family-eq-DASH.false) (rw f at (sym c.if-not-is_letter.ensures)) (sym c.in_err-number.ensures))

pub returns : goal.returns
returns c =
    let f = c.from-family.ensures in
    rw f (sym (name-number c.args.text.now c.args.at (rw f at c.if-family-eq-DASH.false) (rw f at (sym c.if-not-is_letter.ensures)) _ _ (sym c.in_ok-number.ensures)))
