-- A line is what its three parts tell. Assumes nothing.
use mathlib.Core.Path.{sym}
use native.Mathlib.Omega.{arith}
use Rattle.std.specs.Prelude.{Some}
use Rattle.text.proofs.Stored.{none_read, all_read}
use Rattle.sheet.specs.Load.{front_ends, ends, read_as}
use Rattle.sheet.proofs.line.read_full.Goals as goal

pub returns-in_err-front : goal.returns-in_err-front
unfolding read_as
returns-in_err-front c = rw (none_read _ _ front_ends c.in_err-front.ensures) c.from_residual.ensures

pub returns-in_err-form : goal.returns-in_err-form
unfolding read_as
returns-in_err-form c =
    let front = all_read _ _ front_ends _ _ (omega arith) c.in_ok-front.ensures in
    rw (front.found, sym c.in_err-form.ensures) c.from_residual-in_err-form.ensures

pub returns-in_err-of : goal.returns-in_err-of
unfolding read_as
returns-in_err-of c =
    let front = all_read _ _ front_ends _ _ (omega arith) c.in_ok-front.ensures in
    rw (front.found, sym c.in_ok-form.ensures, none_read _ _ ends c.in_err-of.ensures) c.from_residual-in_err-of.ensures

pub returns : goal.returns
unfolding read_as
returns c =
    let d = all_read _ _ front_ends _ _ (omega arith) c.in_ok-front.ensures in
    let t = all_read _ _ ends _ _ (omega arith) c.in_ok-of.ensures in
    rw (d.found, sym c.in_ok-form.ensures, t.found, c.halves_in.ensures)
    (λ j. Some (record { party = c.args.party; bundle = d.looked 0 j; slot = d.looked 1 j; form = c.in_ok-form.form; value = t.looked 0 j; old = record { low = t.looked 1 j; high = t.looked 2 j }; new = record { low = t.looked 3 j; high = t.looked 4 j } }, c.in_ok-of.end))
