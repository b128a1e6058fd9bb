-- `target_in` meets its contract: a row that stands in the slot is sound there, and its displacement is added to the address.
use Rattle.std.proofs.Common.{◌≡◌, ℕ, ◌+◌, ◌%◌, ◌^◌, not, eqb, List, [], ◌∷◌, ◌++◌, sym, ap, ◌∙◌, eq-eqb, ne_eqb}
use Rattle.std.proofs.lemmas.Result.{err_from_is_err_and}
use Rattle.answer.specs.Answer.{Reason, accepted, bad_value, first}
use Rattle.answer.specs.declared.Refusal.TheVariants.{BadValue}
use Rattle.answer.proofs.Laws.{accepts, first_on, first-stop, no-acceptance}
use Rattle.bundle.specs.Bundle.{whole}
use Rattle.operand.specs.Pattern.{pattern_of}
use Rattle.row.specs.Row.{Row, target_row_of}
use Rattle.form.specs.declared.Form.{Form}
use Rattle.row.proofs.Rows.{target-good, target-16}
use Rattle.immediate.specs.Immediate.{read_refusals, displacement_in, no_target, target_in}
use Rattle.immediate.proofs.Laws.{stands, row_is, packed-sound, refused}
use Rattle.immediate.proofs.target_in.Goals as goal

abbrev reading : ℕ → ℕ → Form → List Reason
reading n slot form = read_refusals n slot form (target_row_of form)

abbrev odd : ℕ → List Reason
odd address = (bad_value, not (eqb (address % 16) 0)) ∷ []

pub returns-in_err-row : goal.returns-in_err-row
unfolding target_in
returns-in_err-row c =
    let a = c.args in
    let reason = err_from_is_err_and c.from_residual.result c.from_residual.ensures.1 in
    let is = c.in_err-row.ensures.answer (target_row_of a.form) c.packed_target_of.ensures in
    rw (reason.1, reason.2) (refused no_target _ _ _ (is ∙ sym (first-stop (reading (whole a.bundle) a.slot a.form) (odd a.address) (λ e. no-acceptance _ (is ∙ e)))))

pub returns-then-address-ne0 : goal.returns-then-address-ne0
unfolding target_in
returns-then-address-ne0 c =
    let a = c.args in
    let read = sym (c.in_ok-row.ensures.answer (target_row_of a.form) c.packed_target_of.ensures) in
    let six : first (reading (whole a.bundle) a.slot a.form ++ odd a.address) ≡ bad_value =
    first_on (reading (whole a.bundle) a.slot a.form) (odd a.address) tt read ∙ rw (ne_eqb _ 0 c.if-address-ne0.true) in
    refused no_target _ BadValue _ (sym six)

pub displacement_in-requires : goal.displacement_in-requires
displacement_in-requires c =
    let a = c.args in
    let n = whole a.bundle in
    let row = target_row_of a.form in
    let ok = c.in_ok-row.ensures in
    let packs = c.packed_target_of.ensures in
    let read = ok.answer row packs in (
      packed-sound n a.slot a.form row packs ok.same (target-good a.form) read,
      ap (λ (r : Row). r.meaning) (row_is n a.slot a.form row packs ok.same) ∙ target-16 a.form (stands n a.slot a.form row (sym read)).some,
    )

pub returns : goal.returns
unfolding target_in
returns c =
    let a = c.args in
    let n = whole a.bundle in
    let row = target_row_of a.form in
    let ok = c.in_ok-row.ensures in
    let packs = c.packed_target_of.ensures in
    let done : first (reading n a.slot a.form ++ odd a.address) ≡ accepted =
    first_on (reading n a.slot a.form) (odd a.address) tt (sym (ok.answer row packs)) ∙ rw (eq-eqb _ 0 c.if-address-ne0.false) in
    let displacement = c.displacement_in.ensures ∙ ap (λ (r : Row). pattern_of (displacement_in r a.slot n)) (row_is n a.slot a.form row packs ok.same) in
    let address = ap (λ (d : ℕ). (a.address + d) % 2 ^ 64) displacement in
    (λ i. record { answer = accepted; address = address i }) ∙ sym (accepts _ _ _ done)
