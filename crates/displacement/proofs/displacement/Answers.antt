-- `displacement` meets its contract: a row of a target has values times 16, so the distance has the row's raw number or is refused by it.
use Rattle.std.proofs.Common.{◌≡◌, ℕ, Some, false, sym, ap, ◌∙◌, ap₂, arith, eq-eqb, ne_eqb}
use Rattle.std.proofs.lemmas.Result.{err_from_is_err_and}
use Rattle.std.specs.Option.{option_copied}
use Rattle.std.specs.Result.{result_ok}
use Rattle.answer.specs.Answer.{accepted, bad_value, number_of}
use Rattle.answer.proofs.Laws.{no-acceptance}
use Rattle.form.specs.declared.Form.{Form}
use Rattle.operand.specs.Pattern.{integer_of}
use Rattle.operand.specs.declared.Operand.TheVariants.{ImmI64}
use Rattle.meaning.specs.Meaning.{Raw, operand_for, raw_of}
use Rattle.meaning.specs.inner.Fits.{Fitting}
use Rattle.meaning.specs.declared.Meaning.{Meaning}
use Rattle.meaning.proofs.Inverse.{raw-told}
use Rattle.parts.specs.Placed.{width_of}
use Rattle.row.specs.Row.{is_none, target_row_of}
use Rattle.row.specs.inner.Packed.{Packs}
use Rattle.row.specs.declared.Packed.{Packed}
use Rattle.row.proofs.Rows.{good-has, target-good, target-16}
use Rattle.immediate.specs.Immediate.{raw_for}
use Rattle.displacement.specs.Displacement.{distance, reaching, no_displacement, displacement_of}
use Rattle.displacement.proofs.displacement.Goals as goal

-- the form has a target, whose row this is
module _ (form : Form) (p : Packed) (packs : Packs (Some p) (target_row_of form)) where
  some : is_none (target_row_of form) ≡ false
  some = sym (ap (λ x. x.2) packs)

  means : p.meaning ≡ (target_row_of form).meaning
  means = ap (λ x. x.0.meaning) packs

  width : p.width ≡ width_of (target_row_of form).parts
  width = ap (λ x. x.1) packs

  fitting : Fitting p.meaning p.width
  fitting = rw (means, width) (good-has form.family (target_row_of form) (target-good form) some).fitting

  -- the distance's raw number, or its refusal
  raw-is : (address wanted d : ℕ) → d ≡ distance address wanted → raw_of p.meaning p.width (operand_for p.meaning d) ≡ raw_for (target_row_of form) (reaching address wanted)
  raw-is address wanted d far =
      ap₂ (λ (m : Meaning) (w : ℕ). raw_of m w (operand_for m d)) means width
      ∙ ap (λ (m : Meaning). raw_for (target_row_of form) (operand_for m d)) (target-16 form some)
      ∙ ap (λ (e : ℕ). raw_for (target_row_of form) (ImmI64 (integer_of e))) far

pub raw_of-requires : goal.raw_of-requires
raw_of-requires c =
    let same : option_copied c.packed_target_of.result ≡ Some c.in_ok-row.row.now = ap option_copied (c.ok_or.ensures.ok_part ∙ ap result_ok c.in_ok-row.was) in
    fitting c.args.form c.in_ok-row.row.now (rw same at c.packed_target_of.ensures)

pub returns-in_err-raw_of : goal.returns-in_err-raw_of
unfolding displacement_of
returns-in_err-raw_of c =
    let a = c.args in
    let row = target_row_of a.form in
    let same : option_copied c.packed_target_of.result ≡ Some c.in_ok-row.row.now = ap option_copied (c.ok_or.ensures.ok_part ∙ ap result_ok c.in_ok-row.was) in
    let packs = rw same at c.packed_target_of.ensures in
    let reason = err_from_is_err_and c.from_residual-in_err-raw_of.result c.from_residual-in_err-raw_of.ensures.1 in
    let refusal = c.in_err-raw_of.field-0.0 in
    let is = c.in_err-raw_of.ensures ∙ raw-is a.form c.in_ok-row.row.now packs a.address a.wanted _ (omega arith) in
    let answer : number_of refusal ≡ (raw_for row (reaching a.address a.wanted)).answer = ap (λ (r : Raw). r.answer) is in
    let none : (raw_for row (reaching a.address a.wanted)).answer ≡ accepted → ⊥ = λ q. no-acceptance refusal (answer ∙ q) in
    let six : number_of refusal ≡ bad_value = answer ∙ ap (λ (r : Raw). r.answer) (raw-told row.meaning (width_of row.parts) (reaching a.address a.wanted) none) in
    rw (some a.form c.in_ok-row.row.now packs, eq-eqb _ 0 c.if-address-ne0.false, ne_eqb _ 0 none, reason.1, reason.2) (ap no_displacement six)
