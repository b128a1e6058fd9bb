-- `change` meets its contract: a value of the row's kind is the one with its pattern, and any other has no raw number.
use Rattle.std.proofs.Common.{◌≡◌, ℕ, Bool, true, false, ℤ, sym, refl, ap, ◌∙◌, ⊎_elim, Err, w64, SFits, ne_eqb}
use Rattle.std.proofs.lemmas.Result.{err_from_is_err_and}
use borrow.Author.Tests.{eqb-false}
use Rattle.answer.specs.Answer.{accepted, bad_value, number_of}
use Rattle.answer.specs.declared.Refusal.{Refusal}
use Rattle.answer.proofs.Laws.{no-acceptance}
use Rattle.bundle.specs.Bundle.{whole}
use Rattle.operand.specs.Pattern.{pattern_of}
use Rattle.operand.specs.declared.Operand.{Operand}
use Rattle.operand.specs.declared.Operand.TheVariants.{ImmI64}
use Rattle.operand.proofs.Kind.{i64-or-not, u64-or-not}
use Rattle.parts.specs.Placed.{width_of}
use Rattle.meaning.specs.Meaning.{Taken, Raw, has_sign, operand_for, Out, Other, taken_by, taken_of, as_taken, Bad, raw_of}
use Rattle.meaning.specs.declared.Meaning.{Meaning}
use Rattle.meaning.proofs.Patterns.{raw_of-none, raw_of-taken}
use Rattle.row.specs.Row.{Row, row_of}
use Rattle.row.proofs.Rows.{row-good}
use Rattle.immediate.specs.Immediate.{raw_for, edit_by_pattern}
use Rattle.immediate.specs.inner.Sound.{written_in}
use Rattle.immediate.proofs.Laws.{row_is, packed-sound, unchanged-by, changed-refused, no-raw, changed-written, changed-by-raw}
use Rattle.immediate.proofs.change.Goals as goal

-- a value that is handed over is one of 64 bits
abbrev Held : Operand → Type 0
Held v = (z : ℤ) → v ≡ ImmI64 z → SFits w64 z

module _ (m : Meaning) (w : ℕ) (v : Operand) (held : Held v) where
  -- what is taken out of a value has its raw number
  told : (pattern : ℕ) → Out pattern ≡ taken_of m v → raw_of m w (operand_for m pattern) ≡ raw_of m w v
  told pattern out = rw (← out) at (raw_of-taken v held m w)

  -- and a value of another kind has none
  none : (refusal : Refusal) → as_taken (Err refusal) ≡ taken_of m v → raw_of m w v ≡ Bad
  none refusal out = sym (rw (← out, ne_eqb (number_of refusal) accepted (no-acceptance refusal)) at (raw_of-taken v held m w)) ∙ raw_of-none m w

-- which is refused by 6
six_lem : (signed : Bool) (v : Operand) (refusal : Refusal) → as_taken (Err refusal) ≡ taken_by signed v → number_of refusal ≡ bad_value
six_lem true v refusal out =
    ⊎_elim (λ k. absurd (no-acceptance refusal (ap (λ (t : Taken). t.answer) (out ∙ ap (taken_by true) k.1)))) (λ n. ap (λ (t : Taken). t.answer) (out ∙ n)) (i64-or-not v (λ z. Out (pattern_of z)) Other)
six_lem false v refusal out =
    ⊎_elim (λ k. absurd (no-acceptance refusal (ap (λ (t : Taken). t.answer) (out ∙ ap (taken_by false) k.1)))) (λ n. ap (λ (t : Taken). t.answer) (out ∙ n)) (u64-or-not v Out Other)

pub returns-in_err-row : goal.returns-in_err-row
returns-in_err-row c =
    let a = c.args in
    let reason = err_from_is_err_and c.from_residual.result c.from_residual.ensures.1 in
    rw (reason.1, reason.2) (changed-refused (whole a.bundle) a.edit _ (c.in_err-row.ensures.answer (row_of a.edit.form) c.packed_of.ensures))

pub returns-in_err-pattern : goal.returns-in_err-pattern
returns-in_err-pattern c =
    let a = c.args in
    let n = whole a.bundle in
    let e = a.edit in
    let row = row_of e.form in
    let ok = c.in_ok-row.ensures in
    let held : Held e.value = λ z is. let value = rw is at c.well_formed.1.0.1.1.1.1.1.0 in record { sfits = value.1.1.1.1.0.1 } in
    let reason = err_from_is_err_and c.from_residual-in_err-pattern.result c.from_residual-in_err-pattern.ensures.1 in
    let refusal = c.in_err-pattern.field-0.0 in
    let means = ap (λ (r : Row). r.meaning) (row_is n e.slot e.form row c.packed_of.ensures ok.same) in
    let out : as_taken (Err refusal) ≡ taken_of row.meaning e.value = rw (← means) c.in_err-pattern.ensures in
    let bad : (raw_for row e.value).answer ≡ bad_value = ap (λ (x : Raw). x.answer) (none row.meaning (width_of row.parts) e.value held refusal out) in
    let six = six_lem (has_sign row.meaning) e.value refusal out in
    rw (reason.1, reason.2)
    (unchanged-by n e _ (no-raw n e (sym (ok.answer row c.packed_of.ensures)) (λ q. eqb-false bad_value accepted refl (sym bad ∙ q)) ∙ sym six) (no-acceptance refusal))

pub with_value-requires : goal.with_value-requires
with_value-requires c =
    let a = c.args in
    let ok = c.in_ok-row.ensures in
    let e = a.edit in
    packed-sound (whole a.bundle) e.slot e.form (row_of e.form) c.packed_of.ensures ok.same (row-good e.form) (ok.answer (row_of e.form) c.packed_of.ensures)

pub returns : goal.returns
returns c =
    let a = c.args in
    let n = whole a.bundle in
    let e = a.edit in
    let row = row_of e.form in
    let ok = c.in_ok-row.ensures in
    let held : Held e.value = λ z is. let value = rw is at c.well_formed.1.0.1.1.1.1.1.0 in record { sfits = value.1.1.1.1.0.1 } in
    let pattern = c.in_ok-pattern.pattern in
    let same = row_is n e.slot e.form row c.packed_of.ensures ok.same in
    let means = ap (λ (r : Row). r.meaning) same in
    let out : Out pattern ≡ taken_of row.meaning e.value = rw (← means) c.in_ok-pattern.ensures in
    c.with_value.ensures
    ∙ ap (λ (r : Row). written_in r e.slot n (operand_for r.meaning pattern)) same
    ∙ changed-written n (edit_by_pattern e.bundle e.slot e.form pattern) (sym (ok.answer row c.packed_of.ensures))
    ∙ changed-by-raw n e.bundle e.bundle e.slot e.form _ _ (told row.meaning (width_of row.parts) e.value held pattern out)
