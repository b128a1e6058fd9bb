-- When a form's row is read or changed in a slot of a bundle: none of the refusals applies, so the row is sound there. Assumes nothing.
use Rattle.std.proofs.Common.{◌≡◌, ℕ, ◌^◌, ◌<◌, true, false, not, T, eqb, ltb, List, [], ◌∷◌, ◌++◌, sym, refl, ap, ◌∙◌, subst, suc-le-suc, ltb-false, eq-eqb, ne_eqb, eqb-true, Option, Some}
use native.Mathlib.Decide.{ℕ_discrete}
use borrow.Author.Tests.{not-false}
use Rattle.answer.specs.Answer.{Reason, accepted, bad_value, first, outcome, number_of}
use Rattle.answer.specs.declared.Refusal.{Refusal}
use Rattle.answer.proofs.Laws.{none-applies, first_on, first-stop, accepts, refuses, answered, no-acceptance}
use Rattle.bits.specs.Part.{bit}
use Rattle.bits.specs.Parts.{apart_from, meet_not}
use Rattle.bundle.specs.Bundle.{number_at, find_refusals, find_answer, tag_of, unit_at, bundle_refusals, halves_of}
use Rattle.bundle.proofs.Laws.{or-false}
use Rattle.form.specs.declared.Form.{Form}
use Rattle.form.specs.declared.Edit.{Edit}
use Rattle.operand.specs.declared.Operand.{Operand}
use Rattle.parts.specs.Placed.{width_of}
use Rattle.row.specs.Row.{Row, is_none, row_of}
use Rattle.meaning.specs.Meaning.{Raw, Is}
use Rattle.meaning.proofs.Inverse.{raw-told}
use Rattle.row.specs.inner.Packed.{unpacked, Packs}
use Rattle.row.specs.declared.Packed.{Packed}
use Rattle.immediate.specs.inner.Sound.{Sound, SoundIn, written_in}
use Rattle.immediate.specs.Immediate.{fits, read_refusals, Immediate, no_immediate, immediate_in, immediate_of, raw_for, value_refusals, change_refusals, value_in, with_raw, parts_of, changed_number, Changed, no_change, changed_of}
use Rattle.row.proofs.Rows.{good, row-good}
use Rattle.immediate.proofs.Sound.{sound}
use Rattle.immediate.proofs.Written.{read-written, written-lt, bit_kept, tag-kept, written-comm}

-- the row is one, and the form fits the slot
pub record Stands (n slot : ℕ) (form : Form) (row : Row) : Type 0 where
  pub cut : first (bundle_refusals n) ≡ accepted
  pub some : is_none row ≡ false
  pub in-bundle : slot < 3
  pub fit : fits form (unit_at n slot) ≡ true

pub stands : (n slot : ℕ) (form : Form) (row : Row) → first (read_refusals n slot form row) ≡ accepted → Stands n slot form row
stands n slot form row e =
    let none = none-applies (read_refusals n slot form row) tt e in
    let s = or-false (ltb 2 slot) (not (fits form (unit_at n slot))) none.1.1.0 in
    record { cut = rw none.0; some = none.1.0; in-bundle = suc-le-suc (ltb-false 2 slot s.0); fit = not-false _ s.1 }

pub read-sound : (n slot : ℕ) (form : Form) (row : Row) → T (good form.family row) → first (read_refusals n slot form row) ≡ accepted → Sound slot row
read-sound n slot form row g e = let s = stands n slot form row e in sound form row g s.some n slot s.in-bundle s.fit

-- reading answers as `find` does, and then as the bundle does
pub immediate-answer : (code : List ℕ) (k slot : ℕ) (form : Form) → (immediate_of code k slot form).answer ≡ first (find_refusals code k ++ read_refusals (number_at code k) slot form (row_of form))
unfolding immediate_of immediate_in find_answer
immediate-answer code k slot form =
    let finding = find_refusals code k in
    let reading = read_refusals (number_at code k) slot form (row_of form) in
    elim (ℕ_discrete (first finding) accepted) [
      | yes a ↦ rw (accepts (first finding) (immediate_in (number_at code k) slot form) (no_immediate (first finding)) a, first_on finding reading tt a) (answered (λ (i : Immediate). i.answer) (first reading) _ _ refl refl)
      | no d ↦ rw (refuses (first finding) (immediate_in (number_at code k) slot form) (no_immediate (first finding)) d, first-stop finding reading d)
    ]

-- the row that a slot was given is the form's, and sound there
module _ (n slot : ℕ) (form : Form) (row : Row) {packed : Option Packed} {p : Packed} (packs : Packs packed row) (same : packed ≡ Some p) where
  pub row_is : unpacked p ≡ row
  row_is = ap (λ x. x.0) (rw same at packs)

  pub packed-sound : T (good form.family row) → accepted ≡ first (read_refusals n slot form row) → SoundIn slot p
  packed-sound g e =
      let is = rw same at packs in
      (subst (Sound slot) (sym row_is) (read-sound n slot form row g (sym e)), ap (λ x. x.1) is ∙ ap (λ (r : Row). width_of r.parts) (sym row_is))

-- what refuses a call by its number is what the call comes to
pub refused {ℓ} : {A : Type ℓ} (zeros : ℕ → A) (done : A) (refusal : Refusal) (a : ℕ) → number_of refusal ≡ a → zeros (number_of refusal) ≡ outcome a done (zeros a)
refused zeros done refusal a is = ap zeros is ∙ sym (refuses a done (zeros a) (λ e. no-acceptance refusal (is ∙ e)))

-- what changing a bundle comes to, case by case
module _ (n : ℕ) (e : Edit) where
  abbrev row : Row
  row = row_of e.form

  abbrev reading : List Reason
  reading = read_refusals n e.slot e.form row

  pub unchanged-by : (a : ℕ) → first (change_refusals n e) ≡ a → (a ≡ accepted → ⊥) → no_change a ≡ changed_of n e
  unfolding changed_of
  unchanged-by a q d = ap no_change (sym q) ∙ sym (refuses (first (change_refusals n e)) _ _ (λ p. d (sym q ∙ p)))

  pub changed-answer : (changed_of n e).answer ≡ first (change_refusals n e)
  unfolding changed_of
  changed-answer = answered (λ (c : Changed). c.answer) (first (change_refusals n e)) _ _ refl refl

  pub changed-taken : first (change_refusals n e) ≡ accepted → changed_of n e ≡ record { answer = accepted; bundle = halves_of (changed_number n e) }
  unfolding changed_of
  changed-taken q = accepts _ _ _ q

  pub not-read : (first reading ≡ accepted → ⊥) → first (change_refusals n e) ≡ first reading
  not-read d = first-stop reading (value_refusals row e.value) d

  pub changed-refused : (refusal : Refusal) → number_of refusal ≡ first reading → no_change (number_of refusal) ≡ changed_of n e
  changed-refused refusal is = unchanged-by _ (not-read (λ q. no-acceptance refusal (is ∙ q)) ∙ sym is) (no-acceptance refusal)

  module _ (read : first reading ≡ accepted) where
    pub no-raw : ((raw_for row e.value).answer ≡ accepted → ⊥) → first (change_refusals n e) ≡ bad_value
    no-raw d = first_on reading (value_refusals row e.value) tt read ∙ rw (ne_eqb _ accepted d)

    pub changed-done : (raw_for row e.value).answer ≡ accepted → changed_of n e ≡ record { answer = accepted; bundle = halves_of (changed_number n e) }
    changed-done q = changed-taken (first_on reading (value_refusals row e.value) tt read ∙ rw (eq-eqb _ accepted q))

    -- it is the value written in the row's parts
    pub changed-written : written_in row e.slot n e.value ≡ changed_of n e
    changed-written =
        let raw = raw_for row e.value in
        elim (ℕ_discrete raw.answer accepted) [
          | yes q ↦ accepts raw.answer _ _ q ∙ sym (changed-done q)
          | no d ↦
              let six = ap (λ (x : Raw). x.answer) (raw-told row.meaning (width_of row.parts) e.value d) in
              refuses raw.answer _ _ d ∙ unchanged-by raw.answer (no-raw d ∙ sym six) d
        ]

-- of an edit's bundle a change doesn't look at the number, and of its value at the raw number alone
pub changed-by-raw : (n j k slot : ℕ) (form : Form) (v u : Operand) → raw_for (row_of form) v ≡ raw_for (row_of form) u
    → changed_of n (record { bundle = j; slot = slot; form = form; value = v }) ≡ changed_of n (record { bundle = k; slot = slot; form = form; value = u })
unfolding changed_of
changed-by-raw n j k slot form v u e =
    ap
    (λ (raw : Raw). let answer = first (read_refusals n slot form (row_of form) ++ (bad_value, not (eqb raw.answer accepted)) ∷ []) in
    outcome answer (record { answer = accepted; bundle = halves_of (with_raw (row_of form) slot n raw.raw) }) (no_change answer))
    e

-- an edit that a bundle takes: its row stands in its slot, and its value has a raw number
module _ (n : ℕ) (e : Edit) (taken : first (change_refusals n e) ≡ accepted) where
  pub change-read : first (read_refusals n e.slot e.form (row_of e.form)) ≡ accepted
  change-read = let none = none-applies (change_refusals n e) tt taken in rw (none.0, none.1.0, none.1.1.0)

  pub change-sound : Sound e.slot (row_of e.form)
  change-sound = read-sound n e.slot e.form (row_of e.form) (row-good e.form) change-read

  pub change-raw : raw_for (row_of e.form) e.value ≡ Is (raw_for (row_of e.form) e.value).raw
  change-raw =
      let answer = eqb-true (raw_for (row_of e.form) e.value).answer accepted (not-false _ (none-applies (change_refusals n e) tt taken).1.1.1.0) in
      λ i. record { answer = answer i; raw = (raw_for (row_of e.form) e.value).raw }

  -- the changed bundle reads as the edit's value, and is a number below 2 ^ 128
  pub changed-value : value_in (row_of e.form) e.slot (changed_number n e) ≡ e.value
  changed-value = read-written e.slot (row_of e.form) change-sound n _ e.value change-raw

  pub changed-lt : n < 2 ^ 128 → changed_number n e < 2 ^ 128
  changed-lt h = written-lt e.slot (row_of e.form) change-sound n _ h

-- no bit outside the edit's parts changes
pub changed-bit : (n : ℕ) (e : Edit) (i : ℕ) → T (apart_from (i, 1) (parts_of e)) → bit (changed_number n e) i ≡ bit n i
changed-bit n e i t = bit_kept e.slot (row_of e.form) n _ i t

-- the tag stays
pub changed-tag : (n : ℕ) (e : Edit) → tag_of (changed_number n e) ≡ tag_of n
changed-tag n e = tag-kept e.slot (row_of e.form) n _

-- edits that have no bit in common can be made in either order
pub changed-comm : (n : ℕ) (d e : Edit) → T (meet_not (parts_of d) (parts_of e)) → changed_number (changed_number n e) d ≡ changed_number (changed_number n d) e
changed-comm n d e t = written-comm e.slot d.slot (row_of e.form) (row_of d.form) n _ _ t
