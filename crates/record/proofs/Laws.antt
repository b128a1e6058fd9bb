-- What is so of records that pass, and that the record of an accepted edit passes: it tells of that edit, by the pattern of its value, and
-- its halves are the bundle's. Assumes nothing.
use mathlib.Core.Path.{◌≡◌, refl, sym, ap, ap₂, ◌∙◌, subst}
use mathlib.Core.Bool.{Bool, true, false, ◌&&◌, ◌||◌, or-true}
use mathlib.Core.Logic.{◌⊎◌, inl, inr, ⊎_elim}
use Prim.Native.Nat.{ℕ, ◌≤◌, ◌<◌, ◌^◌}
use borrow.Author.Tests.{eq-eqb}
use lib.Dec.{T, leb, eqb→eq}
use lib.Ieee.Fits.{and_l, and_r}
use Rattle.answer.specs.Answer.{accepted, first}
use Rattle.bundle.specs.Bundle.{halves_of, whole}
use Rattle.bundle.specs.declared.half.Halves.{Halves}
use Rattle.bundle.proofs.Whole.{whole-halves}
use Rattle.form.specs.Form.{no_form}
use Rattle.form.specs.declared.Edit.{Edit}
use Rattle.operand.specs.Pattern.{pattern_in}
use Rattle.meaning.specs.Meaning.{operand_for}
use Rattle.meaning.proofs.Patterns.{operand-of-pattern}
use Rattle.row.specs.Row.{row_of}
use Rattle.row.proofs.Lettered.{row-lettered}
use Rattle.immediate.specs.Immediate.{change_refusals, changed_number, Changed, changed_of}
use Rattle.immediate.proofs.Laws.{Stands, stands, changed-answer, changed-taken, change-read, change-sound, change-raw}
use Rattle.record.specs.Record.{highest, edit_record, whole_record, is_whole, same_halves, no_record, no_halves, is_free, recorded_edit, gives, passes, may_stand}
use Rattle.record.specs.declared.Record.{Record}

-- the same halves, both ways
pub same-halves : (h : Halves) → same_halves h h ≡ true
same-halves h = ap₂ (λ (a b : Bool). a && b) (eq-eqb h.low h.low refl) (eq-eqb h.high h.high refl)

pub halves-same : (a b : Halves) → T (same_halves a b) → a ≡ b
halves-same a b t =
    let low = eqb→eq a.low b.low (search (and_l, and_r)) in
    let high = eqb→eq a.high b.high (search (and_l, and_r)) in
    λ i. record { low = low i; high = high i }

-- a record of a whole bundle is the one of its bundles
pub whole_is : (r : Record) → T (is_whole r) → r ≡ whole_record r.party r.bundle r.old r.new
whole_is r t =
    let slot = eqb→eq r.slot 0 (search (and_l, and_r)) in
    let family = eqb→eq r.form.family 0 (search (and_l, and_r)) in
    let number = eqb→eq r.form.number 0 (search (and_l, and_r)) in
    let value = eqb→eq r.value 0 (search (and_l, and_r)) in
    λ i. record { party = r.party; bundle = r.bundle; slot = slot i; form = record { family = family i; number = number i }; value = value i; old = r.old; new = r.new }

-- and it passes
pub whole-passes : (party bundle : ℕ) (old new : Halves) → passes (whole_record party bundle old new) ≡ true
unfolding passes
whole-passes party bundle old new = refl

-- a free place holds no record
pub free-is-none : (r : Record) → T (is_free r) → r ≡ no_record
free-is-none r t =
    let party = eqb→eq r.party 0 (search (and_l, and_r)) in
    let bundle = eqb→eq r.bundle 0 (search (and_l, and_r)) in
    let old = halves-same r.old no_halves (search (and_l, and_r)) in
    let new = halves-same r.new no_halves (search (and_l, and_r)) in
    whole_is r (search (and_l, and_r)) ∙ (λ i. whole_record (party i) (bundle i) (old i) (new i))

-- a record that passes is one of a whole bundle, or its edit is taken
either : (a b : Bool) → (a || b) ≡ true → (a ≡ true) ⊎ (b ≡ true)
either true b e = inl refl
either false b e = inr e

pub passes-by : (r : Record) → passes r ≡ true → (is_whole r ≡ true) ⊎ (first (change_refusals (whole r.old) (recorded_edit r)) ≡ accepted)
unfolding passes
passes-by r e =
    let changed = changed_of (whole r.old) (recorded_edit r) in
    ⊎_elim inl
    (λ g.
    let t : T (gives changed r.new) = subst T (sym g) tt in
    inr (sym (changed-answer (whole r.old) (recorded_edit r)) ∙ eqb→eq changed.answer accepted (search (and_l, and_r))))
    (either (is_whole r) (gives changed r.new) e)

-- an edit that a bundle takes
module _ (n : ℕ) (e : Edit) (taken : first (change_refusals n e) ≡ accepted) where
  stood : Stands n e.slot e.form (row_of e.form)
  stood = stands n e.slot e.form (row_of e.form) (change-read n e taken)

  -- its slot is one of three, its form has a capital letter and a number of at most 48, and its value is told by a pattern of 64 bits
  pub edit-slot : e.slot < 3
  edit-slot = stood.in-bundle

  pub edit-form : (65 ≤ e.form.family) × (e.form.family ≤ 90) × (e.form.number ≤ 48)
  edit-form = row-lettered e.form stood.some

  edit-value : (operand_for (row_of e.form).meaning (pattern_in e.value) ≡ e.value) × (pattern_in e.value < 2 ^ 64)
  edit-value =
      operand-of-pattern (row_of e.form).meaning _ _ e.value (change-sound n e taken).fitting (change-raw n e taken)

  pub edit-pattern : pattern_in e.value < 2 ^ 64
  edit-pattern = edit-value.1

  -- its record tells of it
  pub edit-told : (party : ℕ) → recorded_edit (edit_record party n e) ≡ e
  edit-told party = λ i. record { bundle = e.bundle; slot = e.slot; form = e.form; value = edit-value.0 i }

  pub edit-passes : (party : ℕ) → n < 2 ^ 128 → passes (edit_record party n e) ≡ true
  unfolding passes
  edit-passes party h =
      ap (λ (b : Bool). is_whole (edit_record party n e) || b)
      (ap₂ (λ (m : ℕ) (f : Edit). gives (changed_of m f) (halves_of (changed_number n e))) (whole-halves n h) (edit-told party)
      ∙ ap (λ (c : Changed). gives c (halves_of (changed_number n e))) (changed-taken n e taken)
      ∙ same-halves (halves_of (changed_number n e)))
      ∙ or-true (is_whole (edit_record party n e))

-- a record that passes has no form, or one with a capital letter and a number of at most 48
pub passes-form : (r : Record) → passes r ≡ true → (r.form ≡ no_form) ⊎ ((65 ≤ r.form.family) × (r.form.family ≤ 90) × (r.form.number ≤ 48))
passes-form r e =
    ⊎_elim (λ w. inl (ap (λ (q : Record). q.form) (whole_is r (subst T (sym w) tt)))) (λ t. inr (edit-form (whole r.old) (recorded_edit r) t)) (passes-by r e)

-- a record that may stand in a party's journal
module _ (party : ℕ) (r : Record) (m : T (may_stand party r)) where
  pub may-near : T (leb r.bundle highest)
  may-near = search (and_l, and_r)

  pub may-passes : T (passes r)
  may-passes = search (and_l, and_r)

  pub may-party : r.party ≡ party
  may-party = eqb→eq r.party party (search (and_l, and_r))
