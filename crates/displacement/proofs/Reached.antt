-- Displacements and targets undo each other: a row of a target has values times 16, so the value that a bundle reads is the displacement
-- which the target adds to the address; and adding a distance that wraps undoes taking it. Assumes nothing.
use Rattle.std.proofs.Common.{◌≡◌, ℕ, ◌+◌, ◌%◌, ◌^◌, ◌<◌, false, not, eqb, [], ◌∷◌, sym, refl, ap, ◌∙◌, arith, le-ltb, lt-ltb, eq-eqb, eqb-true}
use native.Mathlib.Decide.{dec_lt}
use borrow.Author.Tests.{not-false}
use Rattle.answer.specs.Answer.{accepted, bad_value, first}
use Rattle.answer.proofs.Laws.{none-applies, first_on, accepts, answered}
use Rattle.bits.specs.Parts.{gather}
use Rattle.bundle.specs.Bundle.{number_at, find_answer}
use Rattle.form.specs.declared.Form.{Form}
use Rattle.operand.specs.Pattern.{pattern_of, integer_of}
use Rattle.operand.specs.declared.Operand.{Operand}
use Rattle.operand.specs.declared.Operand.TheVariants.{ImmI64}
use Rattle.parts.specs.Placed.{placed, width_of}
use Rattle.meaning.specs.Meaning.{Is, value_of, raw_of}
use Rattle.meaning.specs.inner.Fits.{Fitting}
use Rattle.meaning.specs.declared.Meaning.{Meaning}
use Rattle.meaning.specs.declared.Meaning.TheVariants.{Signed}
use Rattle.meaning.proofs.Patterns.{operand-of-pattern}
use Rattle.row.specs.Row.{Row, is_none, target_row_of}
use Rattle.row.proofs.Rows.{good-has, target-good, target-16, target-own}
use Rattle.immediate.specs.Immediate.{read_refusals, target_refusals, value_in, raw_for, changed_number, displacement_in, Target, no_target, target_in, target_of}
use Rattle.immediate.proofs.Laws.{read-sound, changed-answer, change-read, changed-value, changed-tag}
use Rattle.immediate.proofs.Written.{raw-there}
use Rattle.displacement.specs.Displacement.{Displacement, distance, reaching, displacement_refusals, displacement_of}
use Rattle.displacement.specs.Reached.{reaching_edit, Reached, ReachedIn, OnlyValue, GivenBack}

-- a pattern is that of its integer
pattern-integer : (p : ℕ) → p < 2 ^ 64 → pattern_of (integer_of p) ≡ p
pattern-integer p h =
    elim (dec_lt p (2 ^ 63)) [
      | yes l ↦ rw (lt-ltb p (2 ^ 63) l)
      | no l ↦ rw (le-ltb p (2 ^ 63) (omega arith)) (omega arith)
    ]

-- the value that a row of a target reads is its displacement
value-is : (form : Form) → is_none (target_row_of form) ≡ false → (slot n : ℕ) → value_in (target_row_of form) slot n ≡ ImmI64 (displacement_in (target_row_of form) slot n)
value-is form some slot n =
    let t = target_row_of form in
    ap (λ (m : Meaning). value_of m (width_of t.parts) (gather n (placed slot t.parts))) (target-16 form some)

-- what was accepted
module _ (form : Form) (address wanted : ℕ) where
  pub displacement-answer : (displacement_of form address wanted).answer ≡ first (displacement_refusals form address wanted)
  unfolding displacement_of
  displacement-answer = answered (λ (d : Displacement). d.answer) (first (displacement_refusals form address wanted)) _ _ refl refl

  pub displacement-taken : first (displacement_refusals form address wanted) ≡ accepted → displacement_of form address wanted ≡ record { answer = accepted; value = reaching address wanted }
  unfolding displacement_of
  displacement-taken q = accepts _ _ _ q

module _ (n slot : ℕ) (form : Form) (address : ℕ) where
  target-answer : (target_in n slot form address).answer ≡ first (target_refusals n slot form address)
  unfolding target_in
  target-answer = answered (λ (t : Target). t.answer) (first (target_refusals n slot form address)) _ _ refl refl

  target-taken : first (target_refusals n slot form address) ≡ accepted
      → target_in n slot form address ≡ record { answer = accepted; address = (address + pattern_of (displacement_in (target_row_of form) slot n)) % 2 ^ 64 }
  unfolding target_in
  target-taken q = accepts _ _ _ q

pub reached : Reached
reached n k slot form address wanted ha hw d t =
    let given = sym (displacement-answer form address wanted) ∙ d in
    let none = none-applies (displacement_refusals form address wanted) tt given in
    let some = none.0 in
    let e = reaching_edit k slot form address wanted in
    let taken = sym (changed-answer n e) ∙ t in
    let new = changed_number n e in
    let value : ImmI64 (displacement_in (target_row_of form) slot new) ≡ reaching address wanted =
    sym (value-is form some slot new) ∙ ap (λ (r : Row). value_in r slot new) (target-own form some) ∙ changed-value n e taken ∙ ap (λ (x : Displacement). x.value) (displacement-taken form address wanted given) in
    let is : displacement_in (target_row_of form) slot new ≡ integer_of (distance address wanted) = cc in
    let read : first (read_refusals new slot form (target_row_of form)) ≡ accepted =
    rw (changed-tag n e, target-own form some) (change-read n e taken) in
    let all : first (target_refusals new slot form address) ≡ accepted = rw (first_on (read_refusals new slot form (target_row_of form)) ((bad_value, not (eqb (address % 16) 0)) ∷ []) tt read, none.1.0) in
    let lands : (address + pattern_of (displacement_in (target_row_of form) slot new)) % 2 ^ 64 ≡ wanted =
    rw (is, pattern-integer (distance address wanted) (omega arith)) (omega arith) in
    target-taken new slot form address all ∙ ap (λ (a : ℕ). record { answer = accepted; address = a }) lands

pub reached-in : ReachedIn
unfolding target_of
reached-in code n k slot form address wanted ha hw d t found is =
    rw (accepts (find_answer code k) (target_in (number_at code k) slot form address) (no_target (find_answer code k)) found, is) (reached n k slot form address wanted ha hw d t)

-- a row of a target fits
fitting : (form : Form) → is_none (target_row_of form) ≡ false → Fitting (Signed 16) (width_of (target_row_of form).parts)
fitting form some = rw (target-16 form some) at (good-has form.family (target_row_of form) (target-good form) some).fitting

pub only-value : OnlyValue
only-value form address wanted v ha some even raw lands =
    let row = target_row_of form in
    let has : raw_of (Signed 16) (width_of row.parts) (ImmI64 v) ≡ Is (raw_for row (ImmI64 v)).raw =
    ap (λ (m : Meaning). raw_of m (width_of row.parts) (ImmI64 v)) (sym (target-16 form some)) ∙ ap (λ (a : ℕ). record { answer = a; raw = (raw_for row (ImmI64 v)).raw }) raw in
    let p = operand-of-pattern (Signed 16) (width_of row.parts) _ (ImmI64 v) (fitting form some) has in
    let far : distance address wanted ≡ pattern_of v = rw (← lands) (omega (arith, p.1)) in
    let value : reaching address wanted ≡ ImmI64 v = rw far p.0 in
    displacement-taken form address wanted (rw (some, eq-eqb _ 0 even, value, eq-eqb _ 0 raw)) ∙ ap (λ (o : Operand). record { answer = accepted; value = o }) value

pub given_back : GivenBack
given_back n slot form address wanted ha t =
    let row = target_row_of form in
    let all = sym (target-answer n slot form address) ∙ ap (λ (x : Target). x.answer) t in
    let none = none-applies (target_refusals n slot form address) tt all in
    let some = none.1.0 in
    let read : first (read_refusals n slot form row) ≡ accepted = rw (none.0, some, none.1.1.0) in
    let there = raw-there slot row (read-sound n slot form row (target-good form) read) n some in
    let raw : (raw_for row (ImmI64 (displacement_in row slot n))).answer ≡ accepted = rw (← value-is form some slot n, there) in
    let lands : (address + pattern_of (displacement_in row slot n)) % 2 ^ 64 ≡ wanted = ap (λ (x : Target). x.address) (sym (target-taken n slot form address all) ∙ t) in
    only-value form address wanted (displacement_in row slot n) ha some (eqb-true (address % 16) 0 (not-false _ none.1.1.1.0)) raw lands
    ∙ ap (λ (o : Operand). record { answer = accepted; value = o }) (sym (value-is form some slot n) ∙ ap (λ (r : Row). value_in r slot n) (target-own form some))
