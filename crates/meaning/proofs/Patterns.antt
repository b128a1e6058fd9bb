-- A value that has a raw number is told by its pattern: the meaning says of which kind it is, and an integer of 64 bits is that of its
-- pattern. A value of another kind has none. Assumes nothing.
use Rattle.std.proofs.Common.{◌≡◌, ℕ, ◌*◌, ◌^◌, ◌<◌, Bool, true, false, cond, eqb, ◌⊎◌, ℤ, sym, refl, ap, ◌∙◌, subst, ⊎_elim, arith, w64, SFits}
use mathlib.Core.Logic.{⊎_map}
use borrow.Author.Tests.{eqb-false}
use Rattle.bits.proofs.Laws.{part-lt}
use Rattle.answer.specs.Answer.{accepted}
use Rattle.operand.specs.Kind.{of_i64, of_u64}
use Rattle.operand.specs.Pattern.{pattern_of, pattern_in}
use Rattle.operand.specs.declared.Operand.{Operand}
use Rattle.operand.specs.declared.Operand.TheVariants.{ImmI64}
use Rattle.operand.specs.declared.Operand.TheVariants.{None as NoOperand}
use Rattle.operand.proofs.Kind.{i64-or-not, u64-or-not}
use Rattle.operand.proofs.Moved.{integer-pattern, pattern_lt}
use Rattle.meaning.specs.inner.Fits.{Fitting}
use Rattle.meaning.specs.Meaning.{Taken, Raw, Out, Other, taken_by, taken_of, Is, Bad, entry, entry_value, value_of, patterned, has_sign, operand_for, entry_of, raw_signed, raw_above, raw_of}
use Rattle.meaning.specs.declared.Meaning.{Meaning}
use Rattle.meaning.specs.declared.Meaning.TheVariants.{None as NoMeaning, Unsigned, Signed, Chosen, Complement}
use Rattle.meaning.proofs.Inverse.{not-bad, value-of-raw}
use Rattle.meaning.proofs.Units.{signed-fits}

-- a value is the one that a function has for its pattern, and that is a pattern of 64 bits
abbrev Had : (ℕ → Operand) → Operand → Type 0
Had of v = (of (pattern_in v) ≡ v) × (pattern_in v < 2 ^ 64)

had-integer : (z : ℤ) → SFits w64 z → Had (patterned true) (ImmI64 z)
had-integer z f = (ap ImmI64 (integer-pattern z f), pattern_lt z f)

had-entry : (signed : Bool) (b : ℕ) → b < 2 ^ 8 → Had (patterned signed) (entry_value signed b)
had-entry true b h = had-integer _ (signed-fits 1 8 b (omega arith, omega arith, omega arith, omega arith) h)
had-entry false b h = (refl, omega arith)

had-value : (m : Meaning) (w raw : ℕ) (v : Operand) → Fitting m w → raw_of m w v ≡ Is raw → raw < 2 ^ w → Had (operand_for m) (value_of m w raw)
had-value NoMeaning w raw v f e h = absurd (not-bad e)
had-value (Unsigned plus) w raw v f e h = (refl, omega (arith, f.2))
had-value (Signed unit) w raw v f e h = had-integer _ (signed-fits unit w raw f h)
had-value (Chosen signed list) w raw v f e h = had-entry signed (entry list raw) (part-lt list (8 * raw) 8)
had-value (Complement top) w raw v f e h = (refl, omega (arith, f.3))

pub operand-of-pattern : (m : Meaning) (w raw : ℕ) (v : Operand) → Fitting m w → raw_of m w v ≡ Is raw → (operand_for m (pattern_in v) ≡ v) × (pattern_in v < 2 ^ 64)
operand-of-pattern m w raw v f e = let r = value-of-raw m w raw v f e in subst (Had (operand_for m)) r.1 (had-value m w raw v f e r.0)

-- a value of another kind has no raw number
not-out : {p : ℕ} → Out p ≡ Other → ⊥
not-out e = eqb-false 0 6 refl (ap (λ (t : Taken). t.answer) e)

module _ (v : Operand) where
  not-i64 : taken_by true v ≡ Other → (raw : ℤ → Raw) → of_i64 v raw Bad ≡ Bad
  not-i64 e raw = ⊎_elim (λ k. absurd (not-out (sym (ap (taken_by true) k.1) ∙ e))) (λ n. n) (i64-or-not v raw Bad)

  not-u64 : taken_by false v ≡ Other → (raw : ℕ → Raw) → of_u64 v raw Bad ≡ Bad
  not-u64 e raw = ⊎_elim (λ k. absurd (not-out (sym (ap (taken_by false) k.1) ∙ e))) (λ n. n) (u64-or-not v raw Bad)

  other-entry : (signed : Bool) → taken_by signed v ≡ Other → entry_of signed v ≡ Bad
  other-entry true e = not-i64 e (raw_signed 1 8)
  other-entry false e = not-u64 e (raw_above 0 8)

pub raw_of-other : (m : Meaning) (w : ℕ) (v : Operand) → taken_of m v ≡ Other → raw_of m w v ≡ Bad
raw_of-other NoMeaning w v e = refl
raw_of-other (Unsigned plus) w v e = not-u64 v e (raw_above plus w)
raw_of-other (Signed unit) w v e = not-i64 v e (raw_signed unit w)
raw_of-other (Chosen signed list) w v e = rw (other-entry v signed e)
raw_of-other (Complement top) w v e = not-u64 v e (λ n. raw_above n w top)

-- and what is no immediate has none
none-taken : (signed : Bool) → taken_by signed NoOperand ≡ Other
none-taken true = refl
none-taken false = refl

pub raw_of-none : (m : Meaning) (w : ℕ) → raw_of m w NoOperand ≡ Bad
raw_of-none m w = raw_of-other m w NoOperand (none-taken (has_sign m))

-- what is taken out of a value of 64 bits is its pattern, by which it has its raw number, or the value is of another kind
module _ (v : Operand) (fits : (z : ℤ) → v ≡ ImmI64 z → SFits w64 z) where
  taken-told : (signed : Bool) → ((p : ℕ) × (taken_by signed v ≡ Out p) × (patterned signed p ≡ v)) ⊎ (taken_by signed v ≡ Other)
  taken-told true =
      ⊎_map
      (λ k. (pattern_of k.0, ap (taken_by true) k.1, ap ImmI64 (integer-pattern k.0 (fits k.0 k.1)) ∙ sym k.1))
      (λ n. n) (i64-or-not v (λ z. Out (pattern_of z)) Other)
  taken-told false = ⊎_map (λ k. (k.0, ap (taken_by false) k.1, sym k.1)) (λ n. n) (u64-or-not v Out Other)

  pub raw_of-taken : (m : Meaning) (w : ℕ) → let t = taken_of m v in raw_of m w (cond (eqb t.answer accepted) (operand_for m t.pattern) NoOperand) ≡ raw_of m w v
  raw_of-taken m w =
      ⊎_elim (λ k. rw (k.1, k.2)) (λ n. rw n (raw_of-none m w ∙ sym (raw_of-other m w v n))) (taken-told (has_sign m))
