-- The two directions of a meaning are inverse to each other: the raw number of a value has that value, and the value of a raw number
-- has that raw number. A meaning at a time; each test says what it lets through. Assumes nothing.
use Rattle.std.proofs.Common.{◌≡◌, ℕ, zero, suc, ◌+◌, ◌-◌, ◌*◌, ◌/◌, ◌%◌, ◌^◌, ◌<◌, ◌≤◌, Bool, true, false, cond, T, eqb, ltb, leb, ℤ, pos, negsuc, sym, refl, ap, ◌∙◌, subst, ⊎_elim, mul-le-mul_left, zero-add, arith, ltb-false, ltb-true, le-ltb, lt-ltb, eq-eqb, ne_eqb, eqb-true, le-leb, leb-true}
use native.Mathlib.Nat.{mul-div_cancel_left, mul-mod_right}
use native.Mathlib.Decide.{dec_lt}
use borrow.Author.Tests.{eqb-false}
use Rattle.answer.specs.Answer.{accepted}
use Rattle.bits.proofs.Laws.{part-lt}
use Rattle.operand.specs.Kind.{of_i64, of_u64}
use Rattle.operand.specs.declared.Operand.{Operand}
use Rattle.operand.specs.declared.Operand.TheVariants.{ImmI64, ImmU64}
use Rattle.operand.proofs.Kind.{i64-or-not, u64-or-not}
use Rattle.meaning.specs.inner.Fits.{SignedFits, Fitting}
use Rattle.meaning.specs.Meaning.{means, Raw, Is, Bad, signed_of, entry, entry_value, value_of, raw_up, raw_down, raw_signed, raw_above, entry_of, place_in, raw_of}
use Rattle.meaning.specs.declared.Meaning.{Meaning}
use Rattle.meaning.specs.declared.Meaning.TheVariants.{None as NoMeaning, Unsigned, Signed, Chosen, Complement}
use Rattle.meaning.proofs.Units.{half, whole-units}

-- what has a raw number passed the test
pub not-bad : {raw : ℕ} → Bad ≡ Is raw → ⊥
not-bad e = eqb-false 6 0 refl (ap (λ (r : Raw). r.answer) e)

only_if : (b : Bool) (r : Raw) {raw : ℕ} → cond b r Bad ≡ Is raw → (b ≡ true) × (r ≡ Is raw)
only_if true r e = (refl, e)
only_if false r e = absurd (not-bad e)

only-else : (b : Bool) (r : Raw) {raw : ℕ} → cond b Bad r ≡ Is raw → (b ≡ false) × (r ≡ Is raw)
only-else true r e = absurd (not-bad e)
only-else false r e = (refl, e)

same-raw : {m n : ℕ} → Is m ≡ Is n → m ≡ n
same-raw e = ap (λ (r : Raw). r.raw) e

-- what has a raw number is of the kind
of-u64 : (o : Operand) (f : ℕ → Raw) {raw : ℕ} → of_u64 o f Bad ≡ Is raw → (v : ℕ) × (o ≡ ImmU64 v) × (f v ≡ Is raw)
of-u64 o f e = ⊎_elim (λ k. (k.0, k.1, rw k.1 at e)) (λ k. absurd (not-bad (sym k ∙ e))) (u64-or-not o f Bad)

of-i64 : (o : Operand) (f : ℤ → Raw) {raw : ℕ} → of_i64 o f Bad ≡ Is raw → (v : ℤ) × (o ≡ ImmI64 v) × (f v ≡ Is raw)
of-i64 o f e = ⊎_elim (λ k. (k.0, k.1, rw k.1 at e)) (λ k. absurd (not-bad (sym k ∙ e))) (i64-or-not o f Bad)

-- a value has a raw number, or it is refused
abbrev Told : Raw → Type 0
Told r = (r.answer ≡ accepted → ⊥) → r ≡ Bad

told_is : (n : ℕ) → Told (Is n)
told_is n d = absurd (d refl)

told-bad : Told Bad
told-bad d = refl

told-either : (b : Bool) (r s : Raw) → Told r → Told s → Told (cond b r s)
told-either true r s t u = t
told-either false r s t u = u

told-signed : (unit w : ℕ) (z : ℤ) → Told (raw_signed unit w z)
told-signed unit w (pos v) = told-either (eqb (v % unit) 0) _ _ (told-either (ltb (v / unit) (2 ^ (w - 1))) _ _ (told_is (v / unit)) told-bad) told-bad
told-signed unit w (negsuc v) = told-either (eqb (suc v % unit) 0) _ _ (told-either (leb (suc v / unit) (2 ^ (w - 1))) _ _ (told_is (2 ^ w - suc v / unit)) told-bad) told-bad

told-above : (low w high : ℕ) → Told (raw_above low w high)
told-above low w high = told-either (ltb high low) _ _ told-bad (told-either (ltb (high - low) (2 ^ w)) _ _ (told_is (high - low)) told-bad)

told-place : (list n b : ℕ) → Told (place_in list n b)
told-place list zero b = told-bad
told-place list (suc n) b = told-either (eqb (entry list n) b) _ _ (told_is n) (told-place list n b)

told-u64 : (v : Operand) (f : ℕ → Raw) → ((n : ℕ) → Told (f n)) → Told (of_u64 v f Bad)
told-u64 v f t = ⊎_elim (λ k. rw k.1 (t k.0)) (λ k d. k) (u64-or-not v f Bad)

told-i64 : (v : Operand) (f : ℤ → Raw) → ((z : ℤ) → Told (f z)) → Told (of_i64 v f Bad)
told-i64 v f t = ⊎_elim (λ k. rw k.1 (t k.0)) (λ k d. k) (i64-or-not v f Bad)

pub raw-told : (m : Meaning) (w : ℕ) (v : Operand) → ((raw_of m w v).answer ≡ accepted → ⊥) → raw_of m w v ≡ Bad
raw-told NoMeaning w v = told-bad
raw-told (Unsigned plus) w v = told-u64 v (raw_above plus w) (told-above plus w)
raw-told (Signed unit) w v = told-i64 v (raw_signed unit w) (told-signed unit w)
raw-told (Chosen signed list) w v = let b = entry_of signed v in told-either (eqb b.answer accepted) _ _ (told-place list (2 ^ w) b.raw) told-bad
raw-told (Complement top) w v = told-u64 v (λ n. raw_above n w top) (λ n. told-above n w top)

-- a number that is so much above another
above-raw : (low w high raw : ℕ) → low + raw ≡ high → raw < 2 ^ w → raw_above low w high ≡ Is raw
above-raw low w high raw is h =
    let l : low ≤ high = omega arith in
    let e : high - low ≡ raw = omega arith in
    rw (le-ltb high low l, e, lt-ltb raw (2 ^ w) h)

above-value : (low w high raw : ℕ) → raw_above low w high ≡ Is raw → (raw < 2 ^ w) × (low + raw ≡ high)
above-value low w high raw e =
    let p = only-else (ltb high low) _ e in
    let q = only_if (ltb (high - low) (2 ^ w)) _ p.1 in
    let s : high - low ≡ raw = same-raw q.1 in
    let l = ltb-false high low p.0 in
    let h = ltb-true (high - low) (2 ^ w) q.0 in
    (omega arith, omega arith)

-- a number with a sign, that counts units
some-units : (unit n v : ℕ) → unit * n ≡ suc v → 1 ≤ n
some-units unit zero v e = absurd (omega arith)
some-units unit (suc n) v e = omega arith

module _ (unit w : ℕ) (f : SignedFits unit w) where
  up-raw : (raw : ℕ) → raw < 2 ^ (w - 1) → raw_up unit w (unit * raw) ≡ Is raw
  up-raw raw h = rw (eq-eqb (unit * raw % unit) 0 (mul-mod_right unit raw), mul-div_cancel_left raw f.2, lt-ltb raw (2 ^ (w - 1)) h)

  down-raw : (raw : ℕ) → 2 ^ (w - 1) ≤ raw → raw < 2 ^ w → raw_down unit w (unit * (2 ^ w - raw)) ≡ Is raw
  down-raw raw l h =
      let n = 2 ^ w - raw in
      let m : n ≤ 2 ^ (w - 1) = omega (arith, half w f.0) in
      let s : 2 ^ w - n ≡ raw = omega arith in
      rw (eq-eqb (unit * n % unit) 0 (mul-mod_right unit n), mul-div_cancel_left n f.2, le-leb n (2 ^ (w - 1)) m, s)

  signed-raw : (raw : ℕ) → raw < 2 ^ w → raw_signed unit w (signed_of unit w raw) ≡ Is raw
  signed-raw raw h =
      elim (dec_lt raw (2 ^ (w - 1))) [
        | yes l ↦ rw (lt-ltb raw (2 ^ (w - 1)) l) (up-raw raw l)
        | no l ↦
            let some : 1 ≤ 2 ^ w - raw = omega arith in
            let g : 1 ≤ unit = f.2 in
            let high : 2 ^ (w - 1) ≤ raw = omega arith in
            let s : suc (unit * (2 ^ w - raw) - 1) ≡ unit * (2 ^ w - raw) = omega (arith, mul-le-mul_left unit some) in
            rw (le-ltb raw (2 ^ (w - 1)) high) (ap (raw_down unit w) s ∙ down-raw raw high h)
      ]

  signed-value : (z : ℤ) (raw : ℕ) → raw_signed unit w z ≡ Is raw → (raw < 2 ^ w) × (signed_of unit w raw ≡ z)
  signed-value (pos v) raw e =
      let p = only_if (eqb (v % unit) 0) _ e in
      let q = only_if (ltb (v / unit) (2 ^ (w - 1))) _ p.1 in
      let s : v / unit ≡ raw = same-raw q.1 in
      let h : raw < 2 ^ (w - 1) = rw s at (ltb-true (v / unit) (2 ^ (w - 1)) q.0) in
      let g : unit * raw ≡ v = rw (sym s) (whole-units unit v (eqb-true (v % unit) 0 p.0)) in
      (omega (arith, half w f.0), rw (lt-ltb raw (2 ^ (w - 1)) h, g))
  signed-value (negsuc v) raw e =
      let p = only_if (eqb (suc v % unit) 0) _ e in
      let q = only_if (leb (suc v / unit) (2 ^ (w - 1))) _ p.1 in
      let n = suc v / unit in
      let s : 2 ^ w - n ≡ raw = same-raw q.1 in
      let l : n ≤ 2 ^ (w - 1) = leb-true n (2 ^ (w - 1)) q.0 in
      let g : unit * n ≡ suc v = whole-units unit (suc v) (eqb-true (suc v % unit) 0 p.0) in
      let some : 1 ≤ n = some-units unit n v g in
      let m : 2 ^ (w - 1) ≤ raw = omega (arith, half w f.0) in
      let back : 2 ^ w - raw ≡ n = omega (arith, half w f.0) in
      (omega (arith, half w f.0), rw (le-ltb raw (2 ^ (w - 1)) m, back, g) (ap negsuc (omega arith)))

-- a number that chooses from a list
entry-raw : (signed : Bool) (b : ℕ) → b < 2 ^ 8 → entry_of signed (entry_value signed b) ≡ Is b
entry-raw true b h = signed-raw 1 8 (omega arith, omega arith, omega arith, omega arith) b h
entry-raw false b h = above-raw 0 8 b b (zero-add b) h

entry_value_lem : (signed : Bool) (v : Operand) (b : ℕ) → entry_of signed v ≡ Is b → entry_value signed b ≡ v
entry_value_lem true v b e =
    let k = of-i64 v (raw_signed 1 8) e in
    ap ImmI64 (signed-value 1 8 (omega arith, omega arith, omega arith, omega arith) k.0 b k.2).1 ∙ sym k.1
entry_value_lem false v b e =
    let k = of-u64 v (raw_above 0 8) e in
    ap ImmU64 (sym (zero-add b) ∙ (above-value 0 8 k.0 b k.2).1) ∙ sym k.1

place-raw : (list n k : ℕ) → ((i j : ℕ) → i < j → j < n → entry list i ≡ entry list j → ⊥) → k < n → place_in list n (entry list k) ≡ Is k
place-raw list zero k differ h = absurd (omega arith)
place-raw list (suc n) k differ h =
    elim (dec_lt k n) [
      | yes l ↦
          rw (ne_eqb (entry list n) (entry list k) (λ e. differ k n l (omega arith) (sym e)))
          (place-raw list n k (λ i j g m e. differ i j g (omega arith) e) l)
      | no g ↦ let e : k ≡ n = omega arith in rw (e, eq-eqb (entry list n) (entry list n) refl)
    ]

place-value : (list n b k : ℕ) → place_in list n b ≡ Is k → (k < n) × (entry list k ≡ b)
place-value list zero b k e = absurd (not-bad e)
place-value list (suc n) b k e = by-same (eqb (entry list n) b) refl e (place-value list n b k)
  where
    by-same : (same : Bool) → eqb (entry list n) b ≡ same → cond same (Is n) (place_in list n b) ≡ Is k
        → (place_in list n b ≡ Is k → (k < n) × (entry list k ≡ b)) → (k < suc n) × (entry list k ≡ b)
    by-same true q e below = let s : n ≡ k = same-raw e in (omega arith, rw (sym s) (eqb-true (entry list n) b q))
    by-same false q e below = let r = below e in (omega arith, r.1)

-- the value of a raw number has that raw number
pub raw_of-value : (m : Meaning) (w raw : ℕ) → Fitting m w → means m ≡ true → raw < 2 ^ w → raw_of m w (value_of m w raw) ≡ Is raw
raw_of-value NoMeaning w raw f some h = absurd (subst T (sym some) tt)
raw_of-value (Unsigned plus) w raw f some h = above-raw plus w (plus + raw) raw refl h
raw_of-value (Signed unit) w raw f some h = signed-raw unit w f raw h
raw_of-value (Chosen signed list) w raw f some h =
    rw (entry-raw signed (entry list raw) (part-lt list (8 * raw) 8)) (place-raw list (2 ^ w) raw f.1 h)
raw_of-value (Complement top) w raw f some h = above-raw (top - raw) w top raw (omega (arith, f.2)) h

-- the raw number of a value has that value
pub value-of-raw : (m : Meaning) (w raw : ℕ) (v : Operand) → Fitting m w → raw_of m w v ≡ Is raw → (raw < 2 ^ w) × (value_of m w raw ≡ v)
value-of-raw NoMeaning w raw v f e = absurd (not-bad e)
value-of-raw (Unsigned plus) w raw v f e =
    let k = of-u64 v (raw_above plus w) e in
    let r = above-value plus w k.0 raw k.2 in
    (r.0, ap ImmU64 r.1 ∙ sym k.1)
value-of-raw (Signed unit) w raw v f e =
    let k = of-i64 v (raw_signed unit w) e in
    let r = signed-value unit w f k.0 raw k.2 in
    (r.0, ap ImmI64 r.1 ∙ sym k.1)
value-of-raw (Chosen signed list) w raw v f e =
    let b = entry_of signed v in
    let p = only_if (eqb b.answer accepted) (place_in list (2 ^ w) b.raw) e in
    let is : b ≡ Is b.raw = ap (λ (a : ℕ). record { answer = a; raw = b.raw }) (eqb-true b.answer accepted p.0) in
    let r = place-value list (2 ^ w) b.raw raw p.1 in
    (r.0, ap (entry_value signed) r.1 ∙ entry_value_lem signed v b.raw is)
value-of-raw (Complement top) w raw v f e =
    let k = of-u64 v (λ n. raw_above n w top) e in
    let r = above-value k.0 w top raw k.2 in
    let less : top - raw ≡ k.0 = omega (arith, r.1) in
    (r.0, ap ImmU64 less ∙ sym k.1)
