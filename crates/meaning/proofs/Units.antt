-- Numbers of w bits that count units: they stay within 64 bits, and a whole number of units is counted again. Assumes nothing.
use Rattle.std.proofs.Common.{◌≡◌, ℕ, suc, ◌+◌, ◌-◌, ◌*◌, ◌/◌, ◌%◌, ◌^◌, ◌<◌, ◌≤◌, ◌⊎◌, ap, ◌∙◌, inl, inr, ⊎_elim, le_trans, mod-eq_of_lt, mul_comm, div-lt_iff_lt-mul, mul-le-mul_left, pow-suc, div-add-mod', mul-add, arith, lit<, pow_pos, w64, SFits, le-ltb, lt-ltb}
use native.Mathlib.Nat.{pow-le-pow_right}
use native.Mathlib.Decide.{dec_lt}
use Rattle.bits.proofs.Laws.{above-mod}
use Rattle.operand.specs.Pattern.{pattern_of}
use Rattle.meaning.specs.inner.Fits.{SignedFits}
use Rattle.meaning.specs.Meaning.{signed_of}

-- half of the numbers of w bits
pub half : (w : ℕ) → 1 ≤ w → 2 ^ w ≡ 2 ^ (w - 1) + 2 ^ (w - 1)
half w h =
    let e : w ≡ suc (w - 1) = omega arith in
    ap (λ (k : ℕ). 2 ^ k) e ∙ pow-suc 2 (w - 1) ∙ omega arith

-- the places of a list
pub at-most-8 : (w : ℕ) → w ≤ 3 → 2 ^ w ≤ 8
at-most-8 w h = pow-le-pow_right {n = 2} (lit< tt) h

-- so many units, at most half of what w bits count, fit
pub units-fit : (unit w n : ℕ) → SignedFits unit w → n ≤ 2 ^ (w - 1) → unit * n ≤ 2 ^ 63
units-fit unit w n f h = le_trans (mul-le-mul_left unit h) f.3

-- the top bit of a number of w bits is clear, or the rest stands below it
top : (w raw : ℕ) → 1 ≤ w → raw < 2 ^ w → ((raw < 2 ^ (w - 1)) × (raw % 2 ^ (w - 1) ≡ raw)) ⊎ (raw ≡ raw % 2 ^ (w - 1) + 2 ^ (w - 1))
top w raw h l =
    elim (dec_lt raw (2 ^ (w - 1))) [
      | yes g ↦ inl (g, mod-eq_of_lt g)
      | no g ↦
          let t = raw - 2 ^ (w - 1) in
          let e : raw ≡ t + 2 ^ (w - 1) * 1 = omega arith in
          let m = ap (λ (x : ℕ). x % 2 ^ (w - 1)) e ∙ above-mod (w - 1) t 1 (omega (arith, half w h)) in
          inr (omega arith)
    ]

-- the top bit takes away what it would add
module _ (unit w raw : ℕ) (f : SignedFits unit w) (l : raw < 2 ^ w) where
  pub top-fits : unit * (raw - raw % 2 ^ (w - 1)) ≤ 2 ^ 63
  top-fits = units-fit unit w (raw - raw % 2 ^ (w - 1)) f (⊎_elim (λ k. omega arith) (λ k. omega arith) (top w raw f.0 l))

  pub signed-pattern : (unit * (raw % 2 ^ (w - 1)) + (2 ^ 64 - unit * (raw - raw % 2 ^ (w - 1)))) % 2 ^ 64 ≡ pattern_of (signed_of unit w raw)
  signed-pattern =
      ⊎_elim
      (λ k.
      let d : raw - raw % 2 ^ (w - 1) ≡ 0 = omega arith in
      let fits : unit * raw ≤ 2 ^ 63 = units-fit unit w raw f (omega arith) in
      rw (lt-ltb raw (2 ^ (w - 1)) k.0) (omega (arith, ap (λ (x : ℕ). unit * x) d, ap (λ (x : ℕ). unit * x) k.1)))
      (λ k.
      let t = raw % 2 ^ (w - 1) in
      let d : raw - t ≡ (2 ^ w - raw) + t = omega (arith, half w f.0) in
      let some : 1 ≤ 2 ^ w - raw = omega arith in
      let high : 2 ^ (w - 1) ≤ raw = omega arith in
      let one : 1 ≤ unit = f.2 in
      rw (le-ltb raw (2 ^ (w - 1)) high)
      (omega (arith, top-fits, ap (λ (x : ℕ). unit * x) d, mul-add unit (2 ^ w - raw) t, mul-le-mul_left unit some)))
      (top w raw f.0 l)

-- a number of w bits is seen by its upper part
pub below_top : (w n : ℕ) → 1 ≤ w → n / 2 ^ (w - 1) < 2 → n < 2 ^ w
below_top w n h l = let g = (div-lt_iff_lt-mul (pow_pos (w - 1))).0 l in omega (arith, half w h)

-- whole units
pub whole-units : (unit n : ℕ) → n % unit ≡ 0 → unit * (n / unit) ≡ n
whole-units unit n h = let e = div-add-mod' n unit in rw (mul_comm unit (n / unit)) (omega arith)

-- a number with a sign is one of 64 bits
pub signed-fits : (unit w raw : ℕ) → SignedFits unit w → raw < 2 ^ w → SFits w64 (signed_of unit w raw)
signed-fits unit w raw f h =
    let one : 1 ≤ unit = f.2 in
    elim (dec_lt raw (2 ^ (w - 1))) [
      | yes l ↦ rw (lt-ltb raw (2 ^ (w - 1)) l) (record { sfits = omega (arith, units-fit unit w (suc raw) f l) })
      | no l ↦
          let m : 2 ^ w - raw ≤ 2 ^ (w - 1) = omega (arith, half w f.0) in
          rw (le-ltb raw (2 ^ (w - 1)) (omega arith)) (record { sfits = omega (arith, units-fit unit w (2 ^ w - raw) f m) })
    ]
