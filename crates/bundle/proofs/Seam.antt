-- What stands at a place of two halves lies in the high one, in the low one, or across the seam, where it is two parts side by side.
-- Assumes nothing.
use mathlib.Core.Path.{◌≡◌, sym, ap, ap₂, ◌∙◌, subst}
use Prim.Native.Nat.{ℕ, ◌+◌, ◌-◌, ◌*◌, ◌/◌, ◌%◌, ◌≤◌, ◌<◌, ◌^◌}
use native.Mathlib.Nat.{div-one, mul_comm, lt_of_lt_of_le}
use native.Mathlib.Omega.{arith}
use lib.Pow.{pow_mono}
use Rattle.bits.specs.Part.{part, above, put}
use Rattle.bits.proofs.Laws.{part-top, part_join, above_within, above-high}
use Rattle.bits.proofs.Seam.{put_low, put-high, put-split}
use Rattle.bits.proofs.Shift.{shl-low}

module _ (low high place : ℕ) (l : low < 2 ^ 64) where
  pub bits-high : high < 2 ^ 64 → 64 ≤ place → high / 2 ^ (place - 64) ≡ part (above 64 low high) place 64
  bits-high h g =
      let e : 64 + (place - 64) ≡ place = omega arith in
      let wide : 64 ≤ 64 + (place - 64) = omega arith in
      sym (part-top high (place - 64) 64 (lt_of_lt_of_le h (pow_mono wide)))
      ∙ sym (above-high 64 low high l (place - 64) 64)
      ∙ ap (λ (p : ℕ). part (above 64 low high) p 64) e

  pub bits-seam : place ≤ 64 → low / 2 ^ place + (high * 2 ^ (64 - place)) % 2 ^ 64 ≡ part (above 64 low high) place 64
  bits-seam h =
      let n = above 64 low high in
      let below = 64 - place in
      let s : place + below ≡ 64 = omega arith in
      let t : below + place ≡ 64 = omega arith in
      let fits : place + below ≤ 64 = omega arith in
      let first = part-top low place below (subst (λ (k : ℕ). low < 2 ^ k) (sym t) l) in
      let second =
      ap (λ (x : ℕ). x % 2 ^ place) (sym (div-one high)) ∙ sym (above-high 64 low high l 0 place) ∙ ap (λ (p : ℕ). part n p place) (sym s) in
      ap₂ (λ (x y : ℕ). x + y) (sym first ∙ sym (above_within 64 low high l place below fits))
      (ap (λ (k : ℕ). (high * 2 ^ below) % 2 ^ k) (sym s) ∙ shl-low high place below ∙ mul_comm (high % 2 ^ place) (2 ^ below) ∙ ap (λ (x : ℕ). 2 ^ below * x) second)
      ∙ part_join n place below place
      ∙ ap (part n place) t

module _ (low high place width : ℕ) (l : low < 2 ^ 64) where
  pub put-in-high : (v : ℕ) → 64 ≤ place → above 64 low (put high (place - 64) width v) ≡ put (above 64 low high) place width v
  put-in-high v h =
      let e : 64 + (place - 64) ≡ place = omega arith in
      put-high 64 low high (place - 64) width v l ∙ ap (λ (p : ℕ). put (above 64 low high) p width v) e

  pub put-in-low : (v : ℕ) → place + width ≤ 64 → above 64 (put low place width v) high ≡ put (above 64 low high) place width v
  put-in-low v h = put_low 64 low high place width v l h

  pub put-across : (v below : ℕ) → place + below ≡ 64 → below ≤ width → put low place below v < 2 ^ 64
      → above 64 (put low place below v) (put high 0 (width - below) (v / 2 ^ below)) ≡ put (above 64 low high) place width v
  put-across v below s h f =
      let n = above 64 low high in
      let e : below + (width - below) ≡ width = omega arith in
      let fits : place + below ≤ 64 = omega arith in
      put-high 64 _ high 0 (width - below) (v / 2 ^ below) f
      ∙ ap₂ (λ (m p : ℕ). put m p (width - below) (v / 2 ^ below)) (put_low 64 low high place below v l fits) (sym s)
      ∙ put-split n place below (width - below) v
      ∙ ap (λ (k : ℕ). put n place k v) e
