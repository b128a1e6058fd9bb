-- Writing into one of two numbers that stand one above the other, and a write cut in two: the same bits either way.
-- Assumes nothing.
use mathlib.Core.Path.{◌≡◌, sym, ap, ◌∙◌}
use mathlib.Core.Logic.{inl, inr}
use Prim.Native.Nat.{ℕ, ◌+◌, ◌-◌, ◌/◌, ◌≤◌, ◌<◌, ◌^◌}
use native.Mathlib.Decide.{dec_lt}
use native.Mathlib.Omega.{arith}
use Rattle.bits.specs.Part.{above, put, bit}
use Rattle.bits.proofs.Laws.{part-shr, above_within, above-high, put-lt, bits-equal, Stands, stands, outside, inside, skip, hit}

-- which of the two numbers bit i stands in
data Side (k i : ℕ) : Type 0 where
  low : i + 1 ≤ k → Side k i
  high : (e : ℕ) → i ≡ k + e → Side k i

side : (k i : ℕ) → Side k i
side k i = elim (dec_lt i k) [ yes h ↦ low (omega arith) | no h ↦ high (i - k) (omega arith) ]

module _ (k l h : ℕ) (fits : l < 2 ^ k) where
  in-low : (i : ℕ) → i + 1 ≤ k → bit (above k l h) i ≡ bit l i
  in-low i g = above_within k l h fits i 1 g

  in-high : (i e : ℕ) → i ≡ k + e → bit (above k l h) i ≡ bit h e
  in-high i e g = ap (bit (above k l h)) g ∙ above-high k l h fits e 1

module _ (k l h p j v : ℕ) (fits : l < 2 ^ k) where
  pub put_low : p + j ≤ k → above k (put l p j v) h ≡ put (above k l h) p j v
  put_low g = bits-equal _ _ (λ i. go i (side k i) (stands p j i))
    where
      below : put l p j v < 2 ^ k
      below = put-lt l p j v k g fits

      go : (i : ℕ) → Side k i → Stands p j i → bit (above k (put l p j v) h) i ≡ bit (put (above k l h) p j v) i
      go i (low s) (outside o) = in-low k _ h below i s ∙ skip l p j v i o ∙ sym (skip _ p j v i o ∙ in-low k l h fits i s)
      go i (low s) (inside d q e) = in-low k _ h below i s ∙ hit l p j v i d q e ∙ sym (hit _ p j v i d q e)
      go i (high e s) w = in-high k _ h below i e s ∙ sym (skip _ p j v i (inr (omega arith)) ∙ in-high k l h fits i e s)

  pub put-high : above k l (put h p j v) ≡ put (above k l h) (k + p) j v
  put-high = bits-equal _ _ (λ i. go i (side k i))
    where
      up : (i e : ℕ) → i ≡ k + e → Stands p j e → bit (put h p j v) e ≡ bit (put (above k l h) (k + p) j v) i
      up i e s (outside (inl o)) = skip h p j v e (inl o) ∙ sym (skip _ (k + p) j v i (inl (omega arith)) ∙ in-high k l h fits i e s)
      up i e s (outside (inr o)) = skip h p j v e (inr o) ∙ sym (skip _ (k + p) j v i (inr (omega arith)) ∙ in-high k l h fits i e s)
      up i e s (inside d q g) = hit h p j v e d q g ∙ sym (hit _ (k + p) j v i d q (omega arith))

      go : (i : ℕ) → Side k i → bit (above k l (put h p j v)) i ≡ bit (put (above k l h) (k + p) j v) i
      go i (low s) = in-low k l _ fits i s ∙ sym (skip _ (k + p) j v i (inl (omega arith)) ∙ in-low k l h fits i s)
      go i (high e s) = in-high k l _ fits i e s ∙ up i e s (stands p j e)

-- the lowest j bits first, then the others
pub put-split : (n p j k v : ℕ) → put (put n p j v) (p + j) k (v / 2 ^ j) ≡ put n p (j + k) v
put-split n p j k v = bits-equal _ _ (λ i. go i (stands p j i) (stands (p + j) k i))
  where
    go : (i : ℕ) → Stands p j i → Stands (p + j) k i → bit (put (put n p j v) (p + j) k (v / 2 ^ j)) i ≡ bit (put n p (j + k) v) i
    go i (inside d q e) w = skip _ (p + j) k _ i (inl (omega arith)) ∙ hit n p j v i d q e ∙ sym (hit n p (j + k) v i d (omega arith) e)
    go i (outside a) (inside d q e) = hit _ (p + j) k _ i d q e ∙ part-shr v j d 1 ∙ sym (hit n p (j + k) v i (j + d) (omega arith) (omega arith))
    go i (outside (inl a)) (outside b) = skip _ (p + j) k _ i b ∙ skip n p j v i (inl a) ∙ sym (skip n p (j + k) v i (inl a))
    go i (outside (inr a)) (outside (inl b)) = absurd (omega arith)
    go i (outside (inr a)) (outside (inr b)) = skip _ (p + j) k _ i (inr b) ∙ skip n p j v i (inr a) ∙ sym (skip n p (j + k) v i (inr (omega arith)))
