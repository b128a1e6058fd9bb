-- A bundle's number, its tag and slots, and its two halves say the same: each is the number cut at other bits.
-- Assumes nothing.
use mathlib.Core.Path.{◌≡◌, ap, ◌∙◌}
use mathlib.Core.List.{[], ◌∷◌}
use Prim.Native.Nat.{ℕ, ◌<◌, ◌^◌}
use lib.Dec.{lit≤}
use Rattle.bits.specs.Part.{above}
use Rattle.bits.proofs.Laws.{part-whole, part-part, part_join, above_low, above-high, above-lt}
use Rattle.bundle.specs.Bundle.{tag_of, slot_of, slots_of, joined, halves_of, whole}

-- a tag and three slots that fit
pub record Fitting (tag a b c : ℕ) : Type 0 where
  pub tag_fits : tag < 2 ^ 5
  pub a-fits : a < 2 ^ 41
  pub b-fits : b < 2 ^ 41
  pub c-fits : c < 2 ^ 41

module _ (tag a b c : ℕ) (f : Fitting tag a b c) where
  -- what was joined is cut again
  pub cut-joined-tag : tag_of (joined tag (a ∷ b ∷ c ∷ [])) ≡ tag
  cut-joined-tag = above_low 5 tag (above 41 a (above 41 b c)) f.tag_fits

  pub cut-joined : slots_of (joined tag (a ∷ b ∷ c ∷ [])) ≡ a ∷ b ∷ c ∷ []
  cut-joined =
      let at = above-high 5 tag (above 41 a (above 41 b c)) f.tag_fits in
      let above-a = above-high 41 a (above 41 b c) f.a-fits in
      let s₀ = at 0 41 ∙ above_low 41 a (above 41 b c) f.a-fits in
      let s₁ = at 41 41 ∙ above-a 0 41 ∙ above_low 41 b c f.b-fits in
      let s₂ = at 82 41 ∙ above-a 41 41 ∙ above-high 41 b c f.b-fits 0 41 ∙ part-whole c 41 f.c-fits in
      λ i. s₀ i ∷ s₁ i ∷ s₂ i ∷ []

  pub joined-lt : joined tag (a ∷ b ∷ c ∷ []) < 2 ^ 128
  joined-lt =
      above-lt 5 tag (above 41 a (above 41 b c)) f.tag_fits 123
      (above-lt 41 a (above 41 b c) f.a-fits 82 (above-lt 41 b c f.b-fits 41 f.c-fits))

-- what was cut is joined again
pub joined-cut : (n : ℕ) → n < 2 ^ 128 → joined (tag_of n) (slots_of n) ≡ n
joined-cut n h =
    ap (λ (x : ℕ). above 5 (tag_of n) (above 41 (slot_of n 0) x)) (part_join n 46 41 41)
    ∙ ap (above 5 (tag_of n)) (part_join n 5 41 82)
    ∙ part_join n 0 5 123
    ∙ part-whole n 128 h

module _ (low high : ℕ) (l : low < 2 ^ 64) (h : high < 2 ^ 64) where
  pub halves-whole : halves_of (above 64 low high) ≡ record { low = low; high = high }
  halves-whole =
      let e = above_low 64 low high l in
      let f = above-high 64 low high l 0 64 ∙ part-whole high 64 h in
      λ i. record { low = e i; high = f i }

-- the halves have the number's tag and its slots
pub tag-of-whole : (n : ℕ) → tag_of (whole (halves_of n)) ≡ tag_of n
tag-of-whole n = ap tag_of (part_join n 0 64 64) ∙ part-part n 0 128 0 5 (lit≤ tt)

pub slots-of-whole : (n : ℕ) → slots_of (whole (halves_of n)) ≡ slots_of n
slots-of-whole n =
    rw (part_join n 0 64 64, part-part n 0 128 5 41 (lit≤ tt), part-part n 0 128 46 41 (lit≤ tt), part-part n 0 128 87 41 (lit≤ tt))

pub whole-halves : (n : ℕ) → n < 2 ^ 128 → whole (halves_of n) ≡ n
whole-halves n h = part_join n 0 64 64 ∙ part-whole n 128 h
