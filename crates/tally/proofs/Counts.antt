-- The counts of tags: one bundle more is one more at its tag, and whatever each bundle adds by its tag can be summed a tag at a time.
-- Both by counting a list with one element more. Assumes nothing.
use mathlib.Core.Path.{◌≡◌, refl, sym, ap, ◌∙◌}
use mathlib.Core.Bool.{cond}
use mathlib.Core.List.{List, [], ◌∷◌, ◌++◌, map}
use Prim.Native.Nat.{ℕ, zero, suc, ◌+◌, ◌*◌, ◌%◌, ◌≤◌, ◌<◌}
use native.Mathlib.Nat.{add-mul}
use native.Mathlib.Numerals.{add-one}
use native.Mathlib.Decide.{ℕ_discrete, dec_lt}
use native.Mathlib.Omega.{arith}
use lib.Dec.{eqb, leb, leb→le, lit<}
use lib.ListN.{length, get_or, set, replicate, length-set, get_or-append, get_or-eq_default}
use lib.Seq.{ext_get_or, get_or-set_same, get_or-set_other, set-append_left, drop-cons}
use borrow.Author.Tests.{eq-eqb, ne_eqb}
use Rattle.table.proofs.Check.{checked}
use Rattle.bits.proofs.Laws.{part-lt}
use Rattle.bundle.specs.Bytes.{number}
use Rattle.bundle.specs.Bundle.{tag_of, number_at}
use Rattle.bundle.specs.Template.{reserved, stops_of}
use Rattle.tally.specs.Report.{how_many, sum, below, tags_to, with_tag, stops_at, counts_of}
use Rattle.tally.specs.inner.Share.{Few, shares_of}
use Rattle.tally.proofs.Lists.{count-append, count_most, sum-append, map_more, length_to, at-to, map-to, sum-plus, count-sum}

with-same : (t : ℕ) → with_tag (t ∷ []) t ≡ 1
with-same t = rw (eq-eqb t t refl)

with-other : (u t : ℕ) → (u ≡ t → ⊥) → with_tag (u ∷ []) t ≡ 0
with-other u t d = rw (ne_eqb u t d)

with-more : (tags : List ℕ) (u t : ℕ) → with_tag (tags ++ (u ∷ [])) t ≡ with_tag tags t + with_tag (u ∷ []) t
with-more tags u t = count-append (λ v. eqb v t) tags (u ∷ [])

-- the counts, and zeros after them
abbrev pub counted : List ℕ → List ℕ
counted tags = counts_of tags ++ replicate 4 0

pub counted-at : (tags after : List ℕ) (t : ℕ) → t < 32 → get_or (counts_of tags ++ after) t 0 ≡ with_tag tags t
counted-at tags after t h = get_or-append (counts_of tags) after 0 t (omega (arith, length_to (with_tag tags) 32)) ∙ at-to (with_tag tags) 32 t 0 h

counts-more : (tags : List ℕ) (u : ℕ) → u < 32 → set (counts_of tags) u (with_tag tags u + 1) ≡ counts_of (tags ++ (u ∷ []))
counts-more tags u h =
    let size = length_to (with_tag tags) 32 in
    ext_get_or 0 _ _ (length-set (counts_of tags) u _ ∙ size ∙ sym (length_to (with_tag (tags ++ (u ∷ []))) 32))
    (λ i l.
    let small : i < 32 = omega (arith, length-set (counts_of tags) u (with_tag tags u + 1), size) in
    at_set i small ∙ sym (with-more tags u i) ∙ sym (at-to (with_tag (tags ++ (u ∷ []))) 32 i 0 small))
  where
    at_set : (i : ℕ) → i < 32 → get_or (set (counts_of tags) u (with_tag tags u + 1)) i 0 ≡ with_tag tags i + with_tag (u ∷ []) i
    at_set i small =
        elim (ℕ_discrete i u) [
          | yes e ↦
              rw (e, with-same u) (get_or-set_same (counts_of tags) u (with_tag tags u + 1) 0 (omega (arith, length_to (with_tag tags) 32)))
          | no d ↦
              get_or-set_other (counts_of tags) u i (with_tag tags u + 1) 0 d ∙ at-to (with_tag tags) 32 i 0 small
              ∙ omega (arith, with-other u i (λ e. d (sym e)))
        ]

-- a bundle more
pub counted-more : (tags : List ℕ) (u : ℕ) → u < 32 → set (counted tags) u (get_or (counted tags) u 0 + 1) ≡ counted (tags ++ (u ∷ []))
counted-more tags u h =
    rw (counted-at tags _ u h)
    (set-append_left (counts_of tags) (replicate 4 0) u (with_tag tags u + 1) (omega (arith, length_to (with_tag tags) 32))
    ∙ ap (λ (l : List ℕ). l ++ replicate 4 0) (counts-more tags u h))

-- no tag has more bundles than there are
pub counted-few : (tags : List ℕ) → length tags ≤ 4096 → Few (counted tags)
counted-few tags h t l = rw (counted-at tags _ t l) (omega (arith, count_most (λ v. eqb v t) tags))

-- what a single bundle adds, a tag at a time
module _ (w : ℕ → ℕ) (u : ℕ) where
  none_yet : (n : ℕ) → n ≤ u → sum (map (λ t. with_tag (u ∷ []) t * w t) (below n)) ≡ 0
  unfolding below
  none_yet zero h = refl
  none_yet (suc n) h =
      rw (map_more (λ t. with_tag (u ∷ []) t * w t) n, sum-append (map (λ t. with_tag (u ∷ []) t * w t) (below n)) _, with-other u n (λ e. omega arith))
      (omega (arith, none_yet n (omega arith)))

  one-adds : (n : ℕ) → u < n → sum (map (λ t. with_tag (u ∷ []) t * w t) (below n)) ≡ w u
  one-adds zero h = absurd (omega arith)
  one-adds (suc n) h =
      rw (map_more (λ t. with_tag (u ∷ []) t * w t) n, sum-append (map (λ t. with_tag (u ∷ []) t * w t) (below n)) _)
      (elim (ℕ_discrete u n) [
        | yes e ↦ rw (sym e, with-same u) (omega (arith, none_yet u (omega arith)))
        | no d ↦ rw (with-other u n d) (omega (arith, one-adds n (omega arith)))
      ])

-- what bundles of tags below 32 add
abbrev pub Tags : List ℕ → Type 0
Tags tags = (i : ℕ) → get_or tags i 0 < 32

pub by-tag : (w : ℕ → ℕ) (tags : List ℕ) → Tags tags → sum (map (λ t. with_tag tags t * w t) (below 32)) ≡ sum (map w tags)
by-tag w [] small = sum-none (below 32)
  where
    sum-none : (l : List ℕ) → sum (map (λ t. with_tag [] t * w t) l) ≡ 0
    sum-none [] = refl
    sum-none (x ∷ l) = omega (arith, sum-none l)
by-tag w (u ∷ tags) small =
    ap sum (map-to 32 (λ t h. ap (λ (k : ℕ). k * w t) (count-append (λ v. eqb v t) (u ∷ []) tags) ∙ add-mul (with_tag (u ∷ []) t) (with_tag tags t) (w t)))
    ∙ sum-plus (λ t. with_tag (u ∷ []) t * w t) (λ t. with_tag tags t * w t) (below 32)
    ∙ omega (arith, by-tag w tags (λ i. small (suc i)), one-adds w u 32 (small 0))

pub tags-small : (image : List ℕ) (n : ℕ) → Tags (tags_to image n)
tags-small image n i =
    let tag : ℕ → ℕ = λ k. tag_of (number_at image k) in
    elim (dec_lt i n) [
      | yes h ↦ rw (at-to tag n i 0 h) (part-lt (number_at image i) 0 5)
      | no h ↦ rw (get_or-eq_default (tags_to image n) 0 {n = i} (omega (arith, length_to tag n))) (lit< tt)
    ]

-- the shares of the counts are those of the bundles
pub shares-counted : (tags : List ℕ) → Tags tags → shares_of (counted tags) ≡ record { reserved = how_many reserved tags; stops = sum (map stops_at tags) }
shares-counted tags small =
    let share : (w : ℕ → ℕ) → sum (map (λ t. get_or (counted tags) t 0 * w t) (below 32)) ≡ sum (map w tags) =
    λ w. ap sum (map-to 32 (λ t h. ap (λ (k : ℕ). k * w t) (counted-at tags _ t h))) ∙ by-tag w tags small in
    let reserved-is = share (λ t. cond (reserved t) 1 0) ∙ sym (count-sum reserved tags) in
    let stops-is = share stops_at in
    λ i. record { reserved = reserved-is i; stops = stops-is i }

-- a bundle's tag stands in its first byte
pub tag-first : (image : List ℕ) (k : ℕ) → 16 * k < length image → tag_of (number_at image k) ≡ get_or image (16 * k) 0 % 32
unfolding number
tag-first image k h = rw (drop-cons image (16 * k) 0 h) (omega arith)

-- the next bundle counted
pub bundle-counted : (image : List ℕ) (n : ℕ) (counts : List ℕ) → 16 * n < length image → counts ≡ counted (tags_to image n)
    → let tag = get_or image (16 * n) 0 % 32 in set counts tag (get_or counts tag 0 + 1) ≡ counted (tags_to image (n + 1))
bundle-counted image n counts h e =
    rw (e, add-one n, ← tag-first image n h)
    (counted-more (tags_to image n) (tag_of (number_at image n)) (part-lt (number_at image n) 0 5)
    ∙ ap counted (sym (map_more (λ k. tag_of (number_at image k)) n)))

pub stops-few : (t : ℕ) → t < 32 → stops_at t ≤ 3
unfolding stops_of
stops-few t h = leb→le _ 3 (checked (λ u. leb (stops_at u) 3) 32 tt t h)
