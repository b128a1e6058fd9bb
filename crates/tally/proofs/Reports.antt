-- The numbers of an image's report, each at its place, and that all of them fit. Assumes nothing.
use mathlib.Core.Path.{◌≡◌, refl, sym, ap, ap₂, ◌∙◌}
use mathlib.Core.Bool.{cond}
use mathlib.Core.List.{List, [], ◌∷◌, ◌++◌, map, flat_map, zip_with}
use Prim.Native.Nat.{ℕ, suc, ◌+◌, ◌*◌, ◌/◌, ◌%◌, ◌^◌, ◌≤◌, ◌<◌}
use native.Mathlib.Nat.{mul-one, mul_comm, zero-add}
use native.Mathlib.Decide.{dec_lt}
use native.Mathlib.Omega.{arith}
use lib.Dec.{eqb, eqb→eq, leb, ltb, ltb→lt, lit<}
use lib.ListN.{length, get_or, set, replicate, length-append, get_or-eq_default}
use lib.Seq.{get_or-append-add}
use Rattle.answer.specs.Answer.{accepted}
use Rattle.table.proofs.Check.{checked}
use Rattle.bundle.specs.Bundle.{longest_code, tag_of, number_at}
use Rattle.bundle.specs.Template.{reserved, units_of, stops_of}
use Rattle.tally.specs.Report.{how_many, sum, below, tags_of, with_tag, stops_at, counts_of, report_of, plus}
use Rattle.tally.specs.inner.Share.{shares_of}
use Rattle.tally.specs.Holds.{reserved_tags, report_number, Counted, Alone}
use Rattle.tally.proofs.Lists.{count-append, count_most, count-sum, length_to, map-to}
use Rattle.tally.proofs.Counts.{Tags, by-tag, counted-at, tags-small, stops-few, shares-counted}
use Rattle.tally.proofs.Counts.{counted as counts_and_zeros}
use Rattle.tally.specs.declared.Shares.{Shares}
use Rattle.tally.proofs.Sums.{large, large-cons, added-fits, short-added}

-- how many bundles, and how many stops those have at most
pub tags-length : (image : List ℕ) → length (tags_of image) ≡ length image / 16
unfolding tags_of
tags-length image = length_to (λ k. tag_of (number_at image k)) (length image / 16)

module _ (image : List ℕ) where
  counts-length : length (counts_of (tags_of image)) ≡ 32
  counts-length = length_to (with_tag (tags_of image)) 32

  pub report-size : length (report_of image) ≡ 36
  unfolding report_of
  report-size = length-append (counts_of (tags_of image)) _ ∙ omega (arith, counts-length)

  tag_at : (t : ℕ) → t < 32 → report_number image t ≡ with_tag (tags_of image) t
  unfolding report_of
  tag_at t h = counted-at (tags_of image) _ t h

  small : Tags (tags_of image)
  unfolding tags_of
  small = tags-small image (length image / 16)

  -- the four numbers after those of the tags
  abbrev after : List ℕ
  after = length (tags_of image) ∷ how_many reserved (tags_of image) ∷ sum (map stops_at (tags_of image)) ∷ length image % 16 ∷ []

  after-at : (i : ℕ) → report_number image (32 + i) ≡ get_or after i 0
  unfolding report_of
  after-at i = ap (λ (k : ℕ). get_or (report_of image) (k + i) 0) (sym counts-length) ∙ get_or-append-add (counts_of (tags_of image)) after i 0

-- the stops of bundles one after the other
count-all : (tags : List ℕ) → sum (map stops_at tags) ≡ how_many (λ s. s) (flat_map stops_of tags)
unfolding flat_map
count-all [] = refl
count-all (t ∷ tags) = sym (count-append (λ s. s) (stops_of t) (flat_map stops_of tags) ∙ omega (arith, count-all tags))

sum_ones : (l : List ℕ) → sum (map (λ t. 1) l) ≡ length l
sum_ones [] = refl
sum_ones (t ∷ l) = omega (arith, sum_ones l)

-- the reserved tags, each of them once
reserved-listed : (t : ℕ) → t < 32 → cond (reserved t) 1 0 ≡ with_tag reserved_tags t
unfolding units_of
reserved-listed t h = eqb→eq _ (with_tag reserved_tags t) (checked (λ u. eqb (cond (reserved u) 1 0) (with_tag reserved_tags u)) 32 tt t h)

reserved-tags : Tags reserved_tags
reserved-tags i =
    elim (dec_lt i 8) [
      | yes h ↦ ltb→lt _ 32 (checked (λ k. ltb (get_or reserved_tags k 0) 32) 8 tt i h)
      | no h ↦ rw (get_or-eq_default reserved_tags 0 {n = i} (omega arith)) (lit< tt)
    ]

pub counted : (image : List ℕ) → Counted image
counted image =
    record {
      size = report-size image;
      tag = tag_at image;
      bundles = after-at image 0;
      whole = tags-length image;
      reserved-ones = after-at image 1;
      stops = after-at image 2 ∙ count-all (tags_of image);
      rest = after-at image 3;
      tags-sum =
          ap sum (map-to 32 (λ t h. tag_at image t h ∙ sym (mul-one (with_tag (tags_of image) t)))) ∙ by-tag (λ t. 1) (tags_of image) (small image)
          ∙ sum_ones (tags_of image) ∙ sym (after-at image 0);
      reserved-sum =
          sym
          (after-at image 1 ∙ count-sum reserved (tags_of image) ∙ sym (by-tag (λ t. cond (reserved t) 1 0) (tags_of image) (small image))
          ∙ ap sum (map-to 32 (λ t h. ap₂ ◌*◌ (sym (tag_at image t h)) (reserved-listed t h) ∙ mul_comm (report_number image t) (with_tag reserved_tags t)))
          ∙ by-tag (report_number image) reserved_tags reserved-tags);
    }

large-map : (f : ℕ → ℕ) (l : List ℕ) → ((t : ℕ) → f t < 2 ^ 64) → large (map f l) ≡ 0
large-map f [] h = refl
large-map f (t ∷ l) h = large-cons (f t) (map f l) (h t) (large-map f l h)

stops-most : (tags : List ℕ) → Tags tags → sum (map stops_at tags) ≤ 3 * length tags
stops-most [] small = omega arith
stops-most (t ∷ tags) small = omega (arith, stops-few t (small 0), stops-most tags (λ i. small (suc i)))

large-report : (image : List ℕ) → length image ≤ longest_code → large (report_of image) ≡ 0
unfolding report_of
large-report image h =
    let tags = tags_of image in
    let few : length tags ≤ 4096 = omega (arith, tags-length image) in
    let rest = length image % 16 ∷ [] in
    let stops = sum (map stops_at tags) ∷ rest in
    let others : large (after image) ≡ 0 =
    large-cons (length tags) (how_many reserved tags ∷ stops) (omega arith)
    (large-cons (how_many reserved tags) stops (omega (arith, count_most reserved tags))
    (large-cons (sum (map stops_at tags)) rest (omega (arith, stops-most tags (small image)))
    (large-cons (length image % 16) [] (omega arith) refl))) in
    rw (count-append (leb (2 ^ 64)) (counts_of tags) (after image))
    (omega (arith, large-map (with_tag tags) (below 32) (λ t. omega (arith, count_most (λ u. eqb u t) tags)), others))

plus_none : (l : List ℕ) → plus (replicate (length l) 0) l ≡ l
unfolding zip_with
plus_none [] = refl
plus_none (x ∷ l) = λ i. zero-add x i ∷ plus_none l i

pub alone : Alone
alone image h =
    let none : plus (replicate 36 0) (report_of image) ≡ report_of image = ap (λ (n : ℕ). plus (replicate n 0) (report_of image)) (sym (report-size image)) ∙ plus_none (report_of image) in
    short-added (replicate 36 0) image h ∙ added-fits (replicate 36 0) (report_of image) (rw none (large-report image h)) ∙ ap (λ (l : List ℕ). record { answer = accepted; report = l }) none

-- the four places after the counts
filled : (tags : List ℕ) (a b c d : ℕ) → set (set (set (set (counts_and_zeros tags) 32 a) 33 b) 34 c) 35 d ≡ counts_of tags ++ (a ∷ b ∷ c ∷ d ∷ [])
unfolding below
filled tags a b c d = refl

-- how the report is made: the counts, and what they come to after them
pub report-made : (image counts : List ℕ) (shares : Shares) → counts ≡ counts_and_zeros (tags_of image) → shares ≡ shares_of counts
    → set (set (set (set counts 32 (length image / 16)) 33 shares.reserved) 34 shares.stops) 35 (length image % 16) ≡ report_of image
unfolding report_of
report-made image counts shares made shared =
    let is = shared ∙ ap shares_of made ∙ shares-counted (tags_of image) (small image) in
    rw (made, is, ← tags-length image) (filled (tags_of image) _ _ _ _)
