-- Images joined: the bundles of an image of whole bundles and of what follows it are those of both, so each count is the sum of both.
-- Assumes nothing.
use mathlib.Core.Path.{◌≡◌, refl, sym, ap, ap₂, ◌∙◌}
use mathlib.Core.List.{List, [], ◌∷◌, ◌++◌, map, zip_with, append_assoc, append-nil, map-append}
use Prim.Native.Nat.{ℕ, zero, suc, ◌+◌, ◌*◌, ◌/◌, ◌%◌, ◌<◌}
use native.Mathlib.Nat.{add-zero, add-suc, mul-add}
use native.Mathlib.Omega.{arith}
use lib.Dec.{eqb}
use lib.ListN.{length, take, drop, length-append, length-drop}
use lib.Seq.{take-append-le, drop-append-le, drop-append-add}
use Rattle.bundle.specs.Bytes.{number}
use Rattle.bundle.specs.Bundle.{tag_of, number_at, bundle_at}
use Rattle.bundle.specs.Template.{reserved}
use Rattle.tally.specs.Report.{how_many, sum, below, tags_to, tags_of, with_tag, stops_at, counts_of, report_of, plus}
use Rattle.tally.specs.Holds.{JoinedSums}
use Rattle.tally.proofs.Lists.{count-append, sum-append, below_none, map_more, map-to}

module _ (a b : List ℕ) (k : ℕ) (whole : length a ≡ 16 * k) where
  first-bundles : (n : ℕ) → n < k → bundle_at (a ++ b) n ≡ bundle_at a n
  first-bundles n h =
      rw (drop-append-le (16 * n) a b (omega arith))
      (take-append-le 16 (drop (16 * n) a) b (omega (arith, length-drop (16 * n) a)))

  next-bundles : (n : ℕ) → bundle_at (a ++ b) (k + n) ≡ bundle_at b n
  next-bundles n = rw (mul-add 16 k n, ← whole) (ap (take 16) (drop-append-add a b (16 * n)))

  tags-first : tags_to (a ++ b) k ≡ tags_to a k
  tags-first = map-to k (λ n h. ap (λ (l : List ℕ). tag_of (number l)) (first-bundles n h))

  tags-next : (n : ℕ) → tags_to (a ++ b) (k + n) ≡ tags_to a k ++ tags_to b n
  tags-next zero = rw (add-zero, below_none) (tags-first ∙ sym (append-nil (tags_to a k)))
  tags-next (suc n) =
      rw (add-suc, map_more (λ i. tag_of (number_at (a ++ b) i)) (k + n), map_more (λ i. tag_of (number_at b i)) n, ← append_assoc (tags_to a k) (tags_to b n) (tag_of (number_at b n) ∷ []))
      (ap₂ (λ (l : List ℕ) (m : List ℕ). l ++ (tag_of (number m) ∷ [])) (tags-next n) (next-bundles n))

pub tags-joined : (a b : List ℕ) → length a % 16 ≡ 0 → tags_of (a ++ b) ≡ tags_of a ++ tags_of b
unfolding tags_of
tags-joined a b whole =
    let e : length (a ++ b) / 16 ≡ length a / 16 + length b / 16 = rw (length-append a b) (omega arith) in
    rw e (tags-next a b (length a / 16) (omega arith) (length b / 16))

-- the counts of both, and what follows them
plus-counts : (s t : List ℕ) (l x y : List ℕ) → map (with_tag (s ++ t)) l ++ plus x y ≡ plus (map (with_tag s) l ++ x) (map (with_tag t) l ++ y)
unfolding zip_with
plus-counts s t [] x y = refl
plus-counts s t (u ∷ l) x y = ap₂ ◌∷◌ (count-append (λ v. eqb v u) s t) (plus-counts s t l x y)

pub joined : JoinedSums
unfolding report_of zip_with
joined a b whole =
    let s = tags_of a in
    let t = tags_of b in
    let bundles = length-append s t in
    let reserved-ones = count-append reserved s t in
    let stops = ap sum (map-append stops_at s t) ∙ sum-append (map stops_at s) (map stops_at t) in
    let rest : length (a ++ b) % 16 ≡ length a % 16 + length b % 16 = rw (length-append a b) (omega arith) in
    rw (tags-joined a b whole)
    (ap (λ (l : List ℕ). counts_of (s ++ t) ++ l) (λ i. bundles i ∷ reserved-ones i ∷ stops i ∷ rest i ∷ [])
    ∙ plus-counts s t (below 32) (length s ∷ how_many reserved s ∷ sum (map stops_at s) ∷ length a % 16 ∷ []) (length t ∷ how_many reserved t ∷ sum (map stops_at t) ∷ length b % 16 ∷ []))
