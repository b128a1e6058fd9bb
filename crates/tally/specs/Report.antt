-- The template report of request #114: an image's bundles counted by their tags, and how images add up. Assumes nothing.
use Rattle.std.specs.Prelude.{ℕ, zero, suc, ◌+◌, ◌/◌, ◌%◌, ◌^◌, Bool, true, eqb, leb, ltb, length}
use Rattle.std.proofs.Math.Bool.{Bool-discrete}
use mathlib.Core.List.{List, [], ◌∷◌, ◌++◌, map, filter, foldr, zip_with}
use Rattle.answer.specs.Answer.{Reason, first, outcome, bad_value, too_long}
use Rattle.bundle.specs.Bundle.{longest_code, number_at, tag_of}
use Rattle.bundle.specs.Template.{reserved, stops_of}

-- how many of a list pass a test
abbrev pub how_many {ℓ} : {A : Type ℓ} → (A → Bool) → List A → ℕ
how_many test l = length (filter (λ a. Bool-discrete (test a) true) l)

-- the sum of a list
abbrev pub sum : List ℕ → ℕ
sum l = foldr ◌+◌ 0 l

-- the numbers below n
unfoldable pub below : ℕ → List ℕ
below zero = []
below (suc n) = below n ++ (n ∷ [])

-- the tags of an image's first n bundles, and of all its whole ones
abbrev pub tags_to : List ℕ → ℕ → List ℕ
tags_to image n = map (λ k. tag_of (number_at image k)) (below n)

unfoldable pub tags_of : List ℕ → List ℕ
tags_of image = tags_to image (length image / 16)

-- how many of some bundles have tag t
abbrev pub with_tag : List ℕ → ℕ → ℕ
with_tag tags t = how_many (λ u. eqb u t) tags

-- how many stops a bundle of tag t has
abbrev pub stops_at : ℕ → ℕ
stops_at t = how_many (λ s. s) (stops_of t)

-- the counts of the 32 tags
abbrev pub counts_of : List ℕ → List ℕ
counts_of tags = map (with_tag tags) (below 32)

-- the report of an image: a count for each tag, then the bundles, the reserved ones, their stops and the bytes of the tail
unfoldable pub report_of : List ℕ → List ℕ
report_of image =
    let tags = tags_of image in
    counts_of tags ++ (length tags ∷ how_many reserved tags ∷ sum (map stops_at tags) ∷ length image % 16 ∷ [])

-- two reports added up
abbrev pub plus : List ℕ → List ℕ → List ℕ
plus a b = zip_with ◌+◌ a b

-- some number of a report takes more than 64 bits
abbrev pub overflows : List ℕ → Bool
overflows report = ltb 0 (how_many (leb (2 ^ 64)) report)

-- an answer, and what the report then is
pub record Added : Type 0 where
  pub answer : ℕ
  pub report : List ℕ

-- a report with another added, after the refusals given: the sum, and where refused the report as it was
unfoldable pub added_by : List Reason → List ℕ → List ℕ → Added
added_by before report more =
    let answer = first (before ++ (bad_value, overflows (plus report more)) ∷ []) in
    record { answer = answer; report = outcome answer (plus report more) report }

-- what adding an image to a report hands back
unfoldable pub added_of : List ℕ → List ℕ → Added
added_of report image = added_by ((too_long, ltb longest_code (length image)) ∷ []) report (report_of image)
