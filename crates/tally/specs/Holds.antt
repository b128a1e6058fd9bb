-- What request #114 asks of a report beside the contract of `add`: its numbers are counts over the image's bundles, and reports add up.
-- Proved in `proofs/Reports.antt`, `Joins.antt` and `Order.antt`. Assumes nothing.
use Rattle.std.specs.Prelude.{ℕ, ◌/◌, ◌%◌, ◌≤◌, ◌<◌, ◌≡◌, eqb, length, get_or, replicate}
use mathlib.Core.List.{List, [], ◌∷◌, ◌++◌, map, flat_map, Permᴰ}
use Rattle.answer.specs.Answer.{accepted, bad_value}
use Rattle.bundle.specs.Bundle.{longest_code}
use Rattle.bundle.specs.Template.{reserved, stops_of}
use Rattle.tally.specs.Report.{how_many, sum, below, tags_of, report_of, plus, added_of}

-- the tags that the manual reserves
abbrev pub reserved_tags : List ℕ
reserved_tags = 6 ∷ 7 ∷ 20 ∷ 21 ∷ 26 ∷ 27 ∷ 30 ∷ 31 ∷ []

-- a number of an image's report
abbrev pub report_number : List ℕ → ℕ → ℕ
report_number image i = get_or (report_of image) i 0

-- each number is a count over the bundles, the 32 sum to the bundles, and the reserved ones are those of the reserved tags
pub record Counted (image : List ℕ) : Type 0 where
  pub size : length (report_of image) ≡ 36
  pub tag : (t : ℕ) → t < 32 → report_number image t ≡ how_many (λ u. eqb u t) (tags_of image)
  pub bundles : report_number image 32 ≡ length (tags_of image)
  pub whole : length (tags_of image) ≡ length image / 16
  pub reserved-ones : report_number image 33 ≡ how_many reserved (tags_of image)
  pub stops : report_number image 34 ≡ how_many (λ s. s) (flat_map stops_of (tags_of image))
  pub rest : report_number image 35 ≡ length image % 16
  pub tags-sum : sum (map (report_number image) (below 32)) ≡ report_number image 32
  pub reserved-sum : sum (map (report_number image) reserved_tags) ≡ report_number image 33

-- from an empty report an image gives its own
abbrev pub Alone : Type 0
Alone = (image : List ℕ) → length image ≤ longest_code → added_of (replicate 36 0) image ≡ record { answer = accepted; report = report_of image }

-- the report of an image of whole bundles and another, joined, is the sum of theirs
abbrev pub JoinedSums : Type 0
JoinedSums = (a b : List ℕ) → length a % 16 ≡ 0 → report_of (a ++ b) ≡ plus (report_of a) (report_of b)

-- a report with images added one after the other; the last stands first
abbrev pub added_all : List ℕ → List (List ℕ) → List ℕ
added_all report [] = report
added_all report (image ∷ images) = (added_of (added_all report images) image).report

-- no sum is refused on the way
abbrev pub Fits : List ℕ → List (List ℕ) → Type 0
Fits report [] = Unit {0}
Fits report (image ∷ images) = Fits report images × ((added_of (added_all report images) image).answer ≡ bad_value → ⊥)

-- two images one after the other come to the same as joined
abbrev pub JoinedAdds : Type 0
JoinedAdds = (report a b : List ℕ) → length a % 16 ≡ 0 → length (a ++ b) ≤ longest_code → Fits report (b ∷ a ∷ [])
    → added_of report (a ++ b) ≡ record { answer = accepted; report = added_all report (b ∷ a ∷ []) }

-- where no sum is refused, none is in another order either, and the report is the same; images that are too long may be among them
abbrev pub AnyOrder : Type 0
AnyOrder = (report : List ℕ) (images others : List (List ℕ)) → Permᴰ images others → Fits report images
    → Fits report others × (added_all report others ≡ added_all report images)
