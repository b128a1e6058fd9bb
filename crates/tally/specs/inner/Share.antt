-- How the reserved ones and the stops come from the counts of the tags: each tag has its share of both. Assumes nothing.
use Rattle.std.specs.Prelude.{ℕ, ◌*◌, ◌≤◌, ◌<◌, cond, List, map, get_or}
use Rattle.bundle.specs.Template.{reserved}
use Rattle.tally.specs.Report.{sum, below, stops_at}
use Rattle.tally.specs.declared.Shares.{Shares}

-- what a bundle of tag t adds to the reserved ones and the stops
abbrev pub tag_shares : ℕ → Shares
tag_shares t = record { reserved = cond (reserved t) 1 0; stops = stops_at t }

-- no tag has more bundles than a code
abbrev pub Few : List ℕ → Type 0
Few counts = (t : ℕ) → t < 32 → get_or counts t 0 ≤ 4096

-- what so many bundles of each tag add
abbrev pub shares_of : List ℕ → Shares
shares_of counts =
    record {
      reserved = sum (map (λ t. get_or counts t 0 * (tag_shares t).reserved) (below 32));
      stops = sum (map (λ t. get_or counts t 0 * (tag_shares t).stops) (below 32));
    }
