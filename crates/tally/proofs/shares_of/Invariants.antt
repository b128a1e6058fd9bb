-- The shares of the tags below `tag` are summed.
use Rattle.std.proofs.Common.{◌≡◌, ◌*◌, ◌≤◌, get_or}
use mathlib.Core.List.{map}
use Rattle.tally.specs.Report.{sum, below}
use Rattle.tally.specs.inner.Share.{tag_shares}
use Rattle.tally.proofs.shares_of.Given as goal

abbrev pub invariant-loop-tag : goal.invariant-loop-tag
invariant-loop-tag l =
    (l.reserved ≡ sum (map (λ t. get_or l.counts t 0 * (tag_shares t).reserved) (below l.tag))) × (l.reserved ≤ 12288 * l.tag)
    × (l.stops ≡ sum (map (λ t. get_or l.counts t 0 * (tag_shares t).stops) (below l.tag))) × (l.stops ≤ 12288 * l.tag)
