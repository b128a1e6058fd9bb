-- The first `n` bundles are counted, in a turn four more.
use Rattle.std.proofs.Common.{◌≡◌, ◌*◌}
use Rattle.tally.specs.Report.{tags_to}
use Rattle.tally.proofs.Counts.{counted}
use Rattle.tally.proofs.by_tag.Given as goal

abbrev pub invariant-loop-turn : goal.invariant-loop-turn
invariant-loop-turn l = l.counts ≡ counted (tags_to l.image (4 * l.turn))

abbrev pub invariant-loop-n : goal.invariant-loop-n
invariant-loop-n l = l.counts ≡ counted (tags_to l.image l.n)
