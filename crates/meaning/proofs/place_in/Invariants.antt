-- The places that were passed don't have the number, so it is sought below them.
use Rattle.std.proofs.Common.{◌≡◌}
use Rattle.meaning.specs.Meaning.{place_in}
use Rattle.meaning.proofs.place_in.Given as goal

abbrev pub invariant-loop-place : goal.invariant-loop-place
invariant-loop-place l = place_in l.list l.count l.entry ≡ place_in l.list l.place l.entry
