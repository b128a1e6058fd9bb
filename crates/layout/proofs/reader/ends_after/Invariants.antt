-- The text ends after all lines where it ends after those left.
use Rattle.std.proofs.Common.{◌≡◌, ◌-◌}
use Rattle.layout.specs.Read.{ends_after}
use Rattle.layout.proofs.reader.ends_after.Given as goal

abbrev pub invariant-loop : goal.invariant-loop
invariant-loop l = ends_after l.text l.first l.count ≡ ends_after l.text l.at (l.count - l.counter)
