-- The place after all lines is that after those left.
use Rattle.std.proofs.Common.{◌≡◌, ◌-◌}
use Rattle.redo.specs.Read.{after_lines}
use Rattle.redo.proofs.reader.after_lines.Given as goal

abbrev pub invariant-loop : goal.invariant-loop
invariant-loop l = after_lines l.text l.first l.count ≡ after_lines l.text l.at (l.count - l.counter)
