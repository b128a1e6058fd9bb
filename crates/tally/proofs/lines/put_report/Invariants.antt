-- The lines of the first `i` numbers are written.
use Rattle.text.specs.Put.{Put}
use Rattle.tally.specs.Text.{number_lines}
use Rattle.tally.proofs.lines.put_report.Given as goal

abbrev pub invariant-loop-i : goal.invariant-loop-i
invariant-loop-i l = Put l.fn.out l.at (number_lines l.fn.report l.i) l.out l.next
