-- A line more is written, and all of them have room.
use Rattle.std.proofs.Common.{ℕ, get_or, arith, rules}
use mir.Syntax.{w64}
use mir.Val.{Fits}
use Rattle.text.proofs.Writing.{put-none, put_then}
use Rattle.tally.specs.Text.{number_lines}
use Rattle.tally.proofs.Texts.{lines_more, text-most}
use Rattle.tally.proofs.lines.put_report.Goals as goal

pub loop-i-init : goal.loop-i-init
unfolding number_lines
loop-i-init c = put-none (omega arith)

pub loop-i-preserved : goal.loop-i-preserved
loop-i-preserved c = rw (lines_more c.args.report c.loop-i.i) (put_then (omega arith) c.loop-i.invariant c.put_line-next.ensures)

pub returns-clause-room : goal.returns-clause-room
returns-clause-room c =
    let fits : (i : ℕ) → Fits w64 (get_or c.args.report i 0) = λ i. search rules in
    text-most c.args.report (λ i. (fits i).fits)
