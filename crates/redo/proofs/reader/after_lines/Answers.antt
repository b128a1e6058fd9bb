-- A line read is one less to read.
use Rattle.std.proofs.Common.{◌≡◌, ◌+◌, ◌-◌, arith, sym, ap, ◌∙◌}
use Rattle.redo.specs.Read.{after_lines}
use Rattle.redo.proofs.Reading.{after_more, after_none}
use Rattle.redo.proofs.reader.after_lines.Goals as goal

pub returns-in_err-next : goal.returns-in_err-next
returns-in_err-next c =
    let l = c.loop in
    c.from_residual.ensures ∙ sym (l.invariant ∙ after_none _ _ (c.args.count - l.counter) (omega arith) (sym c.in_err-next.ensures))

pub loop-preserved : goal.loop-preserved
loop-preserved c =
    let l = c.loop in
    let less : c.args.count - l.counter - 1 ≡ c.args.count - (l.counter + 1) = omega arith in
    l.invariant ∙ after_more _ _ (c.args.count - l.counter) (omega arith) (sym c.in_ok-next.ensures) ∙ ap (after_lines _ _) less

pub returns : goal.returns
unfolding after_lines
returns c =
    let l = c.loop in
    let none : c.args.count - l.counter ≡ 0 = omega arith in
    rw (l.invariant, none)
