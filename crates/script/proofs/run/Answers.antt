-- Each turn does one line more. Assumes nothing.
use Rattle.std.proofs.Common.{sym, ◌∙◌}
use Rattle.script.proofs.Between.{turn-of, less, moved, again, rest-on, done}
use Rattle.script.proofs.run.Goals as goal

pub loop-code-smaller : goal.loop-code-smaller
loop-code-smaller c =
    let l = c.loop-code in
    let u = turn-of c.args.text.now l.out l.state (sym c.goes_on.ensures ∙ c.loop-code-test.true) in
    less _ _ _ _ _ _ _ _ _ _ l.state c.run_line-state.result l.invariant u c.run_line-state.ensures.2

pub loop-code-preserved : goal.loop-code-preserved
loop-code-preserved c =
    let l = c.loop-code in
    let b = l.invariant in
    let u = turn-of c.args.text.now l.out l.state (sym c.goes_on.ensures ∙ c.loop-code-test.true) in
    let e = c.run_line-state.ensures in
    record {
      keeps = e.0;
      rest = e.1.rest ∙ rest-on l.out _ l.state.ran.length c.run_line-state.result.ran.length e.1.more b.rest;
      long = c.run_line-state.auto.out ∙ b.long;
      within = moved _ _ _ _ _ _ _ _ _ _ l.state c.run_line-state.result b u e.2;
      goes = again _ _ _ _ _ _ _ _ _ _ l.state c.run_line-state.result b u e.2;
    }

pub returns : goal.returns
returns c =
    let l = c.loop-code in
    done _ _ _ _ _ _ _ _ l.invariant (sym c.goes_on.ensures ∙ c.loop-code-test.false)
