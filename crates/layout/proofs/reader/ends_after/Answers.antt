-- A line read is one less to read.
use Rattle.std.proofs.Common.{◌≡◌, ◌+◌, ◌-◌, ◌<◌, arith, sym, ◌∙◌}
use Rattle.layout.specs.Read.{ends_after}
use Rattle.layout.proofs.Lines.{ends_more, ends-none}
use Rattle.layout.proofs.reader.ends_after.Goals as goal

pub returns-in_default : goal.returns-in_default
returns-in_default c =
    let left : 0 < c.args.count - c.loop.counter = omega arith in
    sym (c.loop.invariant ∙ ends-none _ _ _ left (sym c.in_default.ensures))

pub loop-preserved : goal.loop-preserved
loop-preserved c =
    let left : 0 < c.args.count - c.loop.counter = omega arith in
    let next : c.args.count - (c.loop.counter + 1) ≡ c.args.count - c.loop.counter - 1 = omega arith in
    rw next (c.loop.invariant ∙ ends_more _ _ _ left (sym c.in-Some.ensures))

pub returns : goal.returns
unfolding ends_after
returns c =
    let none : c.args.count - c.loop.counter ≡ 0 = omega arith in
    rw (c.loop.invariant, none)
