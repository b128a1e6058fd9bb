-- What is written for a window and for those left is written for all.
use Rattle.std.proofs.Common.{arith, ◌∙◌}
use Rattle.text.proofs.Writing.{put_then, put-length}
use Rattle.layout.proofs.Changes.{lines-first}
use Rattle.layout.proofs.change.put_others.Goals as goal

pub loop-one-preserved : goal.loop-one-preserved
loop-one-preserved c =
    let p = c.put_other-end in
    let l = c.loop-one in (
      put-length p.ensures ∙ l.invariant.0,
      omega (arith, p.ensures.place),
      λ after next q. l.invariant.2 after next (rw (c.in-Some.ensures.steps, lines-first c.args.window c.in-Some.one _) (put_then (omega (arith, l.invariant.0)) p.ensures q)),
    )
