-- What is kept is right. Assumes nothing.
use Rattle.std.proofs.Common.{length}
use Rattle.script.specs.inner.Going.{so_far}
use Rattle.script.proofs.Between.{Between, left}
use Rattle.script.proofs.run.Given as goal

abbrev pub invariant-loop-code : goal.invariant-loop-code
invariant-loop-code l = Between l.party l.text l.fn.out (so_far l.initial.state l.fn.records l.fn.code l.fn.out) l.records l.code l.out l.state

abbrev pub decreases-loop-code : goal.decreases-loop-code
decreases-loop-code l = left (length l.text) l.state
