-- There are no more windows than bytes.
use Rattle.std.proofs.Common.{ℕ, ◌≤◌, List, length, arith, ap}
use Rattle.layout.specs.Change.{others}
use Rattle.layout.specs.Read.{windows_at}
use Rattle.layout.specs.inner.Left.{windows_left}
use Rattle.layout.proofs.Changes.{others-few, count-first}
use Rattle.layout.proofs.Lines.{windows-few}
use Rattle.layout.proofs.change.count_others.Goals as goal

-- no more than there are bytes
few : (text : List ℕ) (first count window : ℕ) → length (others window (windows_at text first count)) ≤ length text
few text first count window = omega (arith, others-few window (windows_at text first count), windows-few text count first)

pub overflow_add-others : goal.overflow_add-others
overflow_add-others c =
    let one = ap (λ (ws : List ℕ). length (others c.args.window ws)) c.in-Some.ensures.steps in
    omega (arith, one, count-first c.args.window c.in-Some.one (windows_left c.next.new.self), c.loop-one.invariant, c.count_other-others.ensures, few c.args.text.now c.args.found.first c.args.found.count c.args.window)

pub returns : goal.returns
returns c =
    let none = ap (λ (ws : List ℕ). length (others c.args.window ws)) c.in-None.ensures.steps.0 in
    (omega (arith, none, c.loop-one.invariant), omega (arith, none, c.loop-one.invariant, few c.args.text.now c.args.found.first c.args.found.count c.args.window))
