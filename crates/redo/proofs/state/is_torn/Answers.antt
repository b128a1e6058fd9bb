-- Sixteen bytes are those of both halves.
use Rattle.std.proofs.Common.{Bool, arith, ◌∙◌}
use mathlib.Core.Path.{ap₂}
use mathlib.Core.Bool.{◌&&◌}
use Rattle.redo.proofs.States.{mixed-halves}
use Rattle.redo.proofs.state.is_torn.Goals as goal

pub returns : goal.returns
returns c =
    ap₂ (λ (a b : Bool). a && b) c.is_mixed.ensures c.is_mixed-2.ensures
    ∙ mixed-halves c.args.now c.args.old c.args.new (omega (arith, c)) (omega (arith, c)) (omega (arith, c))
