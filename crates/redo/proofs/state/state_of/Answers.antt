-- The tests are the definition's.
use Rattle.std.proofs.Common.{arith, sym, ◌∙◌}
use Rattle.redo.specs.State.{state_of}
use Rattle.redo.proofs.States.{same-whole}
use Rattle.redo.proofs.state.state_of.Goals as goal

pub returns-then-eq : goal.returns-then-eq
unfolding state_of
returns-then-eq c =
    let same = c.if-eq.ensures ∙ same-whole c.args.now c.args.old (omega (arith, c)) (omega (arith, c)) in
    rw (sym same)

pub returns-then-eq-2 : goal.returns-then-eq-2
unfolding state_of
returns-then-eq-2 c =
    let other = c.if-eq.ensures ∙ same-whole c.args.now c.args.old (omega (arith, c)) (omega (arith, c)) in
    let same = c.if-eq-2.ensures ∙ same-whole c.args.now c.args.new (omega (arith, c)) (omega (arith, c)) in
    rw (sym other, sym same)

pub returns-then-is_torn : goal.returns-then-is_torn
unfolding state_of
returns-then-is_torn c =
    let other = c.if-eq.ensures ∙ same-whole c.args.now c.args.old (omega (arith, c)) (omega (arith, c)) in
    let neither = c.if-eq-2.ensures ∙ same-whole c.args.now c.args.new (omega (arith, c)) (omega (arith, c)) in
    rw (sym other, sym neither, sym c.if-is_torn.ensures)

pub returns : goal.returns
unfolding state_of
returns c =
    let other = c.if-eq.ensures ∙ same-whole c.args.now c.args.old (omega (arith, c)) (omega (arith, c)) in
    let neither = c.if-eq-2.ensures ∙ same-whole c.args.now c.args.new (omega (arith, c)) (omega (arith, c)) in
    rw (sym other, sym neither, sym c.if-is_torn.ensures)
