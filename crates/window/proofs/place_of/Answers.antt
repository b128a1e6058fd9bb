-- A case of what the place is at each return.
use Rattle.std.proofs.Common.{arith, sym, ◌∙◌}
use Rattle.window.proofs.Laws.{Lies, code-lies, place_none, place-before, place-past, place_is}
use Rattle.window.proofs.place_of.Goals as goal

pub returns-then-not-is_code : goal.returns-then-not-is_code
returns-then-not-is_code c = place_none _ _ (sym c.is_code.ensures ∙ c.if-not-is_code.true) _

pub returns-in_err-before : goal.returns-in_err-before
returns-in_err-before c = c.from_residual.ensures ∙ place-before _ _ (sym c.is_code.ensures ∙ c.if-not-is_code.false) _ (omega (arith, c.in_err-before.ensures))

pub returns-in_err-most : goal.returns-in_err-most
returns-in_err-most c = c.from_residual-in_err-most.ensures ∙ place-past _ _ (sym c.is_code.ensures ∙ c.if-not-is_code.false) _ (omega arith) (omega (arith, c.in_err-most.ensures))

pub returns-then-most-before : goal.returns-then-most-before
returns-then-most-before c = place-past _ _ (sym c.is_code.ensures ∙ c.if-not-is_code.false) _ (omega arith) (omega arith)

pub overflow_add-result : goal.overflow_add-result
overflow_add-result c =
    let lies : Lies c.args.extent c.args.length = code-lies _ _ (sym c.is_code.ensures ∙ c.if-not-is_code.false) in
    omega arith

pub returns : goal.returns
returns c =
    rw c.in_ok-before.ensures.1 (place_is _ _ (sym c.is_code.ensures ∙ c.if-not-is_code.false) _ (omega arith) (omega arith))
