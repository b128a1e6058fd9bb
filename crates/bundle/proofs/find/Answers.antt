-- `find` meets its contract: its test is the definition's.
use Rattle.std.proofs.Common.{◌∙◌, sym, []}
use Rattle.answer.proofs.Laws.{accepts, refuses, no-acceptance}
use Rattle.bundle.specs.Bundle.{find_of, find_answer, bundle_at}
use Rattle.bundle.proofs.find.Goals as goal

pub returns-in-Ok : goal.returns-in-Ok
unfolding find_of
returns-in-Ok c =
    let a = c.args in
    c.sixteen.ensures ∙ sym (accepts (find_answer a.code.now a.bundle) (bundle_at a.code.now a.bundle) [] (sym c.in-Ok.ensures))

pub returns-in-Err : goal.returns-in-Err
unfolding find_of
returns-in-Err c =
    let a = c.args in
    sym (refuses (find_answer a.code.now a.bundle) (bundle_at a.code.now a.bundle) [] (λ e. no-acceptance _ (c.in-Err.ensures ∙ e)))
