-- `immediate` meets its contract: it is the reading of the bundle that was loaded.
use Rattle.std.proofs.Common.{ℕ, sym, refl, ap, ◌∙◌}
use Rattle.std.proofs.lemmas.Result.{err_from_is_err_and}
use Rattle.answer.proofs.Laws.{accepts}
use Rattle.bundle.proofs.Loading.{loading}
use Rattle.immediate.specs.Immediate.{no_immediate, immediate_in, immediate_of}
use Rattle.immediate.proofs.Laws.{refused}
use Rattle.immediate.proofs.immediate.Goals as goal

pub returns-in_err-halves : goal.returns-in_err-halves
unfolding immediate_of
returns-in_err-halves c =
    let reason = err_from_is_err_and c.from_residual.result c.from_residual.ensures.1 in
    let l = loading c.args.code.now c.args.bundle (λ i. (c.type_inv.code i).fits) c.in_err-halves.ensures in
    rw (reason.1, reason.2) (refused no_immediate _ _ _ l.answer)

pub returns : goal.returns
unfolding immediate_of
returns c =
    let a = c.args in
    let l = loading a.code.now a.bundle (λ i. (c.type_inv.code i).fits) c.in_ok-halves.ensures in
    c.immediate_in.ensures ∙ ap (λ (n : ℕ). immediate_in n a.slot a.form) (l.number refl) ∙ sym (accepts _ _ _ (sym l.answer))
