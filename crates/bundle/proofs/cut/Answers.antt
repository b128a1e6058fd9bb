-- `cut` meets its contract: it is the definition, over what was loaded.
use Rattle.std.proofs.Common.{◌∙◌, ap, sym}
use Rattle.std.proofs.lemmas.Result.{err_from_is_err_and}
use Rattle.answer.specs.Answer.{accepted, number_of}
use Rattle.answer.proofs.Laws.{accepts, refuses, no-acceptance}
use Rattle.bundle.specs.Bundle.{whole, cut_number, uncut, cut_loaded, cut_of}
use Rattle.bundle.proofs.cut.Goals as goal

pub returns-in_err-halves : goal.returns-in_err-halves
unfolding cut_of
returns-in_err-halves c =
    let reason = err_from_is_err_and c.from_residual.result c.from_residual.ensures.1 in
    let refusal = c.in_err-halves.field-0.0 in
    rw (reason.1, reason.2)
    (sym (refuses (number_of refusal) _ (uncut (number_of refusal)) (no-acceptance refusal)) ∙ ap cut_loaded c.in_err-halves.ensures)

pub returns : goal.returns
unfolding cut_of
returns c = c.cut_halves.ensures ∙ sym (accepts accepted (cut_number (whole c.in_ok-halves.halves)) (uncut accepted) (λ i. accepted)) ∙ ap cut_loaded c.in_ok-halves.ensures
