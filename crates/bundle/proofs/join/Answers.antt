-- `join` meets its contract: where none of its refusals applies the tag and the slots fit and there is room, so the sixteen
-- bytes that are written are those of their number.
use Rattle.std.proofs.Common.{ℕ, ◌++◌, drop, ◌∙◌, ap, sym}
use Rattle.std.proofs.lemmas.Result.{err_from_is_err_and}
use Rattle.answer.specs.Answer.{accepted}
use Rattle.answer.proofs.Laws.{no-acceptance}
use Rattle.bundle.specs.Bytes.{bytes}
use Rattle.bundle.specs.Bundle.{joined, whole}
use Rattle.bundle.proofs.Whole.{joined-lt, whole-halves}
use Rattle.bundle.proofs.Laws.{joinable, join-refused, join-done}
use Rattle.bundle.proofs.join.Goals as goal

pub returns-in_err-joinable : goal.returns-in_err-joinable
returns-in_err-joinable c =
    let a = c.args in
    let refusal = err_from_is_err_and c.from_residual.result c.from_residual.ensures.1 in
    let is = c.in_err-joinable.ensures in
    rw (refusal.1, refusal.2)
    (ap (λ (x : ℕ). record { answer = x; out = a.out.now }) is ∙ sym (join-refused a.tag a.slots a.out.now (λ e. no-acceptance _ (is ∙ e))))

pub returns : goal.returns
returns c =
    let a = c.args in
    let done = sym c.in_ok-joinable.ensures in
    let can = joinable a.tag a.slots a.out.now done in
    let number = ap whole c.pack.ensures ∙ whole-halves (joined a.tag a.slots) (joined-lt _ _ _ _ can.fitting) in
    ap (λ l. record { answer = accepted; out = l ++ drop 16 a.out.now }) (c.write.ensures ∙ ap (bytes 16) number)
    ∙ sym (join-done a.tag a.slots a.out.now done)
