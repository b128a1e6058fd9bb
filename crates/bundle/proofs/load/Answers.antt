-- `load` meets its contract: each return is a case of what loading comes to.
use Rattle.std.proofs.Common.{ℕ, length, ◌∙◌, ap, sym}
use Rattle.std.proofs.lemmas.Result.{err_from_is_err_and}
use Rattle.answer.proofs.Laws.{no-acceptance}
use Rattle.bundle.specs.Bytes.{number}
use Rattle.bundle.specs.Bundle.{halves_of}
use Rattle.bundle.proofs.Laws.{found-sixteen, loaded_found, loaded-not-found}
use Rattle.bundle.proofs.load.Goals as goal

pub returns-in_err-found : goal.returns-in_err-found
returns-in_err-found c =
    let refusal = err_from_is_err_and c.from_residual.result c.from_residual.ensures.1 in
    let is = c.in_err-found.ensures in
    rw (refusal.1, refusal.2)
    (ap (λ (a : ℕ). record { answer = a; halves = halves_of 0 }) is ∙ sym (loaded-not-found _ _ (λ e. no-acceptance _ (is ∙ e))))

pub read-requires : goal.read-requires
read-requires c = ap length c.sixteen.ensures ∙ found-sixteen _ _ (sym c.in_ok-found.ensures)

pub returns : goal.returns
returns c =
    let halves = c.read.ensures ∙ ap (λ l. halves_of (number l)) c.sixteen.ensures in
    (λ i. record { answer = 0; halves = halves i }) ∙ sym (loaded_found _ _ (sym c.in_ok-found.ensures))
