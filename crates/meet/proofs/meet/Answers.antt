-- `meet` meets its contract: its tests are those of the definition, in their order.
use Rattle.std.proofs.Common.{Bool, not, ◌&&◌, ◌∙◌, ap, ap₂, sym, eq-eqb, ne_eqb}
use Rattle.std.proofs.lemmas.Result.{err_from_is_err_and}
use Rattle.answer.proofs.Laws.{no-acceptance}
use Rattle.bits.specs.Parts.{meet_not}
use Rattle.immediate.specs.Immediate.{parts_of}
use Rattle.meet.specs.Meet.{no_meeting}
use Rattle.meet.proofs.Laws.{first-refused, second-refused, both-asked}
use Rattle.meet.proofs.meet.Goals as goal

pub returns-in_err-first : goal.returns-in_err-first
returns-in_err-first c =
    let reason = err_from_is_err_and c.from_residual.result c.from_residual.ensures.1 in
    let is = c.in_err-first.ensures.answer in
    rw (reason.1, reason.2) (ap no_meeting is ∙ first-refused c.args.one c.args.other (λ q. no-acceptance _ (is ∙ q)))

pub returns-in_err-second : goal.returns-in_err-second
returns-in_err-second c =
    let reason = err_from_is_err_and c.from_residual-in_err-second.result c.from_residual-in_err-second.ensures.1 in
    let is = c.in_err-second.ensures.answer in
    rw (reason.1, reason.2) (ap no_meeting is ∙ second-refused c.args.one c.args.other (sym c.in_ok-first.ensures.answer) (λ q. no-acceptance _ (is ∙ q)))

-- both edits have bits, so what is handed back is whether they meet
pub returns-then-one-other : goal.returns-then-one-other
returns-then-one-other c =
    let a = c.args in
    let same = eq-eqb a.one.bundle a.other.bundle c.if-one-other.true in
    let apart = c.is_apart.ensures ∙ ap₂ meet_not c.in_ok-first.ensures.bits c.in_ok-second.ensures.bits in
    let is = ap not apart ∙ sym (ap (λ (t : Bool). t && not (meet_not (parts_of a.one) (parts_of a.other))) same) in
    (λ i. record { answer = 0; meet = is i }) ∙ sym (both-asked a.one a.other (sym c.in_ok-first.ensures.answer) (sym c.in_ok-second.ensures.answer))

pub returns-else-one-other : goal.returns-else-one-other
returns-else-one-other c =
    let a = c.args in
    let differ = ne_eqb a.one.bundle a.other.bundle c.if-one-other.false in
    let is = differ ∙ sym (ap (λ (t : Bool). t && not (meet_not (parts_of a.one) (parts_of a.other))) differ) in
    (λ i. record { answer = 0; meet = is i }) ∙ sym (both-asked a.one a.other (sym c.in_ok-first.ensures.answer) (sym c.in_ok-second.ensures.answer))
