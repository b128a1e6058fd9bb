-- The refusals of finding, of the change and of the journal come one after the other, and the record is the change's. Assumes nothing.
use mathlib.Core.Path.{◌≡◌, ◌∙◌, ap, sym}
use mathlib.Core.List.{List, ◌++◌}
use Prim.Native.Nat.{ℕ, ◌+◌}
use borrow.Author.Rules.{rules}
use Rattle.std.proofs.Common.{Ok, Err}
use Rattle.std.proofs.lemmas.Result.{err_from_is_err_and}
use Rattle.answer.specs.Answer.{Reason, accepted, first, number_of}
use Rattle.answer.specs.declared.Refusal.{Refusal}
use Rattle.answer.proofs.Laws.{first_on, accepts}
use Rattle.bundle.specs.Bundle.{number_at, whole, halves_of, as_loaded, loaded_of}
use Rattle.bundle.specs.declared.half.Halves.{Halves}
use Rattle.bundle.proofs.Bytes.{Bytes}
use Rattle.form.specs.declared.Edit.{Edit}
use Rattle.immediate.specs.Immediate.{change_refusals, changed_number, Changed, as_changed, changed_of}
use Rattle.immediate.proofs.Laws.{changed-answer, changed-taken}
use Rattle.records.specs.Journal.{Shown}
use Rattle.records.specs.inner.Shows.{as_shown}
use Rattle.journal.specs.Change.{room_refusals}
use Rattle.journal.specs.inner.Plan.{field_refusals, edit_answer, edit_plan_of}
use Rattle.journal.proofs.Laws.{refused-is, refusal-stops, load-stops, load-goes-on, load-number, load-halves}
use Rattle.journal.proofs.plan.edit_plan.Goals as goal

module _ (code : List ℕ) (edit : Edit) (places : ℕ) (view : Shown) (bytes : Bytes code) where
  abbrev changing : List Reason
  changing = change_refusals (number_at code edit.bundle) edit

  abbrev room : List Reason
  room = room_refusals places view 1

  abbrev answer : ℕ
  answer = edit_answer places view (field_refusals code edit)

  missing : (refusal : Refusal) → as_loaded (Err refusal) ≡ loaded_of code edit.bundle → number_of refusal ≡ answer
  missing refusal is = load-stops code edit.bundle bytes (changing ++ room) refusal is

  -- what was loaded
  module _ (old : Halves) (is : as_loaded (Ok old) ≡ loaded_of code edit.bundle) where
    found : answer ≡ first (changing ++ room)
    found = load-goes-on code edit.bundle bytes (changing ++ room) old is

    number : whole old ≡ number_at code edit.bundle
    number = load-number code edit.bundle bytes (changing ++ room) old is

    unfit : (refusal : Refusal) → as_changed (Err refusal) ≡ changed_of (whole old) edit → number_of refusal ≡ answer
    unfit refusal made =
        let answers = ap (λ (x : Changed). x.answer) (made ∙ ap (λ (n : ℕ). changed_of n edit) number) ∙ changed-answer _ _ in
        refusal-stops refusal changing room answers ∙ sym found

    -- what the change comes to
    module _ (new : Halves) (made : as_changed (Ok new) ≡ changed_of (whole old) edit) where
      changed : as_changed (Ok new) ≡ changed_of (number_at code edit.bundle) edit
      changed = made ∙ ap (λ (n : ℕ). changed_of n edit) number

      taken : first changing ≡ accepted
      taken = sym (ap (λ (x : Changed). x.answer) changed ∙ changed-answer _ _)

      -- what the journal answers, once the change is accepted
      answers : answer ≡ first room
      answers = found ∙ first_on changing room tt taken

      new-is : new ≡ halves_of (changed_number (number_at code edit.bundle) edit)
      new-is = ap (λ (x : Changed). x.bundle) (changed ∙ changed-taken _ _ taken)

pub returns-in_err-old : goal.returns-in_err-old
unfolding edit_plan_of
returns-in_err-old c =
    let a = c.args in
    let bytes : Bytes a.code.now = λ i. search rules in
    let reason = err_from_is_err_and c.from_residual.result c.from_residual.ensures.1 in
    rw (reason.1, reason.2) (refused-is _ _ _ (missing a.code.now a.edit a.own.places (as_shown a.own.view) bytes _ c.in_err-old.ensures))

pub returns-in_err-new : goal.returns-in_err-new
unfolding edit_plan_of
returns-in_err-new c =
    let a = c.args in
    let bytes : Bytes a.code.now = λ i. search rules in
    let reason = err_from_is_err_and c.from_residual-in_err-new.result c.from_residual-in_err-new.ensures.1 in
    rw (reason.1, reason.2) (refused-is _ _ _ (unfit a.code.now a.edit a.own.places (as_shown a.own.view) bytes _ c.in_ok-old.ensures _ c.in_err-new.ensures))

pub returns-in_err-count : goal.returns-in_err-count
unfolding edit_plan_of
returns-in_err-count c =
    let a = c.args in
    let bytes : Bytes a.code.now = λ i. search rules in
    let reason = err_from_is_err_and c.from_residual-in_err-count.result c.from_residual-in_err-count.ensures.1 in
    let journal = answers a.code.now a.edit a.own.places (as_shown a.own.view) bytes _ c.in_ok-old.ensures _ c.in_ok-new.ensures in
    rw (reason.1, reason.2) (refused-is _ _ _ (c.in_err-count.ensures.answer ∙ sym journal))

pub returns : goal.returns
unfolding edit_plan_of
returns c =
    let a = c.args in
    let view = as_shown a.own.view in
    let bytes : Bytes a.code.now = λ i. search rules in
    let new = new-is a.code.now a.edit a.own.places view bytes _ c.in_ok-old.ensures _ c.in_ok-new.ensures in
    let old = load-halves a.code.now a.edit.bundle bytes (changing a.code.now a.edit a.own.places view bytes) _ c.in_ok-old.ensures in
    let room = answers a.code.now a.edit a.own.places view bytes _ c.in_ok-old.ensures _ c.in_ok-new.ensures ∙ sym c.in_ok-count.ensures.answer in
    let count = c.in_ok-count.ensures.place.0 in
    (λ i. Ok (record {
      bundle = a.edit.bundle;
      halves = new i;
      place = count i;
      kept = record { party = a.party; bundle = a.edit.bundle; slot = a.edit.slot; form = a.edit.form; value = c.pattern_in.ensures i; old = old i; new = new i };
      count = count i + 1;
    }))
    ∙ sym (accepts _ _ _ room)
