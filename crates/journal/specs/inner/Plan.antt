-- How an act goes about it: a plan, decided by the code and what the journal shows, and then carried out. What it comes to is said in
-- `Edit.antt`. Assumes nothing.
use Rattle.std.specs.Prelude.{ℕ, ◌+◌, ◌-◌, List, [], ◌∷◌, ◌++◌, Result, Ok, Err}
use Rattle.answer.specs.Answer.{Reason, first, outcome, accepted, number_of}
use Rattle.answer.specs.declared.Refusal.{Refusal}
use Rattle.bundle.specs.Bundle.{number_at, units_in, find_refusals, whole}
use Rattle.form.specs.declared.Edit.{Edit}
use Rattle.row.specs.Row.{row_of}
use Rattle.immediate.specs.Immediate.{row_refusals, read_refusals}
use Rattle.record.specs.Record.{no_record}
use Rattle.records.specs.Journal.{Journal, Shown, with_record}
use Rattle.journal.specs.Change.{Outcome, rewritten, field, change_record, room_refusals}
use Rattle.journal.specs.Edit.{refusals_with, retired_refusal, code_refusals, form_refusal, checked_refusals, undo_refusals}
use Rattle.records.specs.inner.Shows.{OwnView}
use Rattle.journal.specs.declared.Act.{Act}
use Rattle.journal.specs.declared.Act.TheVariants.{Edit as EditAct, Checked, Undo}
use Rattle.journal.specs.declared.plan.Plan.{Plan}

-- a plan, or the number of the refusal
abbrev pub as_planned : Result Plan Refusal → Result Plan ℕ
as_planned (Ok plan) = Ok plan
as_planned (Err refusal) = Err (number_of refusal)

-- what is asked of a new edit first: 10, 1, 2, 3, and then 15
abbrev pub new_refusals : List ℕ → Edit → List Reason
new_refusals code e = find_refusals code e.bundle ++ row_refusals (units_in (number_at code e.bundle)) (row_of e.form) ++ retired_refusal e ∷ []

-- why an edit's number can't be read: 10, 1, 2, 3, 5
abbrev pub reading_refusals : List ℕ → Edit → List Reason
reading_refusals code e = find_refusals code e.bundle ++ read_refusals (number_at code e.bundle) e.slot e.form (row_of e.form)

-- what is asked of a checked edit next: that, and then 14
abbrev pub look_refusals : List ℕ → Edit → List Reason
look_refusals code e = reading_refusals code e ++ form_refusal code e ∷ []

-- when the code refuses an edit that is asked neither, and one that is asked the second
abbrev pub field_refusals : List ℕ → Edit → List Reason
field_refusals code e = refusals_with [] [] code e

abbrev pub word_refusals : List ℕ → Edit → List Reason
word_refusals code e = refusals_with [] (form_refusal code e ∷ []) code e

-- what an edit is answered, where the code has these reasons to refuse it
abbrev pub edit_answer : ℕ → Shown → List Reason → ℕ
edit_answer places view refusals = first (refusals ++ room_refusals places view 1)

-- a party's edit that is so answered keeps its record at the first free place
unfoldable pub edit_plan_of : ℕ → List ℕ → Shown → Edit → ℕ → Result Plan ℕ
edit_plan_of party code view e answer =
    let r = change_record party code (field e) in
    outcome answer (Ok (record { bundle = e.bundle; halves = r.new; place = view.count; kept = r; count = view.count + 1 })) (Err answer)

-- an undo frees the last record's place
unfoldable pub undo_plan_of : List ℕ → Shown → Result Plan ℕ
undo_plan_of code view =
    let answer = first (undo_refusals code view) in
    let r = view.last in
    outcome answer (Ok (record { bundle = r.bundle; halves = r.old; place = view.count - 1; kept = no_record; count = view.count - 1 })) (Err answer)

-- a party's act, by what its journal shows
abbrev pub plan_of : ℕ → List ℕ → OwnView → Act → Result Plan ℕ
plan_of party code own (EditAct e) = edit_plan_of party code own.view e (edit_answer own.places own.view (code_refusals code e))
plan_of party code own (Checked e) = edit_plan_of party code own.view e (edit_answer own.places own.view (checked_refusals code e))
plan_of party code own Undo = undo_plan_of code own.view

-- the bundle of a plan written to the code, and its record kept in the journal
abbrev pub carried_out : List ℕ → Journal → Result Plan ℕ → Outcome
carried_out code journal (Ok plan) =
    record {
      answer = accepted;
      journal = with_record journal plan.place plan.kept plan.count;
      code = rewritten code plan.bundle (whole plan.halves);
    }
carried_out code journal (Err answer) = record { answer = answer; journal = journal; code = code }
