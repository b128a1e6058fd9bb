-- The cases of what `perform` comes to, from what its calls did. Assumes nothing.
use mathlib.Core.Path.{◌≡◌, sym, ap, ◌∙◌, subst}
use mathlib.Core.List.{List}
use Prim.Native.Nat.{ℕ}
use Rattle.answer.specs.Answer.{accepted, number_of, outcome}
use Rattle.answer.proofs.Laws.{accepts, refuses, no-acceptance}
use Rattle.record.specs.declared.Record.{Record}
use Rattle.records.specs.Shared.{Shared, sharing}
use Rattle.journal.specs.Edit.{SharedOutcome, SharedJournalOutcome, outcome_of}
use Rattle.answer.specs.declared.Refusal.{Refusal}
use Rattle.records.specs.declared.Counts.{Counts}
use Rattle.sheet.specs.Sheet.{write_by}
use Rattle.std.specs.Prelude.{Result, Ok, Err}
use Rattle.text.specs.Whole.{Written}
use Rattle.by_sheet.specs.Perform.{told_by, task_by, Performed, performed, refused_by, written_by, performed_in}
use Rattle.by_sheet.specs.declared.Task.{Task}
use Rattle.by_sheet.proofs.Told.{Leaves, Loads, load-answer, told, task-leaves}

module _ (code sheet : List ℕ) (task : Task) (out : List ℕ) where
  -- what the task comes to
  abbrev o : SharedOutcome
  o = task_by code (told_by sheet).journal task

  abbrev by-task : SharedOutcome → Performed
  by-task p = outcome p.answer (written_by out p) (refused_by code out p.answer)

  -- a sheet that tells nothing
  pub untold : {a : ℕ} → a ≡ (told_by sheet).answer → (a ≡ accepted → ⊥) → refused_by code out a ≡ performed_in code sheet task out
  untold e d = ap (refused_by code out) e ∙ sym (refuses (told_by sheet).answer _ _ (λ t. d (e ∙ t)))

  -- one that tells a journal, with which the task was done
  module _ {counts given : Counts} {places : List Record} (e : Loads (Ok counts) given places sheet) (r : Result Counts Refusal) (left : List Record) (changed : List ℕ)
      (f : outcome_of r counts left changed ≡ task_by code (sharing counts places) task) where
    taken : (told_by sheet).answer ≡ accepted
    taken = sym (load-answer e)

    is : outcome_of r counts left changed ≡ o
    is = f ∙ ap (λ (p : SharedJournalOutcome). task_by code p.journal task) e.is

    leaves : (let k = told sheet taken in Leaves k.records k.fit code (outcome_of r counts left changed))
    leaves =
        let k = told sheet taken in
        subst (Leaves k.records k.fit code) (ap (λ (s : Shared). task_by code s task) (sym k.is) ∙ sym is) (task-leaves k.records k.fit code task)

    by-outcome : by-task (outcome_of r counts left changed) ≡ performed_in code sheet task out
    by-outcome = ap by-task is ∙ sym (accepts (told_by sheet).answer _ _ taken)

  module _ {counts given : Counts} {places : List Record} (e : Loads (Ok counts) given places sheet) (left : List Record) (changed : List ℕ) where
    pub task-refused : (refusal : Refusal) → outcome_of (Err refusal) counts left changed ≡ task_by code (sharing counts places) task
        → performed (record { answer = number_of refusal; length = 0; count = 0 }) changed out ≡ performed_in code sheet task out
    task-refused refusal f =
        let d = no-acceptance refusal in
        ap (λ (c : List ℕ). performed (record { answer = number_of refusal; length = 0; count = 0 }) c out) (sym ((leaves e (Err refusal) left changed f).kept d))
        ∙ sym (refuses (number_of refusal) _ _ d)
        ∙ by-outcome e (Err refusal) left changed f

    pub task-written : (after : Counts) → outcome_of (Ok after) counts left changed ≡ task_by code (sharing counts places) task
        → (w : Written) (text : List ℕ) → (w, text) ≡ write_by (sharing after left) 0 out
        → performed (record { answer = w.answer; length = w.length; count = after.lower }) changed text ≡ performed_in code sheet task out
    task-written after f w text p =
        (λ i. performed (record { answer = (p i).0.answer; length = (p i).0.length; count = (leaves e (Ok after) left changed f).counts i }) changed (p i).1)
        ∙ by-outcome e (Ok after) left changed f

-- the count of a refused call is what it comes to
pub uncounted : {answer count : ℕ} {code out : List ℕ} {p : Performed} → performed (record { answer = answer; length = 0; count = count }) code out ≡ p
    → performed (record { answer = answer; length = 0; count = p.done.count }) code out ≡ p
uncounted {answer} {count} {code} {out} {p} e =
    ap (λ (n : ℕ). performed (record { answer = answer; length = 0; count = n }) code out) (sym (ap (λ (q : Performed). q.done.count) e)) ∙ e
