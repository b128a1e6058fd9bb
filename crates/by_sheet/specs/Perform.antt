-- A task by a sheet: what `perform` comes to. The journal is the one that the sheet tells of. Assumes nothing.
use Rattle.std.specs.Prelude.{◌≡◌, ℕ, cond, List, ltb, length, Result, Ok, Err}
use Rattle.answer.specs.Answer.{outcome, accepted, no_room, number_of}
use Rattle.answer.specs.declared.Refusal.{Refusal}
use Rattle.record.specs.declared.Record.{Record}
use Rattle.records.specs.Journal.{standing}
use Rattle.records.specs.Shared.{Shared, own_of, fresh}
use Rattle.journal.specs.Edit.{SharedOutcome, SharedJournalOutcome, act_by}
use Rattle.fold.specs.Fold.{fold_by}
use Rattle.sheet.specs.Load.{load_by}
use Rattle.sheet.specs.Sheet.{capacity, write_by}
use Rattle.by_sheet.specs.declared.Written.{Written}
use Rattle.by_sheet.specs.declared.Task.{Task}
use Rattle.by_sheet.specs.declared.Task.TheVariants.{Act, Fold}

-- the journal that a sheet tells of: it is loaded into a fresh one, of one party
abbrev pub told_by : List ℕ → SharedJournalOutcome
told_by sheet = load_by (fresh 1) 0 sheet

-- its records
abbrev pub records_in : Shared → List Record
records_in s = standing (own_of s 0)

-- what a task comes to with it
abbrev pub task_by : List ℕ → Shared → Task → SharedOutcome
task_by code s (Act act) = act_by code s 0 act
task_by code s Fold = record { answer = (fold_by s 0).answer; journal = (fold_by s 0).journal; code = code }

-- what a call answers, the length of the sheet that it wrote, and how many records stand
pub record Done : Type 0 where
  pub answer : ℕ
  pub length : ℕ
  pub count : ℕ

-- and the code and the output after it
pub record Performed : Type 0 where
  pub done : Done
  pub code : List ℕ
  pub out : List ℕ

abbrev pub performed : Done → List ℕ → List ℕ → Performed
performed done code out = record { done = done; code = code; out = out }

-- what `perform` hands back, as that: where it refuses, no count
abbrev pub as_done : ℕ → Result Written Refusal → Done
as_done count (Ok written) = record { answer = accepted; length = written.length; count = written.count }
as_done count (Err refusal) = record { answer = number_of refusal; length = 0; count = count }

-- it comes to that with the code and the output that it leaves
abbrev pub Performs : Result Written Refusal → List ℕ → List ℕ → Performed → Type 0
Performs result code out p = performed (as_done p.done.count result) code out ≡ p

-- a call that is refused changes nothing
abbrev pub refused_by : List ℕ → List ℕ → ℕ → Performed
refused_by code out answer = performed (record { answer = answer; length = 0; count = 0 }) code out

-- one that isn't leaves the code, and writes the sheet of the journal
abbrev pub written_by : List ℕ → SharedOutcome → Performed
written_by out o =
    let w = write_by o.journal 0 out in
    performed (record { answer = w.0.answer; length = w.0.length; count = length (records_in o.journal) }) o.code w.1

-- where there is room for any sheet: by what the sheet tells, and by what the task comes to
abbrev pub performed_in : List ℕ → List ℕ → Task → List ℕ → Performed
performed_in code sheet task out =
    let told = told_by sheet in
    let o = task_by code told.journal task in
    outcome told.answer (outcome o.answer (written_by out o) (refused_by code out o.answer)) (refused_by code out told.answer)

-- what `perform` comes to
unfoldable pub performed_of : List ℕ → List ℕ → Task → List ℕ → Performed
performed_of code sheet task out = cond (ltb (length out) capacity) (refused_by code out no_room) (performed_in code sheet task out)
