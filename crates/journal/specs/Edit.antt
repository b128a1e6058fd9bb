-- The calls `edit`, `checked_edit` and `undo`: what each comes to with one party's journal, and then with a journal that parties share.
-- Assumes nothing.
use Rattle.std.specs.Prelude.{ℕ, ◌+◌, ◌*◌, not, eqb, ltb, length, Result, Ok, Err}
use mathlib.Core.List.{List, [], ◌∷◌, ◌++◌, drop_last}
use Rattle.answer.specs.Answer.{Reason, first, outcome, accepted, exhausted_input, empty, stale, too_long, bad_journal, bad_opcode, retired, answer_of}
use Rattle.answer.specs.declared.Refusal.{Refusal}
use Rattle.bundle.specs.Bundle.{longest_code, number_at, units_in, find_refusals, halves_of, whole}
use Rattle.choice.specs.Choice.{has_form}
use Rattle.form.specs.declared.Edit.{Edit}
use Rattle.retired.specs.Retired.{is_retired}
use Rattle.row.specs.Row.{row_of}
use Rattle.immediate.specs.Immediate.{row_refusals, slot_refusals, value_refusals}
use Rattle.record.specs.Record.{same_halves}
use Rattle.record.specs.declared.Record.{Record}
use Rattle.records.specs.Journal.{Journal, Shown, standing, journal_of, view_of}
use Rattle.records.specs.Shared.{Shared, sharing, places_of, served_of, after_by}
use Rattle.records.specs.declared.Counts.{Counts}
use Rattle.journal.specs.Change.{Outcome, JournalOutcome, rewritten, field, make_of}
use Rattle.journal.specs.declared.Act.{Act}
use Rattle.journal.specs.declared.Act.TheVariants.{Edit as EditAct, Checked, Undo}

-- when a bundle refuses an edit of which more is asked between 3 and 5, and more between 5 and 6: 2, 3, the one, 5, the other, 6
abbrev pub change_with : List Reason → List Reason → ℕ → Edit → List Reason
change_with early late n e =
    let row = row_of e.form in
    row_refusals (units_in n) row ++ early ++ slot_refusals (units_in n) e.slot e.form ++ late ++ value_refusals row e.value

-- when the code does: as `find` does, 10 and 1, and then as the bundle does
abbrev pub refusals_with : List Reason → List Reason → List ℕ → Edit → List Reason
refusals_with early late code e = find_refusals code e.bundle ++ change_with early late (number_at code e.bundle) e

-- of every new edit that its form isn't retired: 15
abbrev pub retired_refusal : Edit → Reason
retired_refusal e = (retired, is_retired e.form)

-- and of a plain edit nothing more
abbrev pub code_refusals : List ℕ → Edit → List Reason
code_refusals code e = refusals_with (retired_refusal e ∷ []) [] code e

-- of a checked edit that the word in its slot has its form: 14
abbrev pub form_refusal : List ℕ → Edit → Reason
form_refusal code e = (bad_opcode, not (has_form (number_at code e.bundle) e.slot e.form))

abbrev pub checked_refusals : List ℕ → Edit → List Reason
checked_refusals code e = refusals_with (retired_refusal e ∷ []) (form_refusal code e ∷ []) code e

-- what a party's edit comes to with its journal of so many places
abbrev pub edit_of : ℕ → ℕ → List ℕ → Journal → Edit → Outcome
edit_of party places code journal e = make_of party places code journal (code_refusals code e) (field e ∷ [])

-- and a checked edit
abbrev pub checked_of : ℕ → ℕ → List ℕ → Journal → Edit → Outcome
checked_of party places code journal e = make_of party places code journal (checked_refusals code e) (field e ∷ [])

-- when undoing is refused, by what the journal shows
abbrev pub undo_refusals : List ℕ → Shown → List Reason
undo_refusals code view =
    let last = view.last in
    (too_long, ltb longest_code (length code))
    ∷ (bad_journal, not view.valid)
    ∷ (empty, eqb view.count 0)
    ∷ (exhausted_input, ltb (length code) (16 * last.bundle + 16))
    ∷ (stale, not (same_halves (halves_of (number_at code last.bundle)) last.new))
    ∷ []

-- what undoing comes to: the last record's old bundle, and one record less
unfoldable pub undo_of : ℕ → ℕ → List ℕ → Journal → Outcome
undo_of party places code journal =
    let view = view_of party places journal in
    let last = view.last in
    let answer = first (undo_refusals code view) in
    outcome answer
    (record { answer = accepted; journal = journal_of places (drop_last (standing journal)); code = rewritten code last.bundle (whole last.old) })
    (record { answer = answer; journal = journal; code = code })

-- what a call answers, the shared journal and the code after it
pub record SharedOutcome : Type 0 where
  pub answer : ℕ
  pub journal : Shared
  pub code : List ℕ

-- the counts after a call: those that it hands back; refused, those that it was given
abbrev pub counts_after : Counts → Result Counts Refusal → Counts
counts_after given (Ok counts) = counts
counts_after given (Err refusal) = given

-- what a call hands back that was given these counts, with the records and the code that it leaves
abbrev pub outcome_of : Result Counts Refusal → Counts → List Record → List ℕ → SharedOutcome
outcome_of r given records code = record { answer = answer_of r; journal = sharing (counts_after given r) records; code = code }

-- what a party's call comes to, by what it comes to with that party's journal
abbrev pub by_party : Shared → ℕ → Outcome → SharedOutcome
by_party s party o = record { answer = o.answer; journal = after_by s party o.answer o.journal; code = o.code }

-- the same of a call that has no code
pub record SharedJournalOutcome : Type 0 where
  pub answer : ℕ
  pub journal : Shared

abbrev pub journal_outcome_of : Result Counts Refusal → Counts → List Record → SharedJournalOutcome
journal_outcome_of r given records = record { answer = answer_of r; journal = sharing (counts_after given r) records }

abbrev pub journal_by_party : Shared → ℕ → JournalOutcome → SharedJournalOutcome
journal_by_party s party o = record { answer = o.answer; journal = after_by s party o.answer o.journal }

-- what `edit` comes to
abbrev pub edit_by : List ℕ → Shared → ℕ → Edit → SharedOutcome
edit_by code s party e = by_party s party (edit_of party (places_of s.parties party) code (served_of s party) e)

-- what `checked_edit` comes to
abbrev pub checked_by : List ℕ → Shared → ℕ → Edit → SharedOutcome
checked_by code s party e = by_party s party (checked_of party (places_of s.parties party) code (served_of s party) e)

-- what `undo` comes to
abbrev pub undo_by : List ℕ → Shared → ℕ → SharedOutcome
undo_by code s party = by_party s party (undo_of party (places_of s.parties party) code (served_of s party))

-- what an act comes to
abbrev pub act_by : List ℕ → Shared → ℕ → Act → SharedOutcome
act_by code s party (EditAct e) = edit_by code s party e
act_by code s party (Checked e) = checked_by code s party e
act_by code s party Undo = undo_by code s party
