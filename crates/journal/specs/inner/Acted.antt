-- What one who does many acts is told of each, so that all records are looked at once. Assumes nothing.
use Rattle.std.specs.Prelude.{ℕ, List, Result, Ok, Err}
use Rattle.answer.specs.Answer.{accepted, number_of}
use Rattle.answer.specs.declared.Refusal.{Refusal}
use Rattle.record.specs.declared.Record.{Record}
use Rattle.records.specs.Shared.{sharing}
use Rattle.records.specs.declared.Counts.{Counts}
use Rattle.records.specs.declared.Own.{Own}
use Rattle.records.specs.inner.Shows.{as_own_view, ShowsPart}
use Rattle.journal.specs.Edit.{SharedOutcome}
use Rattle.journal.specs.declared.Acted.{Acted}

-- what an act hands back, with the records and the code that it leaves; refused it leaves the counts that it was given
abbrev pub acted_of : Result Acted Refusal → Counts → List Record → List ℕ → SharedOutcome
acted_of (Ok acted) given records code = record { answer = accepted; journal = sharing acted.counts records; code = code }
acted_of (Err refusal) given records code = record { answer = number_of refusal; journal = sharing given records; code = code }

-- after it the party's journal shows what is handed back; refused, what it showed before
abbrev pub StillShows : Result Acted Refusal → Counts → Own → List Record → ℕ → Type 0
StillShows (Ok acted) given before records party = ShowsPart acted.counts records party (as_own_view acted.own)
StillShows (Err refusal) given before records party = ShowsPart given records party (as_own_view before)
