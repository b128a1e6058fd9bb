-- A change of a code is a field edit, or a whole bundle set to a number. What is said of changes is said of both; a call that makes some
-- makes all of them or none. Assumes nothing.
use Rattle.std.specs.Prelude.{ℕ, ◌+◌, ◌*◌, ◌%◌, ◌^◌, not, List, [], ◌∷◌, ◌++◌, ltb, length, take, drop}
use Rattle.answer.specs.Answer.{Reason, first, outcome, accepted, full, bad_journal}
use Rattle.bundle.specs.Bytes.{bytes}
use Rattle.bundle.specs.Bundle.{number_at, halves_of}
use Rattle.form.specs.declared.Edit.{Edit}
use Rattle.immediate.specs.Immediate.{changed_number}
use Rattle.record.specs.Record.{edit_record, whole_record}
use Rattle.record.specs.declared.Record.{Record}
use Rattle.records.specs.Journal.{Journal, Shown, standing, journal_of, view_of}

-- the code with bundle k made anew
unfoldable pub rewritten : List ℕ → ℕ → ℕ → List ℕ
rewritten code k n = take (16 * k) code ++ (bytes 16 n ++ drop (16 * k + 16) code)

pub data Change : Type 0 where
  field : Edit → Change
  set : ℕ → ℕ → Change

abbrev pub bundle_of : Change → ℕ
bundle_of (field e) = e.bundle
bundle_of (set k n) = k

-- the number that a change makes of its bundle
abbrev pub new_number : List ℕ → Change → ℕ
new_number code (field e) = changed_number (number_at code e.bundle) e
new_number code (set k n) = n % 2 ^ 128

-- the code with one change made
abbrev pub changed : List ℕ → Change → List ℕ
changed code c = rewritten code (bundle_of c) (new_number code c)

-- the record of a party's change
abbrev pub change_record : ℕ → List ℕ → Change → Record
change_record party code (field e) = edit_record party (number_at code e.bundle) e
change_record party code (set k n) = whole_record party k (halves_of (number_at code k)) (halves_of (new_number code (set k n)))

-- the code with changes made in order; the last stands first
abbrev pub made_all : List ℕ → List Change → List ℕ
made_all code [] = code
made_all code (c ∷ cs) = changed (made_all code cs) c

-- their records, the oldest first
abbrev pub records_of : ℕ → List ℕ → List Change → List Record
records_of party code [] = []
records_of party code (c ∷ cs) = records_of party code cs ++ (change_record party (made_all code cs) c ∷ [])

-- what a call answers, the journal and the code after it
pub record Outcome : Type 0 where
  pub answer : ℕ
  pub journal : Journal
  pub code : List ℕ

-- what a call that has no code answers, and the journal after it
pub record JournalOutcome : Type 0 where
  pub answer : ℕ
  pub journal : Journal

-- the same beside a code, which it leaves
abbrev pub with_code : List ℕ → JournalOutcome → Outcome
with_code code o = record { answer = o.answer; journal = o.journal; code = code }

-- when so many places have no room for n records more, by what the journal shows
abbrev pub room_refusals : ℕ → Shown → ℕ → List Reason
room_refusals places view n = (bad_journal, not view.valid) ∷ (full, ltb places (view.count + n)) ∷ []

-- what a party's call that makes changes comes to, where the code has these reasons to refuse it: all of them made and recorded, or none
unfoldable pub make_of : ℕ → ℕ → List ℕ → Journal → List Reason → List Change → Outcome
make_of party places code journal refusals cs =
    let answer = first (refusals ++ room_refusals places (view_of party places journal) (length cs)) in
    outcome answer
    (record { answer = accepted; journal = journal_of places (standing journal ++ records_of party code cs); code = made_all code cs })
    (record { answer = answer; journal = journal; code = code })
