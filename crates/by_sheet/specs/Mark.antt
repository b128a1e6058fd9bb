-- The bundles that the records of a sheet touch, marked: what `mark` comes to. Assumes nothing.
use Rattle.std.specs.Prelude.{ℕ, ◌<◌, ◌≡◌, cond, List, [], ◌∷◌, length, get_or, set, Result, Ok, Err}
use Rattle.answer.specs.Answer.{outcome, accepted, number_of}
use Rattle.answer.specs.declared.Refusal.{Refusal}
use Rattle.record.specs.declared.Record.{Record}
use Rattle.fold.specs.Fold.{has, bundles_in}
use Rattle.by_sheet.specs.Perform.{told_by, records_in}

-- the marks of some records' bundles set, one after the other; one that there is no mark for is left out
abbrev pub marked_by : List ℕ → List Record → List ℕ
marked_by marks [] = marks
marked_by marks (r ∷ rs) = marked_by (set marks r.bundle 1) rs

-- what `mark` comes to: an answer, and how many records stand, 0 where it refuses
pub record Marked : Type 0 where
  pub answer : ℕ
  pub count : ℕ

abbrev pub as_marked : Result ℕ Refusal → Marked
as_marked (Ok count) = record { answer = accepted; count = count }
as_marked (Err refusal) = record { answer = number_of refusal; count = 0 }

unfoldable pub marked_of : List ℕ → List ℕ → Marked × List ℕ
marked_of sheet marks =
    let told = told_by sheet in
    let rs = records_in told.journal in
    outcome told.answer (record { answer = accepted; count = length rs }, marked_by marks rs) (record { answer = told.answer; count = 0 }, marks)

-- a mark is 1 where a record is of its bundle, and as it was elsewhere
abbrev pub MarksTouched : Type 0
MarksTouched = (rs : List Record) (marks : List ℕ) (k : ℕ) → k < length marks → get_or (marked_by marks rs) k 0 ≡ cond (has k (bundles_in rs)) 1 (get_or marks k 0)
