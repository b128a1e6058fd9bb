-- All records of a sheet taken out, the last first: what `take_out` comes to, by undos one after the other. Assumes nothing.
use Rattle.std.specs.Prelude.{ℕ, zero, suc, Bool, true, false, cond, ltb, length, Result, Ok, Err}
use mathlib.Core.List.{List, get_last_d}
use Rattle.answer.specs.Answer.{outcome, accepted, too_long, number_of}
use Rattle.bundle.specs.Bundle.{longest_code, halves_of, loaded_of}
use Rattle.bundle.specs.declared.half.Halves.{Halves}
use Rattle.record.specs.Record.{no_record}
use Rattle.records.specs.Shared.{Shared}
use Rattle.journal.specs.Edit.{SharedOutcome, undo_by}
use Rattle.by_sheet.specs.Perform.{told_by, records_in}
use Rattle.by_sheet.specs.declared.taking.Untaken.{Untaken}
use Rattle.by_sheet.specs.declared.taking.Untaken.TheVariants.{Refused, Unfit}

-- so many undos, up to the first that is refused
unfoldable pub undos_from : ℕ → SharedOutcome → SharedOutcome
undos_from zero o = o
undos_from (suc n) o = let next = undo_by o.code o.journal 0 in outcome next.answer (undos_from n next) next

-- as many as records stand
abbrev pub all_undone : List ℕ → Shared → SharedOutcome
all_undone code s = undos_from (length (records_in s)) (record { answer = accepted; journal = s; code = code })

-- what a call answers; whether a record is named, the first that doesn't fit its bundle; and of that one what it left there, and what stands there
pub record TakenOut : Type 0 where
  pub answer : ℕ
  pub named : Bool
  pub bundle : ℕ
  pub wanted : Halves
  pub found : Halves

-- what is said where no record is named
abbrev pub none_named : ℕ → TakenOut
none_named answer = record { answer = answer; named = false; bundle = 0; wanted = halves_of 0; found = halves_of 0 }

-- what `take_out` hands back, as that
abbrev pub as_taken : Result (Unit {0}) Untaken → TakenOut
as_taken (Ok u) = none_named accepted
as_taken (Err (Refused refusal)) = none_named (number_of refusal)
as_taken (Err (Unfit m)) = record { answer = number_of m.refusal; named = true; bundle = m.bundle; wanted = m.wanted; found = m.found }

-- and of the record that doesn't fit, which is the last that stands: its bundle, what it left there, and what stands there
abbrev pub misfit_in : SharedOutcome → TakenOut
misfit_in o =
    let last = get_last_d (records_in o.journal) no_record in
    record { answer = o.answer; named = true; bundle = last.bundle; wanted = last.new; found = (loaded_of o.code last.bundle).halves }

-- what is said after undos, and the code as far as they went
abbrev pub taken_by : SharedOutcome → TakenOut × List ℕ
taken_by o = (outcome o.answer (none_named accepted) (misfit_in o), o.code)

abbrev pub taken_in : List ℕ → List ℕ → TakenOut × List ℕ
taken_in code sheet = let told = told_by sheet in outcome told.answer (taken_by (all_undone code told.journal)) (none_named told.answer, code)

-- what `take_out` comes to: a refused call leaves the code as it was
unfoldable pub taken_out_of : List ℕ → List ℕ → TakenOut × List ℕ
taken_out_of code sheet =
    let t = taken_in code sheet in cond (ltb longest_code (length code)) (none_named too_long, code) (t.0, outcome t.0.answer t.1 code)
