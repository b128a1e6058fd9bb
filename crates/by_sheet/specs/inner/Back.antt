-- How records are taken out: each one's old bundle is put back, where its new one stands. Assumes nothing.
use Rattle.std.specs.Prelude.{ℕ, zero, suc, true, cond, List, get_or}
use Rattle.answer.specs.Answer.{outcome, accepted, stale}
use Rattle.bundle.specs.Bundle.{loaded_of, whole}
use Rattle.bundle.specs.declared.half.Halves.{Halves}
use Rattle.record.specs.Record.{no_record, same_halves}
use Rattle.record.specs.declared.Record.{Record}
use Rattle.journal.specs.Change.{rewritten}
use Rattle.by_sheet.specs.Taking.{TakenOut, none_named}

-- whether a record fits: its bundle is there, and is what the record left
abbrev pub fit_answer : ℕ → Halves → Halves → ℕ
fit_answer missing wanted found = outcome missing (cond (same_halves found wanted) accepted stale) missing

-- one record's bundle put back
unfoldable pub put_back : List ℕ → Record → TakenOut × List ℕ
put_back code r =
    let loaded = loaded_of code r.bundle in
    let answer = fit_answer loaded.answer r.new loaded.halves in
    outcome answer
    (none_named accepted, rewritten code r.bundle (whole r.old))
    (record { answer = answer; named = true; bundle = r.bundle; wanted = r.new; found = loaded.halves }, code)

-- those of the first so many records, the last first, up to the first that doesn't fit
unfoldable pub all_back : List Record → ℕ → List ℕ → TakenOut × List ℕ
all_back records zero code = (none_named accepted, code)
all_back records (suc n) code = let t = put_back code (get_or records n no_record) in outcome t.0.answer (all_back records n t.1) t
