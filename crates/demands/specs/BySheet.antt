-- Calls by a sheet (`by_sheet`): who keeps a code and a sheet, and makes each call by them, has after any run what demand 3's run of the same calls
-- leaves, and taking out gives the first code back. Proved in `proofs/BySheet.antt`. Assumes nothing.
use Rattle.std.specs.Prelude.{ℕ, ◌≤◌, ◌<◌, ◌^◌, ◌≡◌, List, [], ◌∷◌, map, length, get_or, take}
use Rattle.answer.specs.Answer.{accepted, outcome}
use Rattle.bundle.specs.Bundle.{longest_code}
use Rattle.table.specs.Ascii.{ascii}
use Rattle.records.specs.Journal.{limit}
use Rattle.journal.specs.declared.Act.TheVariants.{Edit, Checked, Undo}
use Rattle.sheet.specs.Sheet.{sheet_of, capacity}
use Rattle.by_sheet.specs.Perform.{performed_of}
use Rattle.by_sheet.specs.Taking.{none_named, taken_out_of}
use Rattle.by_sheet.specs.declared.Task.{Task}
use Rattle.by_sheet.specs.declared.Task.TheVariants.{Act, Fold}
use Rattle.demands.specs.Demand3.{Call, edit, checked, make, undo, fold, run}

-- what is kept
pub record Kept : Type 0 where
  pub code : List ℕ
  pub sheet : List ℕ

-- after a task with an output: what it left and wrote, and where it is refused what was kept
abbrev pub kept_after : Kept → Task × List ℕ → Kept
kept_after k c =
    let p = performed_of k.code k.sheet c.0 c.1 in
    outcome p.done.answer (record { code = p.code; sheet = take p.done.length p.out }) k

-- from a first code and the empty sheet; the last task stands first
abbrev pub kept_by : List ℕ → List (Task × List ℕ) → Kept
kept_by code [] = record { code = code; sheet = ascii "patches\t0\n" }
kept_by code (c ∷ cs) = kept_after (kept_by code cs) c

-- outputs with room for any sheet
abbrev pub Roomy : List (Task × List ℕ) → Type 0
Roomy [] = Unit {0}
Roomy (c ∷ cs) = (capacity ≤ length c.1) × Roomy cs

-- tasks as calls of demand 3
abbrev pub call_of : Task → Call
call_of (Act (Edit e)) = make (edit e)
call_of (Act (Checked e)) = make (checked e)
call_of (Act Undo) = undo
call_of Fold = fold

abbrev pub calls_in : List (Task × List ℕ) → List Call
calls_in cs = map (λ (c : Task × List ℕ). call_of c.0) cs

-- what holds after a run of tasks
pub record HoldsBySheet (code : List ℕ) (cs : List (Task × List ℕ)) : Type 0 where
  -- the code is that of the calls
  pub code_is : (kept_by code cs).code ≡ (run 0 limit code (calls_in cs)).code
  -- and the sheet is that of their journal
  pub sheet-is : (kept_by code cs).sheet ≡ sheet_of (run 0 limit code (calls_in cs)).journal
  -- the next task answers as the call does: neither the sheet nor the output is a reason to refuse it
  pub answers : (task : Task) (out : List ℕ) → capacity ≤ length out
      → (performed_of (kept_by code cs).code (kept_by code cs).sheet task out).done.answer ≡ (run 0 limit code (call_of task ∷ calls_in cs)).answer
  -- and taking out gives the first code back
  pub taken_out : taken_out_of (kept_by code cs).code (kept_by code cs).sheet ≡ (none_named accepted, code)

abbrev pub BySheets : Type 0
BySheets =
    (code : List ℕ) → ((i : ℕ) → get_or code i 0 < 2 ^ 8) → length code ≤ longest_code → (cs : List (Task × List ℕ)) → Roomy cs → HoldsBySheet code cs
