-- Demand 3 across sheets: a party's run may write sheets, whole or a line at a time, and load the sheet that its call straight before wrote
-- from the same journal. Code, journal and the answers of all other calls are then those of a run of these alone. (A run may load any other
-- text too; it is then no run of demand 3.) Proved in `proofs/Across.antt`. Assumes nothing.
use Rattle.std.specs.Prelude.{ℕ, ◌≤◌, ◌<◌, ◌^◌, ◌≡◌, Bool, true, false, List, [], ◌∷◌, T, length, get_or, take}
use Rattle.answer.specs.Answer.{accepted, outcome}
use Rattle.bundle.specs.Bundle.{longest_code}
use Rattle.records.specs.Journal.{limit}
use Rattle.journal.specs.Change.{Outcome, with_code}
use Rattle.demands.specs.Demand3.{Call, step, run, Holds}
use Rattle.text.specs.Whole.{Written, wrote_of}
use Rattle.sheet.specs.Sheet.{sheet_of, sheet_line, write_refusals}
use Rattle.sheet.specs.Load.{load_of}

-- a call of demand 3; a sheet written to an output; line i of the sheet written to one; the sheet loaded that the call straight before
-- wrote; any text loaded
pub data SheetCall : Type 0 where
  call : Call → SheetCall
  write : List ℕ → SheetCall
  write_line : ℕ → List ℕ → SheetCall
  load : SheetCall
  load_text : List ℕ → SheetCall

-- what a call wrote
pub data Wrote : Type 0 where
  nothing : Wrote
  sheet : List ℕ → Wrote
  line : List ℕ → Wrote

-- what there is after a call, and what it wrote
pub record State : Type 0 where
  pub after : Outcome
  pub wrote : Wrote

-- the text in an output, where writing was taken
abbrev pub wrote_as : (List ℕ → Wrote) → Written × List ℕ → Wrote
wrote_as kind w = outcome w.0.answer (kind (take w.0.length w.1)) nothing

-- loading what was written: a sheet; where the call straight before wrote none, loading is no call of a run
abbrev pub loaded : ℕ → ℕ → Outcome → Wrote → Outcome
loaded party places o nothing = o
loaded party places o (sheet text) = with_code o.code (load_of limit party places o.journal text)
loaded party places o (line text) = o

-- after writing, which leaves journal and code as they are
abbrev pub after_writing : Outcome → (List ℕ → Wrote) → Written × List ℕ → State
after_writing o kind w = record { after = record { answer = w.0.answer; journal = o.journal; code = o.code }; wrote = wrote_as kind w }

-- one call of a party with its journal of this number of places
abbrev pub next : ℕ → ℕ → State → SheetCall → State
next party places s (call c) = record { after = step party places s.after c; wrote = nothing }
next party places s (write out) =
    let j = s.after.journal in after_writing s.after sheet (wrote_of (write_refusals party places j) (sheet_of j) out)
next party places s (write_line i out) =
    let j = s.after.journal in after_writing s.after line (wrote_of (write_refusals party places j) (sheet_line j i) out)
next party places s load = record { after = loaded party places s.after s.wrote; wrote = nothing }
next party places s (load_text text) = record { after = loaded party places s.after (sheet text); wrote = nothing }

-- a run from what there is; the last call stands first
abbrev pub across : ℕ → ℕ → Outcome → List SheetCall → State
across party places o [] = record { after = o; wrote = nothing }
across party places o (c ∷ cs) = next party places (across party places o cs) c

-- a run from a first code and an empty journal
abbrev pub run_across : ℕ → ℕ → List ℕ → List SheetCall → State
run_across party places code calls = across party places (run party places code []) calls

-- its calls of demand 3
abbrev pub plain : List SheetCall → List Call
plain [] = []
plain (call c ∷ cs) = c ∷ plain cs
plain (write out ∷ cs) = plain cs
plain (write_line i out ∷ cs) = plain cs
plain (load ∷ cs) = plain cs
plain (load_text text ∷ cs) = plain cs

-- a run of demand 3: what it loads is what the call straight before wrote
abbrev pub own_sheets : List SheetCall → Bool
own_sheets [] = true
own_sheets (call c ∷ cs) = own_sheets cs
own_sheets (write out ∷ cs) = own_sheets cs
own_sheets (write_line i out ∷ cs) = own_sheets cs
own_sheets (load ∷ cs) = own_sheets cs
own_sheets (load_text text ∷ cs) = false

-- what demand 3 says after a run with sheets
pub record HoldsAcross (party places : ℕ) (code : List ℕ) (calls : List SheetCall) : Type 0 where
  -- the code is that of its calls of demand 3 alone
  pub code_is : (run_across party places code calls).after.code ≡ (run party places code (plain calls)).code
  -- so is the journal
  pub journal-is : (run_across party places code calls).after.journal ≡ (run party places code (plain calls)).journal
  -- and so is what the next of them answers
  pub answers : (c : Call) → (run_across party places code (call c ∷ calls)).after.answer ≡ (run party places code (c ∷ plain calls)).answer
  -- the sheet that the last call wrote is taken where it is loaded
  pub loads : (text : List ℕ) → (run_across party places code calls).wrote ≡ sheet text → (run_across party places code (load ∷ calls)).after.answer ≡ accepted
  -- and of its calls of demand 3 all that demand 3 says
  pub holds : Holds party places code (plain calls)

-- demand 3 across sheets: of every party, every number of places up to the limit, every code of at most `longest_code` bytes and every run
-- with sheets of its own
abbrev pub Demand3Across : Type 0
Demand3Across =
    (party places : ℕ) (code : List ℕ) → places ≤ limit → ((i : ℕ) → get_or code i 0 < 2 ^ 8) → length code ≤ longest_code → (calls : List SheetCall) → T (own_sheets calls)
    → HoldsAcross party places code calls
