-- How a script is gone through: what is kept from line to line beside the slices, and where a line of the text is. Assumes nothing.
use Rattle.std.specs.Prelude.{◌≡◌, ℕ, suc, ◌+◌, ◌%◌, ◌^◌, ◌≤◌, true, false, cond, List, [], ◌∷◌, length, take, drop, ◌==◌}
use Rattle.record.specs.declared.Record.{Record}
use Rattle.records.specs.Shared.{sharing}
use Rattle.records.specs.inner.Shows.{as_own_view, ShowsPart}
use Rattle.text.specs.Ascii.{newline}
use Rattle.script.specs.Script.{SoFar}
use Rattle.script.specs.declared.State.{State}

-- where a byte first stands in a text, and the text's length where it doesn't
abbrev pub index_of : ℕ → List ℕ → ℕ
index_of b [] = 0
index_of b (c ∷ text) = cond (c == b) 0 (suc (index_of b text))

-- the line of a text at a place
abbrev pub line_at : List ℕ → ℕ → List ℕ
line_at text at = take (suc (index_of newline (drop at text))) (drop at text)

-- what there is, by what is kept and the slices
abbrev pub so_far : State → List Record → List ℕ → List ℕ → SoFar
so_far t records code out =
    record { journal = sharing t.ran.counts records; code = code; next = t.ran.next; stopped = t.ran.stopped; done = t.ran.done; written = take t.ran.length out }

-- what is kept after a line that stops the script, and after one that was done, where so many bytes are written
abbrev pub stopped_with : State → ℕ → State
stopped_with t length = record { ran = record { counts = t.ran.counts; next = t.ran.next; stopped = true; done = t.ran.done; length = length }; own = t.own }

abbrev pub gone_with : State → ℕ → ℕ → State
gone_with t end length = record { ran = record { counts = t.ran.counts; next = (t.ran.next + 1) % 2 ^ 64; stopped = false; done = end; length = length }; own = t.own }

-- what is kept shows the party's journal, and what is written lies in the output
pub record Keeps (party : ℕ) (t : State) (records : List Record) (out : List ℕ) : Type 0 where
  pub shows : ShowsPart t.ran.counts records party (as_own_view t.own)
  pub within : t.ran.length ≤ length out

-- after a line more: past what is written the output is as it was
pub record Goes (t r : State) (out out' : List ℕ) : Type 0 where
  pub more : t.ran.length ≤ r.ran.length
  pub rest : drop r.ran.length out' ≡ drop r.ran.length out
