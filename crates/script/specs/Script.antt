-- A script run: its lines one after the other, each in turn an edit or an undo of the party as it is on its own, and a line of output for
-- each. A line that doesn't read or is out of turn stops it. Assumes nothing.
use Rattle.std.specs.Prelude.{ℕ, ◌+◌, ◌%◌, ◌^◌, Bool, true, false, cond, List, [], ◌∷◌, ◌++◌, length, drop, nat_le, Option, Some, None}
use Rattle.journal.specs.Edit.{SharedOutcome, act_by}
use Rattle.journal.specs.declared.Act.{Act}
use Rattle.record.specs.declared.Record.{Record}
use Rattle.records.specs.Journal.{view_of}
use Rattle.records.specs.Shared.{Shared, sharing, places_of, served_of}
use Rattle.text.specs.Ascii.{line}
use Rattle.text.specs.Decimal.{decimal}
use Rattle.script.specs.Line.{lines_of, asked_in}
use Rattle.script.specs.declared.Ran.{Ran}

-- what there is after some lines: the journal and the code, the number expected, whether the script stopped, how many bytes of it are done,
-- and the lines written
pub record SoFar : Type 0 where
  pub journal : Shared
  pub code : List ℕ
  pub next : ℕ
  pub stopped : Bool
  pub done : ℕ
  pub written : List ℕ

-- how many edits of a party stand; of a journal that isn't valid none
abbrev pub standing_of : Shared → ℕ → ℕ
standing_of s party = (view_of party (places_of s.parties party) (served_of s party)).count

-- the line that is written: the number expected, the answer, how many edits stand
abbrev pub answer_line : ℕ → ℕ → ℕ → List ℕ
answer_line next answer count = line (decimal next ∷ decimal answer ∷ decimal count ∷ [])

abbrev pub bad_script : ℕ
bad_script = 16

-- after a line whose act comes to this
abbrev pub gone_on : ℕ → SoFar → List ℕ → SharedOutcome → SoFar
gone_on party s l o =
    record {
      journal = o.journal;
      code = o.code;
      next = (s.next + 1) % 2 ^ 64;
      stopped = false;
      done = s.done + length l;
      written = s.written ++ answer_line s.next o.answer (standing_of o.journal party);
    }

-- after a line that stops it: what came before stands, and the line isn't done
abbrev pub stopped_at : ℕ → SoFar → SoFar
stopped_at party s =
    record {
      journal = s.journal;
      code = s.code;
      next = s.next;
      stopped = true;
      done = s.done;
      written = s.written ++ answer_line s.next bad_script (standing_of s.journal party);
    }

abbrev pub asked : ℕ → SoFar → List ℕ → Option Act → SoFar
asked party s l (Some act) = gone_on party s l (act_by s.code s.journal party act)
asked party s l None = stopped_at party s

-- after one line; a script that stopped stays stopped
unfoldable pub line_by : ℕ → SoFar → List ℕ → SoFar
line_by party s l = cond s.stopped s (asked party s l (asked_in s.next l))

-- after some, one after the other
abbrev pub lines_by : ℕ → SoFar → List (List ℕ) → SoFar
lines_by party s [] = s
lines_by party s (l ∷ ls) = lines_by party (line_by party s l) ls

-- the longest line written: numbers of 20, 2 and 4 digits, two tabs, a newline
abbrev pub longest_line : ℕ
longest_line = 29

-- those of some lines for which there is room in an output of so many bytes
abbrev pub fitting : ℕ → ℕ → SoFar → List (List ℕ) → List (List ℕ)
fitting party room s [] = []
fitting party room s (l ∷ ls) = cond (nat_le (length s.written + longest_line) room) (l ∷ fitting party room (line_by party s l) ls) []

-- the lines of a text, as far as there is room
abbrev pub run_by : ℕ → ℕ → SoFar → List ℕ → SoFar
run_by party room s text = lines_by party s (fitting party room s (lines_of text))

-- before the first line of a part
abbrev pub begun : List ℕ → Shared → ℕ → Bool → SoFar
begun code s next stopped = record { journal = s; code = code; next = next; stopped = stopped; done = 0; written = [] }

-- what a part of a script comes to: the journal, the code, the number expected and whether it stopped, how many bytes of the text are done,
-- how many are written, and the output
pub record PartOutcome : Type 0 where
  pub journal : Shared
  pub code : List ℕ
  pub next : ℕ
  pub stopped : Bool
  pub done : ℕ
  pub length : ℕ
  pub out : List ℕ

abbrev pub ended_in : List ℕ → SoFar → PartOutcome
ended_in out s =
    record {
      journal = s.journal;
      code = s.code;
      next = s.next;
      stopped = s.stopped;
      done = s.done;
      length = length s.written;
      out = s.written ++ drop (length s.written) out;
    }

-- what `run` comes to, of a party and a part that is begun with this number expected, stopped or not
abbrev pub script_by : List ℕ → Shared → ℕ → ℕ → Bool → List ℕ → List ℕ → PartOutcome
script_by code s party next stopped text out = ended_in out (run_by party (length out) (begun code s next stopped) text)

-- what the call hands back, with the records, the code and the output that it leaves
abbrev pub ran_of : Ran → List Record → List ℕ → List ℕ → PartOutcome
ran_of r records code out =
    record { journal = sharing r.counts records; code = code; next = r.next; stopped = r.stopped; done = r.done; length = r.length; out = out }
