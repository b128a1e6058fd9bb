-- Scripts (02's #107): what a script comes to, cut between two lines or by the room for its answers, and that it is among the calls of demand 3
-- and of independence: it is the calls of its lines, one after the other. Proved in `proofs/Scripts.antt`. Assumes nothing.
use Rattle.std.specs.Prelude.{ℕ, ◌+◌, ◌%◌, ◌^◌, ◌≤◌, ◌<◌, ◌≡◌, Bool, true, cond, List, [], ◌∷◌, ◌++◌, Option, Some, None, T, length, drop}
use Rattle.bundle.specs.Bundle.{longest_code}
use Rattle.journal.specs.Change.{made_all, records_of}
use Rattle.journal.specs.declared.Act.{Act}
use Rattle.journal.specs.declared.Act.TheVariants.{Edit as EditAct, Checked, Undo}
use Rattle.records.specs.Journal.{Journal, journal_of}
use Rattle.records.specs.Shared.{Shared, own_of, places_of, serves, is_opened, fresh}
use Rattle.text.specs.Ascii.{newline}
use Rattle.script.specs.Line.{lines_of, asked_in}
use Rattle.script.specs.Script.{SoFar, lines_by, fitting, run_by, begun, PartOutcome, ended_in, script_by}
use Rattle.demands.specs.Demand3.{Call, edit, checked, make, undo, standing_changes}
use Rattle.demands.specs.Across.{SheetCall, call, plain, own_sheets}
use Rattle.demands.specs.Parties.{mixed, calls_of, alone_of, AreCodes}

-- a script, or a part of it, with room for all of its lines
abbrev pub whole_by : List ℕ → Shared → ℕ → ℕ → Bool → List ℕ → SoFar
whole_by code s party next stopped text = lines_by party (begun code s next stopped) (lines_of text)

-- the next part: it goes on with what the one before left, its number expected among it, and stays stopped where that stopped
abbrev pub goes_on : ℕ → SoFar → List ℕ → SoFar
goes_on party s text = whole_by s.code s.journal party s.next s.stopped text

-- two parts as one: the end of the second, and the lines written one after the other
abbrev pub joined : SoFar → SoFar → SoFar
joined s t =
    record {
      journal = t.journal;
      code = t.code;
      next = t.next;
      stopped = t.stopped;
      done = s.done + t.done;
      written = s.written ++ t.written;
    }

-- cut between two lines it comes to the same
abbrev pub Cut : Type 0
Cut =
    (code : List ℕ) (s : Shared) (party next : ℕ) (stopped : Bool) (one other : List ℕ)
    → let part = whole_by code s party next stopped (one ++ (newline ∷ [])) in
    whole_by code s party next stopped (one ++ (newline ∷ other)) ≡ joined part (goes_on party part other)

-- with any output: what is done, and then the text that is left, come to the same
abbrev pub RoomCuts : Type 0
RoomCuts =
    (code : List ℕ) (s : Shared) (party next : ℕ) (stopped : Bool) (text out : List ℕ)
    → let part = run_by party (length out) (begun code s next stopped) text in
    (script_by code s party next stopped text out ≡ ended_in out part)
    × (whole_by code s party next stopped text ≡ joined part (goes_on party part (drop part.done text)))

-- the call that a line makes
abbrev pub call_of : Act → Call
call_of (EditAct e) = make (edit e)
call_of (Checked e) = make (checked e)
call_of Undo = undo

-- what comes after what a line asks, or where it asks nothing
abbrev pub after_asked {ℓ} : {A : Type ℓ} → Option Act → (Act → A) → A → A
after_asked (Some act) more other = more act
after_asked None more other = other

-- some calls, and then those of a party's lines that are done while this number is expected; the last stands first
abbrev pub then_lines : ℕ → ℕ → List (List ℕ) → List (ℕ × SheetCall) → List (ℕ × SheetCall)
then_lines party next [] calls = calls
then_lines party next (l ∷ ls) calls = after_asked (asked_in next l) (λ act. then_lines party ((next + 1) % 2 ^ 64) ls ((party, call (call_of act)) ∷ calls)) calls

-- some calls, and then those of the lines that a part of a script does, begun with this code and this journal
abbrev pub then_script : List ℕ → Shared → ℕ → ℕ → Bool → List ℕ → List ℕ → List (ℕ × SheetCall) → List (ℕ × SheetCall)
then_script code s party next stopped text out calls =
    cond stopped calls (then_lines party next (fitting party (length out) (begun code s next stopped) (lines_of text)) calls)

-- after any calls a script is those of its lines: it leaves the journal and the codes that they leave. So what is said of runs, demand 3 and
-- independence, is said of runs with scripts
abbrev pub ScriptIsCalls : Type 0
ScriptIsCalls =
    (s : Shared) (codes : ℕ → List ℕ) (calls : List (ℕ × SheetCall)) (party next : ℕ) (stopped : Bool) (text out : List ℕ)
    → let m = mixed s codes calls in
    let ran = script_by (m.code party) m.journal party next stopped text out in
    let called = mixed s codes (then_script (m.code party) m.journal party next stopped text out calls) in
    (ran.journal ≡ called.journal) × (ran.code ≡ called.code party) × ((q : ℕ) → (q ≡ party → ⊥) → called.code q ≡ m.code q)

-- demand 3 after a script, by the party's calls and those of the lines done: the code is the first code with the standing changes made in
-- order, and the journal has their records and no other
abbrev pub Demand3Scripts : Type 0
Demand3Scripts =
    (parties : ℕ) (codes : ℕ → List ℕ) → is_opened parties ≡ true → AreCodes codes → (calls : List (ℕ × SheetCall)) (party : ℕ) → party < parties
    → length (codes party) ≤ longest_code → T (own_sheets (calls_of party calls)) → (next : ℕ) (stopped : Bool) (text out : List ℕ)
    → let m = mixed (fresh parties) codes calls in
    let ran = script_by (m.code party) m.journal party next stopped text out in
    let own = plain (calls_of party (then_script (m.code party) m.journal party next stopped text out calls)) in
    let standing = standing_changes (places_of parties party) (codes party) own in
    (ran.code ≡ made_all (codes party) standing) × (own_of ran.journal party ≡ journal_of (places_of parties party) (records_of party (codes party) standing))

-- what a party has of a script: its journal and its code, the number expected, whether it stopped, how much is done, how much is written, and
-- the output
abbrev pub seen_of : ℕ → PartOutcome → Journal × List ℕ × ℕ × Bool × ℕ × ℕ × List ℕ
seen_of party o = (own_of o.journal party, o.code, o.next, o.stopped, o.done, o.length, o.out)

-- independence: among any calls of others a party's script comes to what it comes to alone
abbrev pub ScriptAlone : Type 0
ScriptAlone =
    (s : Shared) (codes : ℕ → List ℕ) → AreCodes codes → (calls : List (ℕ × SheetCall)) (party : ℕ) → serves s party ≡ true
    → (next : ℕ) (stopped : Bool) (text out : List ℕ)
    → let m = mixed s codes calls in
    let alone = mixed s codes (alone_of party calls) in
    seen_of party (script_by (m.code party) m.journal party next stopped text out)
    ≡ seen_of party (script_by (alone.code party) alone.journal party next stopped text out)
