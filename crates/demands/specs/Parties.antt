-- Parties that share a journal: each has what it would have had alone, and demand 3 holds for each. A run is one list of calls, each with its
-- party; it is about what the contracts of the calls equate all with that they do (`edit_by`, `checked_by`, `undo_by`, `fold_by`, `write_by`, `load_by`, and so on), and each
-- party's code is written by that party alone. Proved in `proofs/Parties.antt`. Assumes nothing.
use Rattle.std.specs.Prelude.{ℕ, ◌<◌, ◌^◌, ◌≤◌, ◌≡◌, true, cond, List, [], ◌∷◌, map, T, eqb, length, get_or}
use Rattle.answer.specs.Answer.{accepted}
use Rattle.bundle.specs.Bundle.{longest_code}
use Rattle.form.specs.declared.Edit.{Edit}
use Rattle.journal.specs.Edit.{SharedOutcome, SharedJournalOutcome, by_party, edit_by, checked_by, undo_by}
use Rattle.fold.specs.Fold.{fold_by}
use Rattle.demands.specs.Demand3.{Call, edit, checked, make, undo, fold, step}
use Rattle.records.specs.Shared.{Shared, own_of, places_of, serves, served_of, is_opened, fresh}
use Rattle.sheet.specs.Sheet.{write_by, write_line_by}
use Rattle.sheet.specs.Load.{load_by}
use Rattle.demands.specs.Across.{SheetCall, call, write, write_line, load, load_text, Wrote, nothing, sheet, line, State, wrote_as, run_across, own_sheets, HoldsAcross}

-- what there is in a run: the shared journal, and of each party its code, what its last call answered and what that wrote
pub record Mixed : Type 0 where
  pub journal : Shared
  pub code : ℕ → List ℕ
  pub answer : ℕ → ℕ
  pub wrote : ℕ → Wrote

-- the same for all parties but one
abbrev pub but : {A : Type 0} → (ℕ → A) → ℕ → A → ℕ → A
but f party a q = cond (eqb q party) a (f q)

-- after a party's call that leaves this journal, answers this, leaves this code and wrote this
abbrev pub left : Mixed → ℕ → Shared → ℕ → List ℕ → Wrote → Mixed
left m party journal answer code wrote =
    record { journal = journal; code = but m.code party code; answer = but m.answer party answer; wrote = but m.wrote party wrote }

-- loading what was written: a sheet; where the party's call before wrote none, there is nothing to load
abbrev pub loaded_by : Mixed → ℕ → Wrote → Mixed
loaded_by m party nothing = left m party m.journal (m.answer party) (m.code party) nothing
loaded_by m party (sheet text) = let l = load_by m.journal party text in left m party l.journal l.answer (m.code party) nothing
loaded_by m party (line text) = left m party m.journal (m.answer party) (m.code party) nothing

-- what a party's call of demand 3 comes to with the shared journal, by what it comes to with the party's own
abbrev pub call_by : List ℕ → Shared → ℕ → Call → SharedOutcome
call_by code s party c = by_party s party (step party (places_of s.parties party) (record { answer = accepted; journal = served_of s party; code = code }) c)

-- beside a code, which such a call leaves
abbrev pub shared_with_code : List ℕ → SharedJournalOutcome → SharedOutcome
shared_with_code code o = record { answer = o.answer; journal = o.journal; code = code }

-- which is what the contracts say
pub record ByContract (code : List ℕ) (s : Shared) (party : ℕ) : Type 0 where
  -- of an edit
  pub edits : (e : Edit) → call_by code s party (make (edit e)) ≡ edit_by code s party e
  -- of a checked edit
  pub checks : (e : Edit) → call_by code s party (make (checked e)) ≡ checked_by code s party e
  -- of an undo
  pub undoes : call_by code s party undo ≡ undo_by code s party
  -- and of a fold, which leaves the code
  pub folds : call_by code s party fold ≡ shared_with_code code (fold_by s party)

-- one call of a party
abbrev pub called_by : Mixed → ℕ → SheetCall → Mixed
called_by m party (call c) = let o = call_by (m.code party) m.journal party c in left m party o.journal o.answer o.code nothing
called_by m party (write out) = let w = write_by m.journal party out in left m party m.journal w.0.answer (m.code party) (wrote_as sheet w)
called_by m party (write_line i out) = let w = write_line_by m.journal party i out in left m party m.journal w.0.answer (m.code party) (wrote_as line w)
called_by m party load = loaded_by m party (m.wrote party)
called_by m party (load_text text) = loaded_by m party (sheet text)

-- a run from a shared journal, with a code for each party; the last call stands first
abbrev pub mixed : Shared → (ℕ → List ℕ) → List (ℕ × SheetCall) → Mixed
mixed s codes [] = record { journal = s; code = codes; answer = λ _. accepted; wrote = λ _. nothing }
mixed s codes (c ∷ cs) = called_by (mixed s codes cs) c.0 c.1

-- what a party has of it: what its last call answered, its journal, its code, and what that call wrote
abbrev pub seen_by : Mixed → ℕ → State
seen_by m party = record { after = record { answer = m.answer party; journal = own_of m.journal party; code = m.code party }; wrote = m.wrote party }

-- the calls of one party among them
abbrev pub calls_of : ℕ → List (ℕ × SheetCall) → List SheetCall
calls_of party [] = []
calls_of party (c ∷ cs) = cond (eqb c.0 party) (c.1 ∷ calls_of party cs) (calls_of party cs)

-- these alone, each with its party
abbrev pub alone_of : ℕ → List (ℕ × SheetCall) → List (ℕ × SheetCall)
alone_of party cs = map (λ (c : SheetCall). (party, c)) (calls_of party cs)

-- codes of bytes
abbrev pub AreCodes : (ℕ → List ℕ) → Type 0
AreCodes codes = (party i : ℕ) → get_or (codes party) i 0 < 2 ^ 8

-- independence: with any journal that serves a party, under any mixing of calls, the party has what it would have had alone with that
-- journal; so with a fresh one that is opened for two, which serves both (`FreshServes` of `records`)
abbrev pub Independent : Type 0
Independent =
    (s : Shared) (codes : ℕ → List ℕ) → AreCodes codes → (calls : List (ℕ × SheetCall)) (party : ℕ) → serves s party ≡ true
    → seen_by (mixed s codes calls) party ≡ seen_by (mixed s codes (alone_of party calls)) party

-- what is so of each party of a fresh journal, whether one or two share it
pub record HoldsFor (parties : ℕ) (codes : ℕ → List ℕ) (calls : List (ℕ × SheetCall)) (party : ℕ) : Type 0 where
  -- it has what its own calls come to with a journal of its own, of as many places
  pub has : seen_by (mixed (fresh parties) codes calls) party ≡ run_across party (places_of parties party) (codes party) (calls_of party calls)
  -- and of these demand 3 holds, where it loads no sheet but the one that its own call before wrote
  pub holds : length (codes party) ≤ longest_code → T (own_sheets (calls_of party calls)) → HoldsAcross party (places_of parties party) (codes party) (calls_of party calls)

-- demand 3 for each party of every journal that is opened for one or two
abbrev pub Demand3Parties : Type 0
Demand3Parties =
    (parties : ℕ) (codes : ℕ → List ℕ) → is_opened parties ≡ true → AreCodes codes → (calls : List (ℕ × SheetCall)) (party : ℕ) → party < parties → HoldsFor parties codes calls party
