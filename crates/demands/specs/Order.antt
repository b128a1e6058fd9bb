-- When the order of edits does not matter (02's #113): for two files of them between which no order was recorded. It is said of plain field edits by one
-- party, with any shared journal that serves the party, so one that was loaded too. Between the edits may stand any calls of another party,
-- and of the party's own calls sheets and lines written and the load of the sheet that its call straight before wrote. Its other calls
-- between them are excepted: an undo, the load of another text, and checked edits, imports and folds. An edit that is acceptable is none of a
-- retired form, so that #112 leaves all of it as it stands. The code comes out the same, while the
-- journals may differ. It is about `mixed`, which goes by the contracts of the calls, so about `edit_by`, and about `meets`, which the call `meet`
-- answers. Proved in `proofs/Order.antt`. Assumes nothing.
use Rattle.std.specs.Prelude.{ℕ, ◌+◌, ◌≤◌, ◌≡◌, true, false, List, [], ◌∷◌, length}
use Rattle.answer.specs.Answer.{accepted}
use Rattle.form.specs.declared.Edit.{Edit}
use Rattle.immediate.specs.Immediate.{parts_of}
use Rattle.meet.specs.Meet.{meets}
use Rattle.records.specs.Journal.{standing}
use Rattle.records.specs.Shared.{Shared, own_of, places_of, serves, SharedFits64}
use Rattle.journal.specs.Edit.{edit_by}
use Rattle.demands.specs.Demand3.{edit, make}
use Rattle.demands.specs.Across.{SheetCall, call, write, write_line, load}
use Rattle.demands.specs.Parties.{mixed, AreCodes}

-- a run in which a party makes just these edits; in both lists the last stands first
pub data Makes (party : ℕ) : List (ℕ × SheetCall) → List Edit → Type 0 where
  none : Makes party [] []
  -- an edit
  edits : {calls : List (ℕ × SheetCall)} {es : List Edit} (e : Edit) → Makes party calls es → Makes party ((party, call (make (edit e))) ∷ calls) (e ∷ es)
  -- a sheet written to an output, or line i of it
  writes : {calls : List (ℕ × SheetCall)} {es : List Edit} (out : List ℕ) → Makes party calls es → Makes party ((party, write out) ∷ calls) es
  writes_line : {calls : List (ℕ × SheetCall)} {es : List Edit} (i : ℕ) (out : List ℕ) → Makes party calls es → Makes party ((party, write_line i out) ∷ calls) es
  -- the sheet loaded that the party's call straight before wrote
  loads : {calls : List (ℕ × SheetCall)} {es : List Edit} → Makes party calls es → Makes party ((party, load) ∷ calls) es
  -- any call of another party
  by_other : {calls : List (ℕ × SheetCall)} {es : List Edit} (q : ℕ) (c : SheetCall) → (q ≡ party → ⊥) → Makes party calls es → Makes party ((q, c) ∷ calls) es

-- each edit of the party among a run's calls is accepted
abbrev pub AllAccepted : Shared → (ℕ → List ℕ) → ℕ → List (ℕ × SheetCall) → Type 0
AllAccepted s codes party [] = Unit {0}
AllAccepted s codes party (c ∷ cs) =
    ((e : Edit) → c ≡ (party, call (make (edit e))) → (mixed s codes (c ∷ cs)).answer party ≡ accepted) × AllAccepted s codes party cs

-- the start: codes of bytes, and a journal of records of the code that serves the party, of whose places n are free
pub record Start (s : Shared) (codes : ℕ → List ℕ) (party n : ℕ) : Type 0 where
  pub bytes : AreCodes codes
  pub held : SharedFits64 s
  pub served : serves s party ≡ true
  pub free : length (standing (own_of s party)) + n ≤ places_of s.parties party

-- acceptable at the start: accepted as the first call
abbrev pub Acceptable : Shared → (ℕ → List ℕ) → ℕ → Edit → Type 0
Acceptable s codes party e = (edit_by (codes party) s party e).answer ≡ accepted

-- two edits have no bit in common, by the table
abbrev pub Apart : Edit → Edit → Type 0
Apart d e = meets d e ≡ false

-- what is so of two runs: each edit is accepted in the one and in the other, and they leave the party the same code
pub record Agree (s : Shared) (codes : ℕ → List ℕ) (party : ℕ) (calls others : List (ℕ × SheetCall)) : Type 0 where
  pub accepted-so : AllAccepted s codes party calls
  pub accepted-otherwise : AllAccepted s codes party others
  pub same_code : (mixed s codes calls).code party ≡ (mixed s codes others).code party

-- two edits that have no bit in common, each acceptable at the start, with two free places, are accepted in either order and give the same
-- code
abbrev pub ApartCommute : Type 0
ApartCommute =
    (s : Shared) (codes : ℕ → List ℕ) (party : ℕ) (d e : Edit) → Start s codes party 2 → Acceptable s codes party d → Acceptable s codes party e → Apart d e
    → (calls others : List (ℕ × SheetCall)) → Makes party calls (e ∷ d ∷ []) → Makes party others (d ∷ e ∷ []) → Agree s codes party calls others

-- two edits of the same field: of the same bits of one bundle, whatever their forms (B1, B2 and B3 have the same)
pub record SameField (d e : Edit) : Type 0 where
  pub bundle : d.bundle ≡ e.bundle
  pub parts : parts_of d ≡ parts_of e

-- what is so of an edit d and a later one, e
pub record LaterDecides (s : Shared) (codes : ℕ → List ℕ) (party : ℕ) (d e : Edit) : Type 0 where
  -- the later is accepted, whatever the earlier answered
  pub later-accepted : (calls : List (ℕ × SheetCall)) → Makes party calls (d ∷ []) → (mixed s codes ((party, call (make (edit e))) ∷ calls)).answer party ≡ accepted
  -- and it decides the code alone: what it gives at the start
  pub later-alone : (calls : List (ℕ × SheetCall)) → Makes party calls (e ∷ d ∷ []) → (mixed s codes calls).code party ≡ (edit_by (codes party) s party e).code

-- of two edits of the same field the later decides the code alone, where it is acceptable at the start and two places are free
abbrev pub LastCounts : Type 0
LastCounts =
    (s : Shared) (codes : ℕ → List ℕ) (party : ℕ) (d e : Edit) → Start s codes party 2 → Acceptable s codes party e → SameField d e → LaterDecides s codes party d e

-- each of some edits
abbrev pub Each : (Edit → Type 0) → List Edit → Type 0
Each P [] = Unit {0}
Each P (e ∷ es) = P e × Each P es

-- a mix of two files, which keeps the order of each; the last edit stands first, in a file too
pub data Mix : List Edit → List Edit → List Edit → Type 0 where
  done : Mix [] [] []
  one : {ds es mix : List Edit} (d : Edit) → Mix ds es mix → Mix (d ∷ ds) es (d ∷ mix)
  other : {ds es mix : List Edit} (e : Edit) → Mix ds es mix → Mix ds (e ∷ es) (e ∷ mix)

-- two files: where each edit of the one has no bit in common with any of the other, each is acceptable at the start and there is a free
-- place for each, every two mixes of them are accepted and give the same code
abbrev pub TwoFiles : Type 0
TwoFiles =
    (s : Shared) (codes : ℕ → List ℕ) (party : ℕ) (ds es : List Edit) → Start s codes party (length ds + length es)
    → Each (Acceptable s codes party) ds → Each (Acceptable s codes party) es → Each (λ d. Each (Apart d) es) ds
    → (mix mix' : List Edit) → Mix ds es mix → Mix ds es mix' → (calls others : List (ℕ × SheetCall)) → Makes party calls mix → Makes party others mix' → Agree s codes party calls others
