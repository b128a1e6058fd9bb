-- When the order of edits does not matter. An edit that is made leaves every other one acceptable, since no tag changes; two that have no
-- bit in common can be made in either order, and of two of the same field the first leaves nothing: in one bundle by the laws of rows, in
-- two since the one leaves the other. So a mix of two files gives the one after the other. A run gives its party what its own edits alone
-- come to, since each party has what it would have had alone and the sheet just written loads as the journal. Assumes nothing.
use mathlib.Core.Path.{◌≡◌, refl, sym, ap, ◌∙◌, subst}
use mathlib.Core.Bool.{Bool, not, ◌&&◌}
use mathlib.Core.List.{List, [], ◌∷◌, ◌++◌, map}
use Prim.Native.Nat.{ℕ, ◌+◌, ◌≤◌}
use native.Mathlib.Decide.{ℕ_discrete}
use native.Mathlib.Omega.{arith}
use borrow.Author.Tests.{le-ltb, eq-eqb, ne_eqb, not-false}
use lib.Dec.{T, ltb}
use lib.ListN.{length, length-append}
use Rattle.answer.specs.Answer.{Reason, accepted, full}
use Rattle.answer.proofs.Laws.{first_on}
use Rattle.bits.specs.Parts.{Parts, scatter, meet_not}
use Rattle.bundle.specs.Bundle.{number_at, tag_of, find_refusals, find_answer}
use Rattle.bundle.proofs.Bytes.{Bytes}
use Rattle.bundle.proofs.Lies.{Lies, found-when}
use Rattle.form.specs.declared.Edit.{Edit}
use Rattle.row.specs.Row.{row_of}
use Rattle.immediate.specs.Immediate.{raw_for, changed_number, parts_of}
use Rattle.immediate.proofs.Laws.{change-sound, changed-tag, changed-comm}
use Rattle.immediate.proofs.Written.{written-again}
use Rattle.record.specs.Record.{fits64}
use Rattle.record.specs.declared.Record.{Record}
use Rattle.records.specs.Journal.{Journal, all, standing, journal_of, valid_of}
use Rattle.records.specs.Shared.{Shared, own_of, places_of, served_of}
use Rattle.records.proofs.Sharing.{Serving, serving, by-party, own-valid, served-own, places-within}
use Rattle.records.proofs.Standing.{journal-stands, valid-is-journal}
use Rattle.journal.specs.Change.{rewritten, field, new_number, changed, change_record, made_all, Outcome, make_of}
use Rattle.journal.specs.Edit.{change_with, retired_refusal, code_refusals, edit_of}
use Rattle.journal.proofs.Laws.{parts-accept, taken-changes}
use Rattle.journal.proofs.Rewritten.{rewritten-twice}
use Rattle.sheet.specs.RoundTrip.{HasSheet}
use Rattle.sheet.specs.Sheet.{tells}
use Rattle.sheet.specs.declared.line.Kind.TheVariants.{Full}
use Rattle.demands.specs.Demand3.{Making, edit, refusals_of, changes_of, Call, make, step}
use Rattle.demands.specs.Across.{SheetCall, call, State, plain, own_sheets}
use Rattle.demands.specs.Parties.{mixed, calls_of}
use Rattle.demands.specs.Order.{Makes, none, edits, writes, writes_line, loads, by_other, AllAccepted, Start, Acceptable, Apart, ApartCommute, SameField, LastCounts, Each, Mix, done, one, other, TwoFiles}
use Rattle.demands.proofs.Across.{changes-held, from, Sheets, Reached, same_next, reached}
use Rattle.demands.proofs.Changes.{lies-as, changed-length, changed-bytes, changed-number, making-stands, making-numbered}
use Rattle.demands.proofs.Edits.{Fits, in_code, make-of}
use Rattle.demands.proofs.Kept.{all_more, step-good, step_kept}
use Rattle.journal.proofs.Kept.{make-kept, make-taken, Good}
use Rattle.demands.proofs.Parties.{reached as parties-reached, start}
use Rattle.demands.proofs.Run.{same_step}
use Rattle.demands.proofs.Two.{rewritten-other, rewritten-comm}

-- an edit d that the code takes
module _ (code : List ℕ) (b : Bytes code) (d : Edit) (takes : Fits code d) where
  abbrev now : List ℕ
  now = changed code (field d)

  -- leaves every bundle its tag
  tag_stays : (k : ℕ) → Lies code k → tag_of (number_at now k) ≡ tag_of (number_at code k)
  tag_stays k l =
      elim (ℕ_discrete d.bundle k) [
        | yes s ↦ rw (← s) (ap tag_of (changed-number code (field d) takes b) ∙ changed-tag (number_at code d.bundle) d)
        | no n ↦ ap tag_of (rewritten-other code d.bundle k (in_code code d takes) l n _)
      ]

  -- and one e that the code takes too
  module _ (e : Edit) (fits : Fits code e) where
    abbrev asked : ℕ → List Reason
    asked n = change_with (retired_refusal e ∷ []) [] n e

    -- is acceptable still: its bundle's tag decides that, and its form
    fits-still : Fits now e
    unfolding find_answer
    fits-still =
        let l = in_code code e fits in
        first_on (find_refusals now e.bundle) (asked (number_at now e.bundle)) tt (found-when now e.bundle (lies-as code now e.bundle (changed-length code (field d) takes) l))
        ∙ rw (tag_stays e.bundle l) (parts-accept (find_refusals code e.bundle) (asked (number_at code e.bundle)) tt fits).1

    -- both in one bundle
    made-twice : d.bundle ≡ e.bundle → changed now (field e) ≡ rewritten code e.bundle (changed_number (changed_number (number_at code e.bundle) d) e)
    made-twice same =
        rw (← same)
        (ap (λ (n : ℕ). rewritten now d.bundle (changed_number n e)) (changed-number code (field d) takes b)
        ∙ rewritten-twice code d.bundle (in_code code d takes) (new_number code (field d)) _)

    -- each in its own
    made-beside : (d.bundle ≡ e.bundle → ⊥) → changed now (field e) ≡ rewritten now e.bundle (new_number code (field e))
    made-beside n = ap (λ (m : ℕ). rewritten now e.bundle (changed_number m e)) (rewritten-other code d.bundle e.bundle (in_code code d takes) (in_code code e fits) n _)

    -- the later of two edits of a field
    made_again : SameField d e → changed now (field e) ≡ changed code (field e)
    made_again s =
        let n = number_at code e.bundle in
        let raw = (raw_for (row_of d.form) d.value).raw in
        made-twice s.bundle
        ∙ ap (λ (ps : Parts). rewritten code e.bundle (changed_number (scatter n ps raw) e)) s.parts
        ∙ ap (rewritten code e.bundle) (written-again e.slot (row_of e.form) (change-sound n e (taken-changes code e fits)) n raw _)

-- two edits that have no bit in common
module _ (code : List ℕ) (b : Bytes code) (d e : Edit) (fd : Fits code d) (fe : Fits code e) (apart : Apart d e) where
  parts-apart : d.bundle ≡ e.bundle → T (meet_not (parts_of d) (parts_of e))
  parts-apart same =
      let test = meet_not (parts_of d) (parts_of e) in
      subst T (sym (not-false test (sym (ap (λ (t : Bool). t && not test) (eq-eqb d.bundle e.bundle same)) ∙ apart))) tt

  made-comm : changed (changed code (field d)) (field e) ≡ changed (changed code (field e)) (field d)
  made-comm =
      elim (ℕ_discrete d.bundle e.bundle) [
        | yes same ↦
            made-twice code b d fd e fe same
            ∙ ap (rewritten code e.bundle) (sym (changed-comm (number_at code e.bundle) d e (parts-apart same)))
            ∙ ap (λ (k : ℕ). rewritten code k (changed_number (changed_number (number_at code k) e) d)) (sym same)
            ∙ sym (made-twice code b e fe d fd (sym same))
        | no differ ↦
            made-beside code b d fd e fe differ
            ∙ rewritten-comm code d.bundle e.bundle (in_code code d fd) (in_code code e fe) differ _ _
            ∙ sym (made-beside code b e fe d fd (λ s. differ (sym s)))
      ]

-- a mix has the edits of both files, and these one after the other are one
mix-each : (P : Edit → Type 0) {ds es mix : List Edit} → Mix ds es mix → Each P ds → Each P es → Each P mix
mix-each P done p q = tt
mix-each P (one d m) p q = (p.0, mix-each P m p.1 q)
mix-each P (other e m) p q = (q.0, mix-each P m p q.1)

mix-length : {ds es mix : List Edit} → Mix ds es mix → length mix ≡ length ds + length es
mix-length done = refl
mix-length (one d m) = let h = mix-length m in omega arith
mix-length (other e m) = let h = mix-length m in omega arith

mix-append : (ds es : List Edit) → Mix ds es (ds ++ es)
mix-append [] [] = done
mix-append [] (e ∷ es) = other e (mix-append [] es)
mix-append (d ∷ ds) es = one d (mix-append ds es)

each : {P Q : Edit → Type 0} → ((e : Edit) → P e → Q e) → (es : List Edit) → Each P es → Each Q es
each f [] h = tt
each f (e ∷ es) h = (f e h.0, each f es h.1)

-- edits made by the table alone, the last first
abbrev edited : List ℕ → List Edit → List ℕ
edited code es = made_all code (map field es)

module _ (code : List ℕ) (b : Bytes code) where
  -- after edits that the code takes it takes every other that it took
  record Took (es : List Edit) : Type 0 where
    bytes : Bytes (edited code es)
    still : (e : Edit) → Fits code e → Fits (edited code es) e

  took : (es : List Edit) → Each (Fits code) es → Took es
  took [] h = record { bytes = b; still = λ e fits. fits }
  took (d ∷ es) h =
      let t = took es h.1 in
      let takes = t.still d h.0 in
      record { bytes = changed-bytes (edited code es) (field d) takes t.bytes; still = λ e fits. fits-still (edited code es) t.bytes d takes e (t.still e fits) }

  -- an edit can be made before a file of which it meets none
  passes : (e : Edit) → Fits code e → (ds es : List Edit) → Each (Fits code) ds → Each (Fits code) es → Each (λ d. Apart d e) ds
      → edited code (e ∷ ds ++ es) ≡ edited code (ds ++ (e ∷ es))
  passes e fe [] es fds fes apart = refl
  passes e fe (d ∷ ds) es fds fes apart =
      let t = took (ds ++ es) (mix-each (Fits code) (mix-append ds es) fds.1 fes) in
      made-comm (edited code (ds ++ es)) t.bytes d e (t.still d fds.0) (t.still e fe) apart.0
      ∙ ap (λ (c : List ℕ). changed c (field d)) (passes e fe ds es fds.1 fes apart.1)

  -- so a mix comes to the one file after the other
  mix-is : {ds es mix : List Edit} → Mix ds es mix → Each (Fits code) ds → Each (Fits code) es → Each (λ d. Each (Apart d) es) ds → edited code mix ≡ edited code (ds ++ es)
  mix-is done fds fes apart = refl
  mix-is (one d m) fds fes apart = ap (λ (c : List ℕ). changed c (field d)) (mix-is m fds.1 fes apart.1)
  mix-is (other {ds} {es} e m) fds fes apart =
      ap (λ (c : List ℕ). changed c (field e)) (mix-is m fds fes.1 (each (λ d h. h.1) ds apart)) ∙ passes e fes.0 ds es fds fes.1 (each (λ d h. h.0) ds apart)

-- a call that makes changes leaves records of the code
made_held : (party places : ℕ) (o : Outcome) → Good party places o → T (all fits64 (standing o.journal)) → (m : Making) → T (all fits64 (standing (step party places o (make m)).journal))
made_held party places o g held m = go (ℕ_discrete after.answer accepted)
  where
    after : Outcome
    after = make_of party places o.code o.journal (refusals_of o.code m) (changes_of m)

    go : Dec (after.answer ≡ accepted) → T (all fits64 (standing after.journal))
    go (yes q) =
        let k = make-taken party places o.code o.journal (refusals_of o.code m) (changes_of m) (making-numbered o.code m) q in
        let more = all_more party places o g fits64 (changes-held party) held (changes_of m) (making-stands o.code m k.0) in
        subst T (sym (ap (λ (p : Outcome). all fits64 (standing p.journal)) k.3 ∙ ap (all fits64) (journal-stands places _) ∙ more)) tt
    go (no d) = subst (λ (j : Journal). T (all fits64 (standing j))) (sym (make-kept party places o.code o.journal (refusals_of o.code m) (changes_of m) d).0) held

all_told : (rs : List Record) → T (all (tells Full) rs)
all_told [] = tt
all_told (r ∷ rs) = all_told rs

-- a party's edits with a journal of its own
abbrev made_by : Edit → Call
made_by e = make (edit e)

module _ (party places : ℕ) where
  -- one that is accepted is one that the code takes
  fits-when : (code : List ℕ) (j : Journal) (e : Edit) → (edit_of party places code j e).answer ≡ accepted → Fits code e
  fits-when code j e q = (make-taken party places code j (code_refusals code e) (field e ∷ []) tt q).0

  -- and one that the code takes is accepted where there is a place for its record
  takes_one : (p : Outcome) → Good party places p → (e : Edit) → Fits p.code e → length (standing p.journal) + 1 ≤ places
      → step party places p (made_by e) ≡ record { answer = accepted; journal = journal_of places (standing p.journal ++ (change_record party p.code (field e) ∷ [])); code = changed p.code (field e) }
  takes_one p h e fits room =
      let rs = standing p.journal in
      let own = valid-is-journal party places p.journal h.valid in
      ap (λ (j : Journal). make_of party places p.code j (code_refusals p.code e) (field e ∷ [])) (sym own)
      ∙ make-of party places p.code rs (ap (valid_of party places) own ∙ h.valid) (code_refusals p.code e) (field e ∷ []) accepted
      (first_on (code_refusals p.code e) ((full, ltb places (length rs + 1)) ∷ []) tt fits ∙ rw (le-ltb places (length rs + 1) room))

module _ (party places : ℕ) (o : Outcome) (g : Good party places o) where
  abbrev tried : List Edit → Outcome
  tried es = from party places o (map made_by es)

  tried-good : (es : List Edit) → Good party places (tried es)
  tried-good [] = g
  tried-good (e ∷ es) = step-good party places (tried es) (tried-good es) (made_by e)

  -- after each the journal has a sheet
  module _ (held : T (all fits64 (standing o.journal))) where
    tried-held : (es : List Edit) → T (all fits64 (standing (tried es).journal))
    tried-held [] = held
    tried-held (e ∷ es) = made_held party places (tried es) (tried-good es) (tried-held es) (edit e)

    tried-sheet : (es : List Edit) → HasSheet party places Full (tried es).journal
    tried-sheet es = record { valid = (tried-good es).valid; held = tried-held es; told = all_told (standing (tried es).journal) }

    tried-sheets : (es : List Edit) → Sheets party places o (map made_by es)
    tried-sheets [] = tried-sheet []
    tried-sheets (e ∷ es) = (tried-sheet (e ∷ es), tried-sheets es)

  -- the last of them is accepted, where the code takes all at the start and there is room; and the code is the one that the table makes
  record Turned (es : List Edit) : Type 0 where
    taken : (tried es).answer ≡ accepted
    code_is : (tried es).code ≡ edited o.code es
    count : length (standing (tried es).journal) ≡ length (standing o.journal) + length es

  turned : (es : List Edit) → Each (Fits o.code) es → length (standing o.journal) + length es ≤ places → o.answer ≡ accepted → Turned es
  turned [] fes room a = record { taken = a; code_is = refl; count = omega arith }
  turned (e ∷ es) fes room a =
      let t = turned es fes.1 (omega arith) a in
      let is = takes_one party places (tried es) (tried-good es) e (subst (λ (c : List ℕ). Fits c e) (sym t.code_is) ((took o.code g.bytes es fes.1).still e fes.0)) (omega (arith, t.count)) in
      record {
        taken = ap (λ (p : Outcome). p.answer) is;
        code_is = ap (λ (p : Outcome). p.code) is ∙ ap (λ (c : List ℕ). changed c (field e)) t.code_is;
        count = ap (λ (p : Outcome). length (standing p.journal)) is ∙ ap length (journal-stands places _) ∙ length-append (standing (tried es).journal) _ ∙ omega (arith, t.count);
      }

-- a run's calls of demand 3 are its edits, and it loads sheets of its own
makes-plain : {party : ℕ} {calls : List (ℕ × SheetCall)} {es : List Edit} → Makes party calls es → (plain (calls_of party calls) ≡ map made_by es) × T (own_sheets (calls_of party calls))
makes-plain none = (refl, tt)
makes-plain {party} (edits e m) = rw (eq-eqb party party refl) (let p = makes-plain m in (ap (λ (cs : List Call). made_by e ∷ cs) p.0, p.1))
makes-plain {party} (writes out m) = rw (eq-eqb party party refl) (makes-plain m)
makes-plain {party} (writes_line i out m) = rw (eq-eqb party party refl) (makes-plain m)
makes-plain {party} (loads m) = rw (eq-eqb party party refl) (makes-plain m)
makes-plain {party} (by_other q c d m) = rw (ne_eqb q party d) (makes-plain m)

-- from the start
module _ (s : Shared) (codes : ℕ → List ℕ) (party n : ℕ) (at : Start s codes party n) where
  abbrev places : ℕ
  places = places_of s.parties party

  abbrev o : Outcome
  o = start s codes at.bytes party

  serve : Serving s party
  serve = serving s party at.served

  good : Good party places o
  good = record { valid = own-valid s party serve; bytes = at.bytes party }

  held : T (all fits64 (standing (own_of s party)))
  held = by-party s party serve (λ q. T (all fits64 (standing (own_of s q)))) at.held.lower (λ _. at.held.upper)

  -- the party's edits alone
  abbrev alone : List Edit → Outcome
  alone es = tried party places o good es

  fits : (e : Edit) → Acceptable s codes party e → Fits (codes party) e
  fits e q = fits-when party places (codes party) (served_of s party) e q

  -- a run gives the code that they give, and a next edit answers as after them
  module _ {calls : List (ℕ × SheetCall)} {es : List Edit} (m : Makes party calls es) where
    ran : Reached party places o (calls_of party calls)
    ran =
        let p = makes-plain m in
        reached party places o (places-within s.parties party) (calls_of party calls) p.1 (subst (Sheets party places o) (sym p.0) (tried-sheets party places o good held es))

    code_of : (mixed s codes calls).code party ≡ (alone es).code
    code_of = ap (λ (t : State). t.after.code) ((parties-reached s codes at.bytes calls).sees party serve) ∙ ran.codes ∙ ap (λ (cs : List Call). (from party places o cs).code) (makes-plain m).0

    answer-of : (e : Edit) → (mixed s codes ((party, call (made_by e)) ∷ calls)).answer party ≡ (alone (e ∷ es)).answer
    answer-of e =
        ap (λ (t : State). t.after.answer) ((parties-reached s codes at.bytes ((party, call (made_by e)) ∷ calls)).sees party serve)
        ∙ rw (eq-eqb party party refl) (ap (λ (p : Outcome). p.answer) (same_next party places o (calls_of party calls) ran (made_by e)))
        ∙ ap (λ (cs : List Call). (from party places o (made_by e ∷ cs)).answer) (makes-plain m).0

  -- where the code takes all of them at the start, and there is a place for each
  turns : (es : List Edit) → Each (Fits (codes party)) es → length es ≤ n → Turned party places o good es
  turns es fes few = turned party places o good es fes (let free = at.free in omega arith) refl

  all-accepted : {calls : List (ℕ × SheetCall)} {es : List Edit} → Makes party calls es → Each (Fits (codes party)) es → length es ≤ n → AllAccepted s codes party calls
  all-accepted none fes few = tt
  all-accepted (edits {es} e m) fes few = (λ e' is. answer-of m e ∙ (turns (e ∷ es) fes few).taken, all-accepted m fes.1 (let few' : length (e ∷ es) ≤ n = few in omega arith))
  all-accepted (writes out m) fes few = (λ e is. cc (ap (λ (c : ℕ × SheetCall). c.1) is), all-accepted m fes few)
  all-accepted (writes_line i out m) fes few = (λ e is. cc (ap (λ (c : ℕ × SheetCall). c.1) is), all-accepted m fes few)
  all-accepted (loads m) fes few = (λ e is. cc (ap (λ (c : ℕ × SheetCall). c.1) is), all-accepted m fes few)
  all-accepted (by_other q c d m) fes few = (λ e is. absurd (d (ap (λ (c : ℕ × SheetCall). c.0) is)), all-accepted m fes few)

  -- a mix of two files
  mix-made : (ds es : List Edit) → length ds + length es ≤ n → Each (Acceptable s codes party) ds → Each (Acceptable s codes party) es → Each (λ d. Each (Apart d) es) ds
      → (mix : List Edit) → Mix ds es mix → (calls : List (ℕ × SheetCall)) → Makes party calls mix → AllAccepted s codes party calls × ((mixed s codes calls).code party ≡ edited (codes party) (ds ++ es))
  mix-made ds es room qds qes apart mix x calls m =
      let fds = each fits ds qds in
      let fes = each fits es qes in
      let fmix = mix-each (Fits (codes party)) x fds fes in
      let few : length mix ≤ n = omega (arith, mix-length x) in
      (all-accepted m fmix few, code_of m ∙ (turns mix fmix few).code_is ∙ mix-is (codes party) (at.bytes party) x fds fes apart)

  -- an edit e after one of the same field
  again : (d e : Edit) → Acceptable s codes party e → SameField d e → 2 ≤ n → ((alone (e ∷ d ∷ [])).answer ≡ accepted) × ((alone (e ∷ d ∷ [])).code ≡ (edit_of party places (codes party) (served_of s party) e).code)
  again d e q same two =
      let is-own = ap (λ (j : Journal). edit_of party places (codes party) j e) (sym (served-own s party at.served)) in
      let fe = fits e q in
      elim (ℕ_discrete (alone (d ∷ [])).answer accepted) [
        | yes a ↦
            let fd = fits-when party places (codes party) (own_of s party) d a in
            let both = turns (e ∷ d ∷ []) (fe, (fd, tt)) (omega arith) in
            (both.taken, both.code_is ∙ made_again (codes party) (at.bytes party) d fd e fe same ∙ sym (turns (e ∷ []) (fe, tt) (omega arith)).code_is ∙ ap (λ (p : Outcome). p.code) is-own)
        | no a ↦
            let kept = step_kept party places o (made_by d) a in
            let like = same_step party places (alone (d ∷ [])) o kept.1 kept.0 (made_by e) ∙ is-own in
            (ap (λ (p : Outcome). p.answer) like ∙ q, ap (λ (p : Outcome). p.code) like)
      ]

pub two-files : TwoFiles
two-files s codes party ds es at qds qes apart mix mix' x y calls calls' m m' =
    let so = mix-made s codes party _ at ds es (omega arith) qds qes apart in
    record { accepted-so = (so mix x calls m).0; accepted-otherwise = (so mix' y calls' m').0; same_code = (so mix x calls m).1 ∙ sym (so mix' y calls' m').1 }

pub apart-commute : ApartCommute
apart-commute s codes party d e at qd qe apart =
    two-files s codes party (d ∷ []) (e ∷ []) at (qd, tt) (qe, tt) ((apart, tt), tt) (e ∷ d ∷ []) (d ∷ e ∷ []) (other e (one d done)) (one d (other e done))

pub last-counts : LastCounts
last-counts s codes party d e at q same =
    let a = again s codes party 2 at d e q same (omega arith) in
    record { later-accepted = λ calls m. answer-of s codes party 2 at m e ∙ a.0; later-alone = λ calls m. code_of s codes party 2 at m ∙ a.1 }
