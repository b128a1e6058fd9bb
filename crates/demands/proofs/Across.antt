-- Demand 3 holds across sheets: a run's journal has a sheet, so the sheet that was just written from it loads as it. So through the calls,
-- from any journal that has a sheet after each call of demand 3. Assumes nothing.
use mathlib.Core.Path.{◌≡◌, refl, sym, ap, ap₂, ◌∙◌, subst}
use mathlib.Core.List.{List, [], ◌∷◌}
use Prim.Native.Nat.{ℕ, ◌≤◌}
use native.Mathlib.Decide.{ℕ_discrete}
use native.Mathlib.Omega.{arith}
use borrow.Author.Tests.{eq-eqb, ne_eqb}
use lib.Dec.{T}
use lib.Ieee.Bits.{is_true}
use lib.ListN.{length, drop}
use lib.Seq.{take-append_seam}
use Rattle.answer.specs.Answer.{Reason, accepted, first}
use Rattle.bits.proofs.Laws.{part-lt}
use Rattle.bundle.specs.Bundle.{longest_code, halves_of}
use Rattle.bundle.proofs.Bytes.{Bytes}
use Rattle.records.specs.Journal.{limit}
use Rattle.journal.specs.Change.{Outcome, JournalOutcome}
use Rattle.demands.specs.Demand3.{Call, step, run}
use Rattle.demands.proofs.Changes.{OfChanges}
use Rattle.demands.proofs.Run.{same_step, holds, run-valid, run-all}
use Rattle.record.specs.Record.{edit_record, whole_record, fits64, line_numbers}
use Rattle.record.proofs.Laws.{edit-slot, edit-form, edit-pattern}
use Rattle.text.specs.Whole.{wrote_of, whole_refusals}
use Rattle.sheet.specs.RoundTrip.{HasSheet}
use Rattle.sheet.specs.Sheet.{tells, sheet_of}
use Rattle.sheet.specs.declared.line.Kind.TheVariants.{Full}
use Rattle.sheet.specs.Load.{load_of}
use Rattle.demands.specs.Across.{SheetCall, call, write, write_line, load, load_text, Wrote, nothing, sheet, line, wrote_as, loaded, across, plain, own_sheets, Demand3Across}
use Rattle.sheet.proofs.Held.{are_words}
use Rattle.sheet.proofs.Inverse.{load-written}

-- the records of changes are of the code
pub changes-held : (party : ℕ) → OfChanges party fits64
changes-held party =
    record {
      edits = λ n e h low taken.
          is_true (fits64 (edit_record party n e))
          (are_words (line_numbers (edit_record party n e))
          (omega (arith, low), (omega (arith, edit-slot n e taken), (omega (arith, (edit-form n e taken).2), (edit-pattern n e taken, (part-lt _ 0 64, (part-lt _ 64 64, (part-lt _ 0 64, (part-lt _ 64 64, tt)))))))));
      wholes = λ k n m low.
          is_true (fits64 (whole_record party k (halves_of n) (halves_of m)))
          (are_words (line_numbers (whole_record party k (halves_of n) (halves_of m)))
          (omega (arith, low), (omega arith, (omega arith, (omega arith, (part-lt _ 0 64, (part-lt _ 64 64, (part-lt _ 0 64, (part-lt _ 64 64, tt)))))))));
    }

-- what a call wrote is the text, or nothing where it was refused
by-wrote : (refusals : List Reason) (text out : List ℕ) (kind : List ℕ → Wrote) (P : Wrote → Type 0) → P (kind text) → P nothing → P (wrote_as kind (wrote_of refusals text out))
unfolding wrote_of
by-wrote refusals text out kind P done refused =
    let a = first (whole_refusals refusals text out) in
    elim (ℕ_discrete a accepted) [
      | yes e ↦ rw (eq-eqb a accepted e, eq-eqb a accepted e, take-append_seam text (drop (length text) out)) done
      | no d ↦ rw (ne_eqb a accepted d, ne_eqb a accepted d) refused
    ]

module _ (party places : ℕ) (o : Outcome) where
  -- the calls of demand 3 from what there is
  abbrev pub from : List Call → Outcome
  from [] = o
  from (c ∷ cs) = step party places (from cs) c

  -- after each of them the journal has a sheet
  abbrev pub Sheets : List Call → Type 0
  Sheets [] = HasSheet party places Full o.journal
  Sheets (c ∷ cs) = HasSheet party places Full (from (c ∷ cs)).journal × Sheets cs

  last-sheet : (cs : List Call) → Sheets cs → HasSheet party places Full (from cs).journal
  last-sheet [] h = h
  last-sheet (c ∷ cs) h = h.0

  -- what there is after a run with sheets, by its calls of demand 3
  pub record Reached (calls : List SheetCall) : Type 0 where
    pub codes : (across party places o calls).after.code ≡ (from (plain calls)).code
    pub journals : (across party places o calls).after.journal ≡ (from (plain calls)).journal
    pub sheets : (text : List ℕ) → (across party places o calls).wrote ≡ sheet text → text ≡ sheet_of (from (plain calls)).journal

  pub same_next : (calls : List SheetCall) → Reached calls → (c : Call) → (across party places o (call c ∷ calls)).after ≡ from (c ∷ plain calls)
  same_next calls r c = same_step party places (across party places o calls).after (from (plain calls)) r.codes r.journals c

  module _ (within : places ≤ limit) where
    -- loading the sheet of the run's journal gives that journal
    loads-own : (calls : List SheetCall) → Sheets (plain calls) → Reached calls → (text : List ℕ) → (across party places o calls).wrote ≡ sheet text
        → load_of limit party places (across party places o calls).after.journal text ≡ record { answer = accepted; journal = (from (plain calls)).journal }
    loads-own calls h r text e =
        let s = last-sheet (plain calls) h in
        ap₂ (load_of limit party places) r.journals (r.sheets text e) ∙ load-written limit party places Full _ _ (omega arith) within s.valid s

    after-load : (calls : List SheetCall) → Sheets (plain calls) → Reached calls → (w : Wrote) → (across party places o calls).wrote ≡ w
        → ((loaded party places (across party places o calls).after w).code ≡ (from (plain calls)).code) × ((loaded party places (across party places o calls).after w).journal ≡ (from (plain calls)).journal)
    after-load calls h r nothing e = (r.codes, r.journals)
    after-load calls h r (sheet text) e = (r.codes, ap (λ (l : JournalOutcome). l.journal) (loads-own calls h r text e))
    after-load calls h r (line text) e = (r.codes, r.journals)

    pub reached : (calls : List SheetCall) → T (own_sheets calls) → Sheets (plain calls) → Reached calls
    reached [] own h = record { codes = refl; journals = refl; sheets = λ text e. cc }
    reached (call c ∷ calls) own h =
        let same = same_next calls (reached calls own h.1) c in
        record { codes = ap (λ (o : Outcome). o.code) same; journals = ap (λ (o : Outcome). o.journal) same; sheets = λ text e. cc }
    reached (write out ∷ calls) own h =
        let r = reached calls own h in
        record { codes = r.codes; journals = r.journals; sheets = λ text. by-wrote _ _ out sheet (λ w. w ≡ sheet text → text ≡ sheet_of (from (plain calls)).journal) (λ e. cc (ap sheet_of r.journals)) (λ e. cc) }
    reached (write_line i out ∷ calls) own h =
        let r = reached calls own h in record { codes = r.codes; journals = r.journals; sheets = λ text. by-wrote _ _ out line (λ w. w ≡ sheet text → text ≡ sheet_of (from (plain calls)).journal) (λ e. cc) (λ e. cc) }
    reached (load ∷ calls) own h =
        let l = after-load calls h (reached calls own h) (across party places o calls).wrote refl in record { codes = l.0; journals = l.1; sheets = λ text e. cc }
    reached (load_text text ∷ calls) own h = absurd own

-- from an empty journal
module _ (party places : ℕ) (code : List ℕ) (b : Bytes code) (short : length code ≤ longest_code) where
  from-run : (cs : List Call) → from party places (run party places code []) cs ≡ run party places code cs
  from-run [] = refl
  from-run (c ∷ cs) = ap (λ (o : Outcome). step party places o c) (from-run cs)

  -- its journal has a sheet
  pub run-has : (cs : List Call) → HasSheet party places Full (run party places code cs).journal
  run-has cs =
      record {
        valid = run-valid party places code b short cs;
        held = subst T (sym (run-all party places code b short fits64 (changes-held party) cs)) tt;
        told = subst T (sym (run-all party places code b short (tells Full) (record { edits = λ n e h low taken. refl; wholes = λ k n m low. refl }) cs)) tt;
      }

  run-sheets : (cs : List Call) → Sheets party places (run party places code []) cs
  run-sheets [] = run-has []
  run-sheets (c ∷ cs) = (rw (from-run (c ∷ cs)) (run-has (c ∷ cs)), run-sheets cs)

pub demand-3-across : Demand3Across
demand-3-across party places code within b short calls own =
    let o = run party places code [] in
    let h = run-sheets party places code b short (plain calls) in
    let r = reached party places o within calls own h in
    let is = from-run party places code b short in
    record {
      code_is = r.codes ∙ ap (λ (o : Outcome). o.code) (is (plain calls));
      journal-is = r.journals ∙ ap (λ (o : Outcome). o.journal) (is (plain calls));
      answers = λ c. ap (λ (o : Outcome). o.answer) (same_next party places o calls r c ∙ is (c ∷ plain calls));
      loads = λ text e.
          ap (λ (w : Wrote). (loaded party places (across party places o calls).after w).answer) e
          ∙ ap (λ (l : JournalOutcome). l.answer) (loads-own party places o within calls h r text e);
      holds = holds party places code b short (plain calls);
    }
