-- Calls by a sheet are calls on the journal: the sheet of a run's journal loads as that journal, and what a call leaves has a sheet, for which
-- there is room. So through the tasks; and as many undos as changes stand are each taken. Assumes nothing.
use mathlib.Core.Path.{◌≡◌, refl, sym, ap, ◌∙◌}
use mathlib.Core.Bool.{true}
use mathlib.Core.List.{List, [], ◌∷◌, ◌++◌}
use Prim.Native.Nat.{ℕ, zero, suc, ◌≤◌}
use native.Mathlib.Decide.{ℕ_discrete}
use native.Mathlib.Nat.{le_refl}
use native.Mathlib.Omega.{arith}
use borrow.Author.Tests.{le-ltb}
use lib.Dec.{eqb-suc-zero}
use lib.ListN.{length, take, drop, length-drop}
use lib.Seq.{take-append_seam}
use Rattle.answer.specs.Answer.{accepted, outcome}
use Rattle.answer.proofs.Laws.{accepts, refuses}
use Rattle.bundle.specs.Bundle.{longest_code}
use Rattle.bundle.proofs.Bytes.{Bytes}
use Rattle.records.specs.Journal.{Journal, limit, standing, journal_of, valid_of}
use Rattle.records.specs.Shared.{Shared, fresh, with_own, served_of}
use Rattle.records.proofs.Sharing.{Serving, serving, serves-when, served-own, still-serves, fresh-serves}
use Rattle.records.proofs.Standing.{journal-stands}
use Rattle.journal.specs.Change.{Change, records_of, Outcome}
use Rattle.journal.specs.Edit.{SharedOutcome, SharedJournalOutcome, by_party, journal_by_party}
use Rattle.journal.specs.declared.Act.TheVariants.{Edit, Checked, Undo}
use Rattle.text.specs.Decimal.{digits, decimal}
use Rattle.text.specs.Whole.{wrote_of}
use Rattle.table.specs.Ascii.{ascii}
use Rattle.sheet.specs.RoundTrip.{HasSheet}
use Rattle.sheet.specs.Sheet.{sheet_as, sheet_of, capacity, write_by}
use Rattle.sheet.specs.declared.line.Kind.TheVariants.{Full}
use Rattle.sheet.proofs.Inverse.{load-written}
use Rattle.sheet.proofs.Lengths.{sheet-most}
use Rattle.by_sheet.specs.Perform.{told_by, task_by, Performed, performed, refused_by, written_by, performed_of}
use Rattle.by_sheet.specs.Taking.{undos_from, all_undone, none_named, taken_by, taken_in, taken_out_of}
use Rattle.by_sheet.specs.declared.Task.{Task}
use Rattle.by_sheet.specs.declared.Task.TheVariants.{Act, Fold}
use Rattle.by_sheet.proofs.Backs.{all-out}
use Rattle.demands.specs.BySheet.{Kept, kept_after, kept_by, Roomy, call_of, calls_in, BySheets}
use Rattle.demands.specs.Demand3.{Call, undo, step, run, answer_to, standing_changes, then_undo, Holds}
use Rattle.demands.specs.Parties.{call_by}
use Rattle.demands.proofs.Across.{run-has}
use Rattle.demands.proofs.Changes.{all-length, records-length}
use Rattle.demands.proofs.Run.{same_step, holds, all-stand}

-- a fresh journal of one party with this one as the party's
abbrev own : Journal → Shared
own j = with_own (fresh 1) 0 j

fresh-serving : Serving (fresh 1) 0
fresh-serving = serving (fresh 1) 0 (fresh-serves 1 0 refl (omega arith))

module _ (j : Journal) (has : HasSheet 0 limit Full j) where
  served : served_of (own j) 0 ≡ j
  unfolding fresh
  served = served-own (own j) 0 (serves-when (own j) 0 (still-serves (fresh 1) 0 fresh-serving j has.valid 0 fresh-serving))

  -- its sheet tells it
  told : told_by (sheet_of j) ≡ record { answer = accepted; journal = own j }
  unfolding fresh
  told =
      let given : valid_of 0 limit (served_of (fresh 1) 0) ≡ true = ap (valid_of 0 limit) (served-own (fresh 1) 0 (fresh-serves 1 0 refl (omega arith))) ∙ fresh-serving.lower-valid in
      ap (journal_by_party (fresh 1) 0) (load-written limit 0 limit Full (served_of (fresh 1) 0) j (omega arith) (le_refl limit) given has)

  -- and is written where there is room
  written : (out : List ℕ) → capacity ≤ length out → write_by (own j) 0 out ≡ (record { answer = accepted; length = length (sheet_of j) }, sheet_of j ++ drop (length (sheet_of j)) out)
  unfolding fresh wrote_of
  written out room =
      let few = sheet-most 0 limit j (le_refl limit) has in
      rw (served, has.valid, le-ltb (length out) (length (sheet_of j)) (omega (arith, few, room)))

-- a task is the call with the party's journal
by_call : (code : List ℕ) (s : Shared) (task : Task) → task_by code s task ≡ call_by code s 0 (call_of task)
by_call code s (Act (Edit e)) = refl
by_call code s (Act (Checked e)) = refl
by_call code s (Act Undo) = refl
by_call code s Fold = refl

-- done by the sheet of what there is
module _ (o : Outcome) (has : HasSheet 0 limit Full o.journal) (task : Task) where
  abbrev after : Outcome
  after = step 0 limit o (call_of task)

  abbrev before : Shared
  before = own o.journal

  by-task : task_by o.code before task ≡ by_party before 0 after
  unfolding fresh
  by-task =
      by_call o.code before task
      ∙ ap (λ (j : Journal). by_party before 0 (step 0 limit (record { answer = accepted; journal = j; code = o.code }) (call_of task))) (served o.journal has)
      ∙ ap (by_party before 0) (same_step 0 limit (record { answer = accepted; journal = o.journal; code = o.code }) o refl refl (call_of task))

  taken_is : after.answer ≡ accepted → task_by o.code before task ≡ record { answer = accepted; journal = own after.journal; code = after.code }
  taken_is a = by-task ∙ (λ i. record { answer = a i; journal = accepts after.answer (own after.journal) before a i; code = after.code })

  module _ (out : List ℕ) (room : capacity ≤ length out) where
    abbrev by : SharedOutcome → Performed
    by p = outcome p.answer (written_by out p) (refused_by o.code out p.answer)

    performs : performed_of o.code (sheet_of o.journal) task out ≡ by (task_by o.code before task)
    unfolding performed_of
    performs =
        rw (le-ltb (length out) capacity room)
        (ap (λ (t : SharedJournalOutcome). outcome t.answer (by (task_by o.code t.journal task)) (refused_by o.code out t.answer)) (told o.journal has))

    performs-refused : (after.answer ≡ accepted → ⊥) → performed_of o.code (sheet_of o.journal) task out ≡ refused_by o.code out after.answer
    performs-refused d = performs ∙ ap by by-task ∙ refuses after.answer _ _ d

    module _ (left : HasSheet 0 limit Full after.journal) where
      abbrev text : List ℕ
      text = sheet_of after.journal

      performs-taken : after.answer ≡ accepted
          → performed_of o.code (sheet_of o.journal) task out ≡ performed (record { answer = accepted; length = length text; count = length (standing after.journal) }) after.code (text ++ drop (length text) out)
      performs-taken a =
          let w = written after.journal left out room in
          performs ∙ ap by (taken_is a) ∙ (λ i. performed (record { answer = (w i).0.answer; length = (w i).0.length; count = length (standing after.journal) }) after.code (w i).1)

      answer-is : (performed_of o.code (sheet_of o.journal) task out).done.answer ≡ after.answer
      answer-is =
          elim (ℕ_discrete after.answer accepted) [
            | yes a ↦ ap (λ (p : Performed). p.done.answer) (performs-taken a) ∙ sym a
            | no d ↦ ap (λ (p : Performed). p.done.answer) (performs-refused d)
          ]

      -- and what is kept then is what the call leaves
      kept_next : ((after.answer ≡ accepted → ⊥) → (after.code ≡ o.code) × (after.journal ≡ o.journal))
          → kept_after (record { code = o.code; sheet = sheet_of o.journal }) (task, out) ≡ record { code = after.code; sheet = text }
      kept_next keeps =
          let k : Kept = record { code = o.code; sheet = sheet_of o.journal } in
          let by-outcome : Performed → Kept = λ p. outcome p.done.answer (record { code = p.code; sheet = take p.done.length p.out }) k in
          elim (ℕ_discrete after.answer accepted) [
            | yes a ↦ ap by-outcome (performs-taken a) ∙ ap (λ (s : List ℕ). record { code = after.code; sheet = s }) (take-append_seam text (drop (length text) out))
            | no d ↦ ap by-outcome (performs-refused d) ∙ refuses after.answer _ k d ∙ sym (λ i. record { code = (keeps d).0 i; sheet = sheet_of ((keeps d).1 i) })
          ]

-- undos before others
moved : (n : ℕ) (calls : List Call) → then_undo n (undo ∷ calls) ≡ then_undo (suc n) calls
moved zero calls = refl
moved (suc n) calls = ap (λ (cs : List Call). undo ∷ cs) (moved n calls)

-- the empty sheet
empty-is : ascii "patches\t0\n" ≡ sheet_of (journal_of limit [])
unfolding sheet_as decimal digits
empty-is = rw (journal-stands limit [])

-- runs from a first code
module _ (code : List ℕ) (b : Bytes code) (short : length code ≤ longest_code) where
  abbrev at : List Call → Outcome
  at calls = run 0 limit code calls

  has-at : (calls : List Call) → HasSheet 0 limit Full (at calls).journal
  has-at = run-has 0 limit code b short

  holds_at : (calls : List Call) → Holds 0 limit code calls
  holds_at = holds 0 limit code b short

  kept-is : (cs : List (Task × List ℕ)) → Roomy cs → kept_by code cs ≡ record { code = (at (calls_in cs)).code; sheet = sheet_of (at (calls_in cs)).journal }
  kept-is [] r = λ i. record { code = code; sheet = empty-is i }
  kept-is (c ∷ cs) r =
      let calls = calls_in cs in
      ap (λ (k : Kept). kept_after k c) (kept-is cs r.1)
      ∙ kept_next (at calls) (has-at calls) c.0 c.1 r.0 (has-at (call_of c.0 ∷ calls)) ((holds_at calls).refused-keeps (call_of c.0))

  -- undone as far as changes stand
  abbrev standing-at : List Call → List Change
  standing-at calls = standing_changes limit code calls

  abbrev state : List Call → SharedOutcome
  state calls = record { answer = accepted; journal = own (at calls).journal; code = (at calls).code }

  undo-taken : (calls : List Call) (n : ℕ) → length (standing-at calls) ≡ suc n → answer_to limit code (standing-at calls) undo ≡ accepted
  undo-taken calls n e = rw (e, eqb-suc-zero n)

  undos : (n : ℕ) (calls : List Call) → length (standing-at calls) ≡ n → undos_from n (state calls) ≡ state (then_undo n calls)
  unfolding undos_from
  undos zero calls e = refl
  undos (suc n) calls e =
      let taken = undo-taken calls n e in
      let a = ap (λ (o : Outcome). o.answer) ((holds_at calls).next-is undo) ∙ taken in
      let less : length (standing-at (undo ∷ calls)) ≡ n =
      ap length (accepts (answer_to limit code (standing-at calls) undo) (drop 1 (standing-at calls)) (standing-at calls) taken) ∙ omega (arith, e, length-drop 1 (standing-at calls)) in
      ap (λ (o : SharedOutcome). outcome o.answer (undos_from n o) o) (taken_is (at calls) (has-at calls) (Act Undo) a) ∙ undos n (undo ∷ calls) less ∙ ap state (moved n calls)

  out_at : (calls : List Call) → taken_out_of (at calls).code (sheet_of (at calls).journal) ≡ (none_named accepted, code)
  out_at calls =
      let cs = standing-at calls in
      let h = holds_at calls in
      let count : length (standing (at calls).journal) ≡ length cs = ap (λ (j : Journal). length (standing j)) h.journal-is ∙ ap length (journal-stands limit (records_of 0 code cs)) ∙ records-length code 0 cs in
      let long : length (at calls).code ≤ longest_code = omega (arith, short, ap length h.code_is, all-length code cs (all-stand 0 limit code b short calls).stand) in
      let in-copy : taken_in (at calls).code (sheet_of (at calls).journal) ≡ (none_named accepted, code) =
      ap (λ (t : SharedJournalOutcome). outcome t.answer (taken_by (all_undone (at calls).code t.journal)) (none_named t.answer, (at calls).code)) (told (at calls).journal (has-at calls))
      ∙ ap (λ (n : ℕ). taken_by (undos_from n (state calls))) count
      ∙ ap taken_by (undos (length cs) calls refl)
      ∙ ap (λ (c : List ℕ). (none_named accepted, c)) h.undone in
      sym (all-out (at calls).code (sheet_of (at calls).journal) long (sym in-copy) refl)

pub by-sheets : BySheets
by-sheets code b short cs r =
    let k = kept-is code b short cs r in
    let calls = calls_in cs in
    record {
      code_is = ap (λ (k : Kept). k.code) k;
      sheet-is = ap (λ (k : Kept). k.sheet) k;
      answers = λ task out room.
          ap (λ (k : Kept). (performed_of k.code k.sheet task out).done.answer) k
          ∙ answer-is (at code b short calls) (has-at code b short calls) task out room (has-at code b short (call_of task ∷ calls));
      taken_out = ap (λ (k : Kept). taken_out_of k.code k.sheet) k ∙ out_at code b short calls;
    }
