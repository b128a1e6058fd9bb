-- The journal that a sheet tells of, as the code has it: its records stand at the first places, and the others are free. Assumes nothing.
use mathlib.Core.Path.{◌≡◌, refl, sym, ap, ap₂, ◌∙◌, subst}
use mathlib.Core.Bool.{Bool, true, ◌&&◌}
use mathlib.Core.List.{List, [], ◌∷◌, ◌++◌, drop_last}
use Prim.Native.Nat.{ℕ, ◌≤◌}
use native.Mathlib.Nat.{le_of_eq}
use native.Mathlib.Omega.{arith}
use native.Mathlib.Decide.{ℕ_discrete}
use borrow.Author.Tests.{eq-eqb, ne_eqb, le-leb}
use lib.Dec.{T}
use Rattle.std.specs.Prelude.{Result, Ok}
use lib.Ieee.Bits.{is_true}
use lib.ListN.{length, take, replicate, drop_of_length-le}
use lib.Seq.{take_all}
use Rattle.answer.specs.Answer.{Reason, accepted, first, outcome, answer_of}
use Rattle.bundle.specs.Bundle.{whole}
use Rattle.record.specs.Record.{no_record, may_stand}
use Rattle.record.specs.declared.Record.{Record}
use Rattle.records.specs.Journal.{Journal, limit, lent, all, standing, journal_of, valid_of, view_of}
use Rattle.records.specs.Shared.{Shared, sharing, opened_for, fresh, served_of, with_own}
use Rattle.records.specs.declared.Counts.{Counts}
use Rattle.records.proofs.Sharing.{serves-when, served-own, opened-is-fresh, sharing-injective}
use Rattle.records.proofs.Standing.{journal-stands, journal-counts, journal-places, journal-valid, standing-places, valid-stand}
use Rattle.journal.specs.Change.{Change, field, rewritten, made_all, records_of, JournalOutcome, room_refusals, make_of}
use Rattle.journal.specs.Edit.{SharedOutcome, SharedJournalOutcome, code_refusals, checked_refusals, undo_refusals, undo_of, by_party, journal_outcome_of}
use Rattle.journal.specs.declared.Act.TheVariants.{Edit as EditAct, Checked, Undo}
use Rattle.answer.specs.declared.Refusal.{Refusal}
use Rattle.fold.specs.Fold.{fold_of}
use Rattle.sheet.specs.Load.{load_by}
use Rattle.sheet.proofs.Inverse.{load-taken, load-only-written}
use Rattle.by_sheet.specs.Perform.{told_by, records_in, task_by}
use Rattle.by_sheet.specs.declared.Task.{Task}
use Rattle.by_sheet.specs.declared.Task.TheVariants.{Act, Fold}

-- a journal of one party, in which these stand
abbrev pub alone : List Record → Shared
alone rs = record { parties = 1; lower = journal_of limit rs; upper = journal_of 0 [] }

-- records that may stand in it
pub record Fit (rs : List Record) : Type 0 where
  pub few : length rs ≤ limit
  pub stand : T (all (may_stand 0) rs)

pub alone-valid : (rs : List Record) → Fit rs → valid_of 0 limit (journal_of limit rs) ≡ true
alone-valid rs f = journal-valid 0 limit rs ∙ ap₂ (λ (t u : Bool). t && u) (le-leb (length rs) limit f.few) (is_true (all (may_stand 0) rs) f.stand)

pub alone-served : (rs : List Record) → Fit rs → served_of (alone rs) 0 ≡ journal_of limit rs
alone-served rs f =
    served-own (alone rs) 0
    (serves-when (alone rs) 0 (record { opened = refl; lower-valid = alone-valid rs f; upper-valid = journal-valid 1 0 []; known = omega arith }))

-- as counts and places
abbrev counts_of : List Record → Counts
counts_of rs = record { parties = 1; lower = length rs; upper = 0 }

none-stand : {qs : List Record} → qs ≡ [] → lent 0 qs ≡ journal_of 0 []
unfolding journal_of
none-stand e = ap (lent 0) e

alone-shared : (rs : List Record) → length rs ≤ limit → sharing (counts_of rs) (journal_of limit rs).records ≡ alone rs
alone-shared rs few =
    let places = (journal_of limit rs).records in
    let long = journal-places limit rs few in
    let lower = take_all limit places (le_of_eq long) in
    let upper = drop_of_length-le places {i = limit} (le_of_eq long) in
    λ i. record { parties = 1; lower = record { count = sym (journal-counts limit rs) i; records = lower i }; upper = none-stand upper i }

-- what a sheet that is taken tells
pub record Told (sheet : List ℕ) : Type 0 where
  pub records : List Record
  pub is : (told_by sheet).journal ≡ alone records
  pub fit : Fit records

pub told : (sheet : List ℕ) → (told_by sheet).answer ≡ accepted → Told sheet
unfolding fresh
told sheet a =
    let given = served_of (fresh 1) 0 in
    let t = load-taken limit 0 limit given sheet a in
    let w = load-only-written limit 0 limit given sheet a in
    let valid : valid_of 0 limit (journal_of limit t.records) ≡ true = ap (λ (o : JournalOutcome). valid_of 0 limit o.journal) (sym t.is) ∙ w.1.valid in
    record {
      records = t.records;
      is = ap (λ (o : JournalOutcome). outcome o.answer (with_own (fresh 1) 0 o.journal) (fresh 1)) t.is;
      fit = record { few = t.few; stand = subst (λ (rs : List Record). T (all (may_stand 0) rs)) (journal-stands limit t.records) (valid-stand 0 limit (journal_of limit t.records) valid) };
    }

-- a sheet was loaded into free places, with what it tells
pub record Loads (r : Result Counts Refusal) (given : Counts) (places : List Record) (sheet : List ℕ) : Type 0 where
  pub is : journal_outcome_of r given places ≡ told_by sheet

pub loads : {counts : Counts} {free : List Record} (r : Result Counts Refusal) (places : List Record) {sheet : List ℕ} → counts ≡ opened_for 1 → free ≡ replicate limit no_record
    → journal_outcome_of r counts places ≡ load_by (sharing counts free) 0 sheet → Loads r counts places sheet
loads r places {sheet} c f e =
    record { is = e ∙ (λ i. load_by (sharing (c i) (f i)) 0 sheet) ∙ ap (λ (s : Shared). load_by s 0 sheet) (opened-is-fresh 1 refl) }

pub load-answer : {r : Result Counts Refusal} {given : Counts} {places : List Record} {sheet : List ℕ} → Loads r given places sheet → answer_of r ≡ (told_by sheet).answer
load-answer l = ap (λ (o : SharedJournalOutcome). o.answer) l.is

-- where it is taken, the places are those of its records
module _ {counts given : Counts} {places : List Record} {sheet : List ℕ} (l : Loads (Ok counts) given places sheet) (t : Told sheet) where
  parts : (counts ≡ counts_of t.records) × (places ≡ (journal_of limit t.records).records)
  parts = sharing-injective counts (counts_of t.records) places _ (ap (λ (o : SharedJournalOutcome). o.journal) l.is ∙ t.is ∙ sym (alone-shared t.records t.fit.few))

  pub told-count : counts.lower ≡ length t.records
  told-count = ap (λ (c : Counts). c.lower) parts.0

  pub told-places : places ≡ (journal_of limit t.records).records
  told-places = parts.1

  pub told-first : take counts.lower places ≡ t.records
  told-first =
      ap₂ take (told-count ∙ sym (journal-counts limit t.records)) told-places
      ∙ sym (standing-places (journal_of limit t.records))
      ∙ journal-stands limit t.records

  pub told-within : counts.lower ≤ length places
  told-within = omega (arith, told-count, t.fit.few, ap length told-places, journal-places limit t.records t.fit.few)

  pub told-records : records_in (told_by sheet).journal ≡ t.records
  told-records = ap records_in t.is ∙ journal-stands limit t.records

-- a journal that counts the records that stand in it
abbrev Right : Journal → Type 0
Right j = j.count ≡ length (standing j)

right : (rs : List Record) → Right (journal_of limit rs)
right rs = journal-counts limit rs ∙ sym (ap length (journal-stands limit rs))

-- what a task leaves: a refused one the code, and any one a journal that counts right
module _ (rs : List Record) (f : Fit rs) (code : List ℕ) where
  pub record Leaves (o : SharedOutcome) : Type 0 where
    pub kept : (o.answer ≡ accepted → ⊥) → code ≡ o.code
    pub counts : o.journal.lower.count ≡ length (records_in o.journal)

  decided : (a : ℕ) (qs : List Record) (changed : List ℕ) → Leaves (by_party (alone rs) 0 (outcome a (record { answer = accepted; journal = journal_of limit qs; code = changed }) (record { answer = a; journal = served_of (alone rs) 0; code = code })))
  decided a qs changed =
      elim (ℕ_discrete a accepted) [
        | yes e ↦ rw (eq-eqb a accepted e) (record { kept = λ d. absurd (d refl); counts = right qs })
        | no d ↦ rw (ne_eqb a accepted d, ne_eqb a accepted d) (record { kept = λ _. refl; counts = right rs })
      ]

  make-leaves : (refusals : List Reason) (cs : List Change) → Leaves (by_party (alone rs) 0 (make_of 0 limit code (served_of (alone rs) 0) refusals cs))
  unfolding make_of
  make-leaves refusals cs =
      let j = served_of (alone rs) 0 in
      decided (first (refusals ++ room_refusals limit (view_of 0 limit j) (length cs))) (standing j ++ records_of 0 code cs) (made_all code cs)

  pub task-leaves : (task : Task) → Leaves (task_by code (alone rs) task)
  unfolding undo_of fold_of
  task-leaves (Act (EditAct e)) = make-leaves (code_refusals code e) (field e ∷ [])
  task-leaves (Act (Checked e)) = make-leaves (checked_refusals code e) (field e ∷ [])
  task-leaves (Act Undo) =
      let view = view_of 0 limit (served_of (alone rs) 0) in
      decided (first (undo_refusals code view)) (drop_last (standing (served_of (alone rs) 0))) (rewritten code view.last.bundle (whole view.last.old))
  task-leaves Fold =
      let valid : valid_of 0 limit (served_of (alone rs) 0) ≡ true = ap (valid_of 0 limit) (alone-served rs f) ∙ alone-valid rs f in
      rw valid (record { kept = λ _. refl; counts = right _ })
