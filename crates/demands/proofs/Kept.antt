-- What calls keep: a refused one the journal and the code, and any one a valid journal valid and the code bytes. Of changes and undos it is
-- `journal`'s; a fold is by its definition's cases. Assumes nothing.
use mathlib.Core.Path.{◌≡◌, refl, sym, ap₂, ◌∙◌, subst}
use mathlib.Core.Bool.{Bool, true, false, cond, ◌&&◌}
use mathlib.Core.List.{List, ◌++◌}
use Prim.Native.Nat.{ℕ, ◌≤◌}
use native.Mathlib.Omega.{arith}
use borrow.Author.Tests.{le-leb}
use lib.Dec.{T}
use lib.Ieee.Bits.{is_true}
use lib.ListN.{length}
use Rattle.answer.specs.Answer.{accepted, bad_journal}
use Rattle.record.specs.Record.{may_stand}
use Rattle.record.specs.declared.Record.{Record}
use Rattle.records.specs.Journal.{Journal, all, standing, journal_of, valid_of}
use Rattle.records.proofs.Standing.{journal-valid, all_append, valid-few, valid-stand}
use Rattle.demands.specs.Demand3.{refusals_of, changes_of, Call, make, undo, fold, step}
use Rattle.journal.specs.Change.{Change, records_of, Outcome, JournalOutcome, with_code}
use Rattle.fold.specs.Fold.{folded, fold_of}
use Rattle.journal.proofs.Kept.{make-kept, make-taken, undo-kept, undo-taken, Good, MayBeMade, make-good, undo-good}
use Rattle.demands.proofs.Changes.{OfChanges, Stand, changes-stand, all-bytes, all-records, records-length, making-stands, making-numbered}
use Rattle.fold.proofs.Laws.{may-folded}
use Rattle.demands.proofs.Newest.{folds}

module _ (party places : ℕ) (code : List ℕ) (j : Journal) where
  -- a fold, by whether the journal is valid
  abbrev fold_if : Bool → JournalOutcome
  fold_if valid = cond valid (record { answer = accepted; journal = journal_of places (folded (standing j)) }) (record { answer = bad_journal; journal = j })

  pub fold-kept : ((fold_of party places j).answer ≡ accepted → ⊥) → (fold_of party places j).journal ≡ j
  unfolding fold_of
  fold-kept = elim (valid_of party places j) as (λ v. ((fold_if v).answer ≡ accepted → ⊥) → (fold_if v).journal ≡ j) [ true ↦ λ d. absurd (d refl) | false ↦ λ d. refl ]

  pub fold-taken : (fold_of party places j).answer ≡ accepted → valid_of party places j ≡ true
  unfolding fold_of
  fold-taken = elim (valid_of party places j) as (λ v. (fold_if v).answer ≡ accepted → v ≡ true) [ true ↦ λ q. refl | false ↦ λ q. absurd (omega (arith, q)) ]

  pub fold-valid : valid_of party places j ≡ true → fold_of party places j ≡ fold_if true
  unfolding fold_of
  fold-valid v = rw v

module _ (party places : ℕ) (o : Outcome) (g : Good party places o) where
  abbrev j : Journal
  j = o.journal

  -- what holds of every change's record and of those that stood holds of all after changes that the code takes
  pub all_more : (test : Record → Bool) → OfChanges party test → T (all test (standing j)) → (cs : List Change) → Stand o.code cs → all test (standing j ++ records_of party o.code cs) ≡ true
  all_more test of-changes t cs s =
      all_append test (standing j) (records_of party o.code cs)
      ∙ ap₂ (λ (t u : Bool). t && u) (is_true (all test (standing j)) t) (all-records o.code party test of-changes g.bytes cs s)

  making-made : (cs : List Change) → Stand o.code cs → MayBeMade party o.code cs
  making-made cs s =
      record {
        stand = all-records o.code party (may_stand party) (changes-stand party) g.bytes cs s;
        many = records-length o.code party cs;
        bytes = all-bytes o.code g.bytes cs s;
      }

  fold-good : Good party places (with_code o.code (fold_of party places j))
  fold-good =
      let rs = folded (standing j) in
      let few : length rs ≤ places = omega (arith, (folds (standing j)).fewer, valid-few party places j g.valid) in
      subst (λ (k : JournalOutcome). Good party places (with_code o.code k)) (sym (fold-valid party places o.code j g.valid))
      (record {
        valid = journal-valid party places rs ∙ ap₂ (λ (t u : Bool). t && u) (le-leb _ places few) (is_true _ (may-folded party (standing j) (valid-stand party places j g.valid)));
        bytes = g.bytes;
      })

  pub step-good : (c : Call) → Good party places (step party places o c)
  step-good (make m) =
      make-good party places o g (refusals_of o.code m) (changes_of m) (making-numbered o.code m) (λ a. making-made (changes_of m) (making-stands o.code m a))
  step-good undo = undo-good party places o g
  step-good fold = fold-good

-- any call: a refused one keeps the code and the journal, and one that is taken goes by a valid journal
module _ (party places : ℕ) (o : Outcome) where
  pub step_kept : (c : Call) → ((step party places o c).answer ≡ accepted → ⊥) → ((step party places o c).journal ≡ o.journal) × ((step party places o c).code ≡ o.code)
  step_kept (make m) = make-kept party places o.code o.journal (refusals_of o.code m) (changes_of m)
  step_kept undo = undo-kept party places o.code o.journal
  step_kept fold = λ d. (fold-kept party places o.code o.journal d, refl)

  pub step-valid : (c : Call) → (step party places o c).answer ≡ accepted → valid_of party places o.journal ≡ true
  step-valid (make m) a = (make-taken party places o.code o.journal (refusals_of o.code m) (changes_of m) (making-numbered o.code m) a).1
  step-valid undo a = (undo-taken party places o.code o.journal a).0
  step-valid fold a = fold-taken party places o.code o.journal a
