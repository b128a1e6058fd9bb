-- One edit that a code takes, and calls with a valid journal of some records. Assumes nothing.
use mathlib.Core.Path.{◌≡◌, refl, ap, ◌∙◌}
use mathlib.Core.Bool.{true, not}
use mathlib.Core.List.{List, [], ◌∷◌, ◌++◌, drop_last, get_last_d}
use Prim.Native.Nat.{ℕ, ◌+◌}
use lib.Dec.{ltb}
use lib.ListN.{length}
use Rattle.answer.specs.Answer.{Reason, accepted, full, bad_journal, first, outcome}
use Rattle.bits.specs.Part.{bit}
use Rattle.bundle.specs.Bundle.{number_at, whole}
use Rattle.bundle.proofs.Bytes.{Bytes}
use Rattle.bundle.proofs.Lies.{Lies, lies}
use Rattle.form.specs.declared.Edit.{Edit}
use Rattle.row.specs.Row.{row_of}
use Rattle.immediate.specs.Immediate.{value_in, changed_number}
use Rattle.immediate.proofs.Laws.{changed-value, changed-bit}
use Rattle.record.specs.Record.{no_record}
use Rattle.record.specs.declared.Record.{Record}
use Rattle.records.specs.Journal.{journal_of, valid_of, view_of}
use Rattle.journal.specs.Edit.{code_refusals, undo_refusals, undo_of}
use Rattle.journal.proofs.Laws.{taken-found, taken-changes, taken-lt, first_past}
use Rattle.journal.proofs.Rewritten.{rewritten-before, rewritten-past, rewritten-number}
use Rattle.records.proofs.Standing.{journal-stands, journal-shows}
use Rattle.journal.specs.Change.{rewritten, Change, made_all, records_of, with_code, make_of}
use Rattle.demands.specs.Sets.{SetsOnlyItsBits}
use Rattle.fold.specs.Fold.{folded, fold_of}

-- the code takes the edit
abbrev pub Fits : List ℕ → Edit → Type 0
Fits code e = first (code_refusals code e) ≡ accepted

-- one edit that the code takes
module _ (code : List ℕ) (e : Edit) (fits : Fits code e) where
  pub in_code : Lies code e.bundle
  in_code = lies code e.bundle (taken-found code e fits)

  pub only-its-bits : Bytes code → SetsOnlyItsBits code e
  only-its-bits b =
      let new = changed_number (number_at code e.bundle) e in
      let number = rewritten-number code e.bundle in_code new (taken-lt code e fits b) in
      record {
        value = ap (value_in (row_of e.form) e.slot) number ∙ changed-value (number_at code e.bundle) e (taken-changes code e fits);
        before = rewritten-before code e.bundle in_code new;
        bits = λ i t. ap (λ (n : ℕ). bit n i) number ∙ changed-bit (number_at code e.bundle) e i t;
        past = rewritten-past code e.bundle in_code new;
      }

-- calls with a valid journal of some records
module _ (party places : ℕ) (code : List ℕ) (rs : List Record) (valid : valid_of party places (journal_of places rs) ≡ true) where
  shown : view_of party places (journal_of places rs) ≡ record { valid = true; count = length rs; last = get_last_d rs no_record }
  shown = journal-shows party places rs valid

  -- changes
  pub make-of : (refusals : List Reason) (cs : List Change) (a : ℕ) → first (refusals ++ (full, ltb places (length rs + length cs)) ∷ []) ≡ a
      → make_of party places code (journal_of places rs) refusals cs
      ≡ outcome a
      (record { answer = accepted; journal = journal_of places (rs ++ records_of party code cs); code = made_all code cs })
      (record { answer = a; journal = journal_of places rs; code = code })
  unfolding make_of
  make-of refusals cs a q =
      rw (shown, journal-stands, first_past refusals ((bad_journal, not true) ∷ (full, ltb places (length rs + length cs)) ∷ []) ((full, ltb places (length rs + length cs)) ∷ []) refl, q)

  -- undoing a last record
  pub undo-of : (last : Record) (a : ℕ) → get_last_d rs no_record ≡ last → first (undo_refusals code (record { valid = true; count = length rs; last = last })) ≡ a
      → undo_of party places code (journal_of places rs)
      ≡ outcome a (record { answer = accepted; journal = journal_of places (drop_last rs); code = rewritten code last.bundle (whole last.old) }) (record { answer = a; journal = journal_of places rs; code = code })
  unfolding undo_of
  undo-of last a e q = rw (shown, journal-stands, e, q)

  -- a fold
  pub fold-of : with_code code (fold_of party places (journal_of places rs)) ≡ record { answer = accepted; journal = journal_of places (folded rs); code = code }
  unfolding fold_of
  fold-of = rw (valid, journal-stands)
