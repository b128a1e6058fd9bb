-- Demand 3 holds: while changes stand that the code takes one after the other, a call comes to what is expected of it, and so do runs by
-- going through the calls. Assumes nothing.
use mathlib.Core.Path.{◌≡◌, refl, sym, ap, ap₂, ◌∙◌, subst}
use mathlib.Core.Bool.{Bool, true, false, cond, ◌&&◌}
use mathlib.Core.List.{List, [], ◌∷◌, ◌++◌, get_last_d}
use Prim.Native.Nat.{ℕ, zero, suc, ◌+◌, ◌*◌, ◌≤◌}
use native.Mathlib.Decide.{ℕ_discrete}
use native.Mathlib.Numerals.{add-one}
use native.Mathlib.Omega.{arith}
use borrow.Author.Tests.{le-ltb, le-leb, ltb-false, eqb-true}
use lib.Dec.{ltb, eqb, eqb-suc-zero}
use lib.ListN.{length, drop, length-append}
use lib.Seq.{drop-drop, drop-length}
use Rattle.answer.specs.Answer.{accepted, full, empty, first, outcome}
use Rattle.answer.proofs.Laws.{none-applies, accepts, refuses}
use Rattle.bundle.specs.Bundle.{longest_code, halves_of, whole}
use Rattle.bundle.proofs.Bytes.{Bytes}
use Rattle.record.specs.Record.{no_record, same_halves, may_stand}
use Rattle.record.specs.declared.Record.{Record}
use Rattle.record.proofs.Laws.{same-halves}
use Rattle.records.specs.Journal.{Journal, all, standing, journal_of, valid_of}
use Rattle.records.proofs.Standing.{journal-stands, journal-valid, drop-last-snoc, last_snoc}
use Rattle.journal.specs.Edit.{undo_refusals, undo_of}
use Rattle.journal.proofs.Laws.{parts-accept}
use Rattle.journal.specs.Change.{rewritten, Change, changed, bundle_of, new_number, change_record, made_all, records_of, Outcome, with_code}
use Rattle.demands.specs.Demand3.{making_of, refusals_of, changes_of, Call, make, undo, fold, step, run, touched, as_in, answer_to, taken, after, standing_changes, expected, then_undo, Holds, Demand3}
use Rattle.demands.proofs.Changes.{OfChanges, changes-stand, record-bundle, record-old, record-new, changed-lies, changed-number, changed-back, Stand, all-bytes, each-sets-its-own, all-records, records-length, made_after, records-after, stand-after, making-stands, making-numbered}
use Rattle.demands.proofs.Edits.{make-of, undo-of, fold-of}
use Rattle.fold.specs.Fold.{folded, fold_of}
use Rattle.demands.proofs.Newest.{folds}
use Rattle.demands.proofs.Folding.{touched-few, fold-code, fold-records, fold-stands}

as-length : (code : List ℕ) (ks : List ℕ) → length (as_in code ks) ≡ length ks
as-length code [] = refl
as-length code (k ∷ ks) = omega (arith, as-length code ks)

-- a call comes to the same from the same code and journal
pub same_step : (party places : ℕ) (s t : Outcome) → s.code ≡ t.code → s.journal ≡ t.journal → (c : Call) → step party places s c ≡ step party places t c
same_step party places s t p q (make m) = ap₂ (λ (code : List ℕ) (journal : Journal). making_of party places code journal m) p q
same_step party places s t p q undo = ap₂ (undo_of party places) p q
same_step party places s t p q fold = ap₂ (λ (code : List ℕ) (journal : Journal). with_code code (fold_of party places journal)) p q

-- what changes do that stand in so many places
pub record Standing (places : ℕ) (code : List ℕ) (cs : List Change) : Type 0 where
  pub stand : Stand code cs
  pub few : length cs ≤ places

module _ (party places : ℕ) (code : List ℕ) (b : Bytes code) (short : length code ≤ longest_code) where
  valid : (cs : List Change) → Standing places code cs → valid_of party places (journal_of places (records_of party code cs)) ≡ true
  valid cs s =
      journal-valid party places (records_of party code cs)
      ∙ ap₂ (λ (t u : Bool). t && u) (le-leb (length (records_of party code cs)) places (omega (arith, records-length code party cs, s.few))) (all-records code party (may_stand party) (changes-stand party) b cs s.stand)

  -- what there is while changes stand, after a call with this answer
  abbrev So : ℕ → List Change → Outcome
  So a cs = record { answer = a; journal = journal_of places (records_of party code cs); code = made_all code cs }

  so-after : (a : ℕ) (cs ds : List Change) → outcome a (So accepted cs) (So a ds) ≡ So a (outcome a cs ds)
  so-after a cs ds = go (eqb a accepted) refl
    where
      go : (t : Bool) → eqb a accepted ≡ t → cond t (So accepted cs) (So a ds) ≡ So a (cond t cs ds)
      go true e = ap (λ (n : ℕ). So n cs) (sym (eqb-true a accepted e))
      go false e = refl

  -- what stands after a call, where what it takes stands
  stands_after : (cs : List Change) → Standing places code cs → (call : Call) → (answer_to places code cs call ≡ accepted → Standing places code (taken code cs call)) → Standing places code (after places code cs call)
  stands_after cs s call f = go (ℕ_discrete (answer_to places code cs call) accepted)
    where
      go : Dec (answer_to places code cs call ≡ accepted) → Standing places code (after places code cs call)
      go (yes a) = subst (Standing places code) (sym (accepts _ (taken code cs call) cs a)) (f a)
      go (no d) = subst (Standing places code) (sym (refuses _ (taken code cs call) cs d)) s

  -- undoing is taken where a change stands
  undo-answer : (c : Change) (cs : List Change) → answer_to places code (c ∷ cs) undo ≡ accepted
  undo-answer c cs = rw (eqb-suc-zero (length cs))

  undo-after : (cs : List Change) → after places code cs undo ≡ drop 1 cs
  undo-after [] = refl
  undo-after (c ∷ cs) = accepts (answer_to places code (c ∷ cs) undo) cs (c ∷ cs) (undo-answer c cs)

  -- the last record is of a bundle that stands as it says
  last-stands : (c : Change) (cs : List Change) → Stand code (c ∷ cs)
      → first (undo_refusals (made_all code (c ∷ cs)) (record { valid = true; count = length (records_of party code (c ∷ cs)); last = change_record party (made_all code cs) c })) ≡ accepted
  last-stands c cs s =
      let now = made_all code cs in
      let l = changed-lies now c s.0 in
      let new = ap (λ (n : ℕ). same_halves (halves_of n) (halves_of (new_number now c))) (changed-number now c s.0 (all-bytes code b cs s.1)) ∙ same-halves (halves_of (new_number now c)) in
      rw (record-bundle now party c, record-new now party c, le-ltb longest_code _ l.short, records-length code party (c ∷ cs), eqb-suc-zero (length cs), le-ltb _ (16 * bundle_of c + 16) l.within, new)

  undo-as-expected : (cs : List Change) → Standing places code cs → undo_of party places (made_all code cs) (journal_of places (records_of party code cs)) ≡ expected party places code cs undo
  undo-as-expected [] s = undo-of party places code [] (valid [] s) (get_last_d [] no_record) empty refl (rw (le-ltb longest_code (length code) short))
  undo-as-expected (c ∷ cs) s =
      let now = made_all code cs in
      let r = change_record party now c in
      let now-standing = sym (undo-after (c ∷ cs)) in
      let journal = ap (journal_of places) (drop-last-snoc (records_of party code cs) r) ∙ ap (λ (ds : List Change). journal_of places (records_of party code ds)) now-standing in
      let restored =
      ap₂ (λ (k n : ℕ). rewritten (changed now c) k n) (record-bundle now party c) (ap whole (record-old now party c))
      ∙ changed-back now c s.stand.0 (all-bytes code b cs s.stand.1)
      ∙ ap (made_all code) now-standing in
      undo-of party places (made_all code (c ∷ cs)) (records_of party code (c ∷ cs)) (valid (c ∷ cs) s) r accepted (last_snoc (records_of party code cs) r) (last-stands c cs s.stand)
      ∙ (λ i. record { answer = sym (undo-answer c cs) i; journal = journal i; code = restored i })

  -- a call while changes stand
  module _ (cs : List Change) (s : Standing places code cs) where
    abbrev now : List ℕ
    now = made_all code cs

    abbrev journal : Journal
    journal = journal_of places (records_of party code cs)

    as-expected : (call : Call) → step party places (record { answer = accepted; journal = journal; code = now }) call ≡ expected party places code cs call
    as-expected (make m) =
        let ds = changes_of m in
        let a = answer_to places code cs (make m) in
        make-of party places now (records_of party code cs) (valid cs s) (refusals_of now m) ds a (ap (λ (n : ℕ). first (refusals_of now m ++ (full, ltb places (n + length ds)) ∷ [])) (records-length code party cs))
        ∙ ap₂ (λ (rs : List Record) (c : List ℕ). outcome a (record { answer = accepted; journal = journal_of places rs; code = c }) (So a cs)) (records-after code party ds cs) (made_after code ds cs)
        ∙ so-after a (ds ++ cs) cs
    as-expected undo = undo-as-expected cs s
    as-expected fold =
        fold-of party places now (records_of party code cs) (valid cs s)
        ∙ (λ i. record { answer = accepted; journal = journal_of places (fold-records code b party cs s.stand i); code = sym (fold-code code b party cs s.stand) i })

    call-stands : (call : Call) → Standing places code (after places code cs call)
    call-stands (make m) =
        stands_after cs s (make m) (λ a.
        let n = length cs + length (changes_of m) in
        let p = parts-accept (refusals_of now m) ((full, ltb places n) ∷ []) (making-numbered now m) a in
        let few = ltb-false places n (none-applies ((full, ltb places n) ∷ []) tt p.1).0 in
        record { stand = stand-after code (changes_of m) cs (making-stands now m p.0) s.stand; few = omega (arith, length-append (changes_of m) cs, few) })
    call-stands undo = subst (Standing places code) (sym (undo-after cs)) (fewer cs s)
      where
        fewer : (cs : List Change) → Standing places code cs → Standing places code (drop 1 cs)
        fewer [] s = s
        fewer (c ∷ cs) s = record { stand = s.stand.1; few = let h = s.few in omega arith }
    call-stands fold = record { stand = fold-stands code b party cs s.stand; few = omega (arith, as-length now (touched cs), touched-few cs, s.few) }

  pub all-stand : (calls : List Call) → Standing places code (standing_changes places code calls)
  all-stand [] = record { stand = tt; few = omega arith }
  all-stand (call ∷ calls) = call-stands (standing_changes places code calls) (all-stand calls) call

  from : (calls : List Call) → ((run party places code calls).code ≡ made_all code (standing_changes places code calls)) × ((run party places code calls).journal ≡ journal_of places (records_of party code (standing_changes places code calls)))
      → (call : Call) → run party places code (call ∷ calls) ≡ expected party places code (standing_changes places code calls) call
  from calls r call =
      same_step party places (run party places code calls) (So accepted (standing_changes places code calls)) r.0 r.1 call
      ∙ as-expected (standing_changes places code calls) (all-stand calls) call

  reached : (calls : List Call) → ((run party places code calls).code ≡ made_all code (standing_changes places code calls)) × ((run party places code calls).journal ≡ journal_of places (records_of party code (standing_changes places code calls)))
  reached [] = (refl, refl)
  reached (call ∷ calls) =
      let x = from calls (reached calls) call in
      (ap (λ (o : Outcome). o.code) x, ap (λ (o : Outcome). o.journal) x)

  next : (calls : List Call) (call : Call) → run party places code (call ∷ calls) ≡ expected party places code (standing_changes places code calls) call
  next calls = from calls (reached calls)

  -- so many undos leave so many changes fewer
  undos-drop : (n : ℕ) (calls : List Call) → standing_changes places code (then_undo n calls) ≡ drop n (standing_changes places code calls)
  undos-drop zero calls = refl
  undos-drop (suc n) calls =
      undo-after (standing_changes places code (then_undo n calls))
      ∙ ap (drop 1) (undos-drop n calls)
      ∙ drop-drop 1 n (standing_changes places code calls)
      ∙ ap (λ (m : ℕ). drop m (standing_changes places code calls)) (add-one n)

  none_left : (cs : List Change) → (answer_to places code cs undo ≡ accepted → ⊥) → cs ≡ []
  none_left [] d = refl
  none_left (c ∷ cs) d = absurd (d (undo-answer c cs))

  -- what a fold leaves, by the records that it folds
  after-fold : (calls : List Call) → run party places code (fold ∷ calls) ≡ record { answer = accepted; journal = journal_of places (folded (records_of party code (standing_changes places code calls))); code = (run party places code calls).code }
  after-fold calls =
      let cs = standing_changes places code calls in
      let s = all-stand calls in
      next calls fold
      ∙ (λ i. record { answer = accepted; journal = journal_of places (sym (fold-records code b party cs s.stand) i); code = (fold-code code b party cs s.stand ∙ sym (reached calls).0) i })

  folds-twice : (calls : List Call) → run party places code (fold ∷ fold ∷ calls) ≡ run party places code (fold ∷ calls)
  folds-twice calls =
      let cs = standing_changes places code calls in
      after-fold (fold ∷ calls)
      ∙ (λ i. record {
        answer = accepted;
        journal = journal_of places ((ap folded (sym (fold-records code b party cs (all-stand calls).stand)) ∙ (folds (records_of party code cs)).twice) i);
        code = ap (λ (o : Outcome). o.code) (after-fold calls) i;
      })
      ∙ sym (after-fold calls)

  pub holds : (calls : List Call) → Holds party places code calls
  holds calls =
      record {
        code_is = (reached calls).0;
        journal-is = (reached calls).1;
        next-is = next calls;
        own-only = each-sets-its-own code b cs (all-stand calls).stand;
        refused-keeps = λ call d.
            let same = refuses (answer_to places code cs call) (taken code cs call) cs (λ a. d (answer call ∙ a)) in (
              ap (λ (o : Outcome). o.code) (next calls call) ∙ ap (made_all code) same ∙ sym (reached calls).0,
              ap (λ (o : Outcome). o.journal) (next calls call) ∙ ap (λ (ds : List Change). journal_of places (records_of party code ds)) same ∙ sym (reached calls).1,
            );
        fold-keeps = ap (λ (o : Outcome). o.code) (after-fold calls);
        fold-counts =
            ap (λ (j : Journal). length (standing j)) (reached (fold ∷ calls)).1
            ∙ ap length (journal-stands places _)
            ∙ records-length code party (as_in (made_all code cs) (touched cs))
            ∙ as-length (made_all code cs) (touched cs);
        fold-twice = folds-twice calls;
        undo-refused = λ d. none_left cs (λ a. d (answer undo ∙ a));
        undone = (reached (then_undo (length cs) calls)).0 ∙ ap (made_all code) (undos-drop (length cs) calls ∙ drop-length cs);
      }
    where
      cs : List Change
      cs = standing_changes places code calls

      answer : (call : Call) → (run party places code (call ∷ calls)).answer ≡ answer_to places code (standing_changes places code calls) call
      answer call = ap (λ (o : Outcome). o.answer) (next calls call)

  -- a run's journal is valid
  pub run-valid : (calls : List Call) → valid_of party places (run party places code calls).journal ≡ true
  run-valid calls = ap (valid_of party places) (reached calls).1 ∙ valid (standing_changes places code calls) (all-stand calls)

  -- and what holds of every change's record holds of those that stand in it
  pub run-all : (test : Record → Bool) → OfChanges party test → (calls : List Call) → all test (standing (run party places code calls).journal) ≡ true
  run-all test of-changes calls =
      ap (λ (j : Journal). all test (standing j)) (reached calls).1
      ∙ ap (all test) (journal-stands places (records_of party code (standing_changes places code calls)))
      ∙ all-records code party test of-changes b (standing_changes places code calls) (all-stand calls).stand

pub demand-3 : Demand3
demand-3 = holds
