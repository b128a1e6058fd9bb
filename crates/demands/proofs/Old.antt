-- A sheet of old lines loads as records of whole bundles, which pass; and undoing goes by what such a record has of an old one. By induction
-- on the records, the newest first. Assumes nothing.
use mathlib.Core.Path.{◌≡◌, refl, sym, ap, ap₂, ◌∙◌, subst}
use mathlib.Core.Bool.{Bool, true, false, not, ◌&&◌}
use mathlib.Core.List.{List, [], ◌∷◌}
use Prim.Native.Nat.{ℕ, zero, suc, ◌+◌, ◌*◌, ◌≤◌}
use native.Mathlib.Omega.{arith}
use lib.Dec.{T, leb, ltb, eqb, eqb_refl}
use lib.Ieee.Bits.{is_true}
use lib.ListN.{length, length-append}
use borrow.Author.Tests.{le-leb, le-ltb, ltb-false, ne_eqb}
use mir.Facts.{and_yes, yes_and}
use Rattle.answer.specs.Answer.{first, outcome, accepted, exhausted_input, stale}
use Rattle.bundle.specs.Bundle.{longest_code, number_at, halves_of, whole}
use Rattle.bundle.proofs.Lies.{Lies}
use Rattle.journal.specs.Change.{Outcome, rewritten}
use Rattle.journal.specs.Edit.{undo_of}
use Rattle.journal.proofs.Rewritten.{rewritten-length}
use Rattle.demands.proofs.Edits.{undo-of}
use Rattle.records.proofs.Standing.{all_append, journal-stands, journal-valid, last_snoc, drop-last-snoc}
use Rattle.record.specs.Record.{highest, whole_record, same_halves, passes, may_stand, fits64}
use Rattle.record.specs.declared.Record.{Record}
use Rattle.records.specs.Journal.{Journal, limit, all, journal_of, valid_of}
use Rattle.record.proofs.Laws.{whole-passes}
use Rattle.sheet.specs.RoundTrip.{HasSheet}
use Rattle.sheet.specs.Sheet.{tells}
use Rattle.demands.specs.Old.{OldRecord, wholes, undone, undos, could_stand, OldLoads}
use Rattle.sheet.specs.declared.line.Kind.TheVariants.{Old}
use Rattle.sheet.proofs.Inverse.{load-written}

abbrev whole_of : ℕ → OldRecord → Record
whole_of party r = whole_record party r.bundle r.old r.new

wholes-length : (party : ℕ) (rs : List OldRecord) → length (wholes party rs) ≡ length rs
wholes-length party [] = refl
wholes-length party (r ∷ rs) = omega (arith, length-append (wholes party rs) (whole_of party r ∷ []), wholes-length party rs)

-- what holds of a whole record that could stand holds of all of them
wholes-all : (party : ℕ) (test : Record → Bool) → ((r : OldRecord) → T (could_stand (whole_of party r)) → T (test (whole_of party r))) → (rs : List OldRecord) → T (all could_stand (wholes party rs)) → T (all test (wholes party rs))
wholes-all party test h [] t = tt
wholes-all party test h (r ∷ rs) t =
    let a = and_yes (all could_stand (wholes party rs)) (could_stand (whole_of party r) && true) (subst T (all_append could_stand (wholes party rs) (whole_of party r ∷ [])) t) in
    subst T (sym (all_append test (wholes party rs) (whole_of party r ∷ [])))
    (yes_and (all test (wholes party rs)) (test (whole_of party r) && true) (wholes-all party test h rs a.0) (yes_and (test (whole_of party r)) true (h r (and_yes (could_stand (whole_of party r)) true a.1).0) tt))

may : (party : ℕ) (r : OldRecord) → T (could_stand (whole_of party r)) → T (may_stand party (whole_of party r))
may party r t =
    yes_and (leb r.bundle highest) (passes (whole_of party r) && eqb party party) (and_yes (leb r.bundle highest) (fits64 (whole_of party r)) t).0
    (yes_and (passes (whole_of party r)) (eqb party party) (subst T (sym (whole-passes party r.bundle r.old r.new)) tt) (eqb_refl party))

module _ (party places : ℕ) (rs : List OldRecord) (few : length rs ≤ places) (t : T (all could_stand (wholes party rs))) where
  valid : valid_of party places (journal_of places (wholes party rs)) ≡ true
  valid =
      journal-valid party places (wholes party rs)
      ∙ ap₂ (λ (a b : Bool). a && b) (le-leb (length (wholes party rs)) places (omega (arith, few, wholes-length party rs))) (is_true (all (may_stand party) (wholes party rs)) (wholes-all party (may_stand party) (may party) rs t))

  old-sheet : HasSheet party places Old (journal_of places (wholes party rs))
  old-sheet =
      let stand = sym (journal-stands places (wholes party rs)) in
      record {
        valid = valid;
        held = subst (λ (qs : List Record). T (all fits64 qs)) stand (wholes-all party fits64 (λ r h. (and_yes (leb r.bundle highest) (fits64 (whole_of party r)) h).1) rs t);
        told = subst (λ (qs : List Record). T (all (tells Old) qs)) stand (wholes-all party (tells Old) (λ r h. tt) rs t);
      }

-- where an undo is refused, so are those after it
stays : (party places n a b : ℕ) (j : Journal) (code : List ℕ) → undo_of party places code j ≡ record { answer = a; journal = j; code = code } → (undos party places n (record { answer = b; journal = j; code = code })).code ≡ code
stays party places zero a b j code e = refl
stays party places (suc n) a b j code e = ap (λ (o : Outcome). (undos party places n o).code) e ∙ stays party places n a a j code e

-- all but the newest could stand too
module _ (party places : ℕ) (r : OldRecord) (rs : List OldRecord) (few : length (r ∷ rs) ≤ places) (t : T (all could_stand (wholes party (r ∷ rs)))) where
  rest : T (all could_stand (wholes party rs))
  rest = (and_yes (all could_stand (wholes party rs)) (could_stand (whole_of party r) && true) (subst T (all_append could_stand (wholes party rs) (whole_of party r ∷ [])) t)).0

  module _ (code : List ℕ) (short : length code ≤ longest_code) where
    abbrev j : Journal
    j = journal_of places (wholes party (r ∷ rs))

    abbrev restored : List ℕ
    restored = rewritten code r.bundle (whole r.old)

    -- the newest undone, by the refusal
    newest : (a : ℕ) → first ((exhausted_input, ltb (length code) (16 * r.bundle + 16)) ∷ (stale, not (same_halves (halves_of (number_at code r.bundle)) r.new)) ∷ []) ≡ a
        → undo_of party places code j ≡ outcome a (record { answer = accepted; journal = journal_of places (wholes party rs); code = restored }) (record { answer = a; journal = j; code = code })
    newest a e =
        let some : eqb (length (wholes party (r ∷ rs))) 0 ≡ false = ne_eqb (length (wholes party (r ∷ rs))) 0 (λ z. omega (arith, z, wholes-length party (r ∷ rs))) in
        undo-of party places code (wholes party (r ∷ rs)) (valid party places (r ∷ rs) few t) (whole_of party r) a (last_snoc (wholes party rs) (whole_of party r)) (rw (le-ltb longest_code (length code) short, some) e)
        ∙ ap (λ (rs : List Record). outcome a (record { answer = accepted; journal = journal_of places rs; code = restored }) (record { answer = a; journal = j; code = code })) (drop-last-snoc (wholes party rs) (whole_of party r))

undoes : (party places : ℕ) (rs : List OldRecord) → length rs ≤ places → T (all could_stand (wholes party rs)) → (a : ℕ) (code : List ℕ) → length code ≤ longest_code
    → (undos party places (length rs) (record { answer = a; journal = journal_of places (wholes party rs); code = code })).code ≡ undone code rs
undoes party places [] few t a code short = refl
undoes party places (r ∷ rs) few t a code short =
    go (undoes party places rs (omega (arith, few)) (rest party places r rs few t)) (ltb (length code) (16 * r.bundle + 16)) refl (same_halves (halves_of (number_at code r.bundle)) r.new) refl
  where
    after : Outcome → List ℕ
    after o = (undos party places (length rs) o).code

    go : ((a : ℕ) (code : List ℕ) → length code ≤ longest_code → (undos party places (length rs) (record { answer = a; journal = journal_of places (wholes party rs); code = code })).code ≡ undone code rs)
        → (past : Bool) → ltb (length code) (16 * r.bundle + 16) ≡ past → (same : Bool) → same_halves (halves_of (number_at code r.bundle)) r.new ≡ same
        → after (undo_of party places code (journal_of places (wholes party (r ∷ rs)))) ≡ undone code (r ∷ rs)
    go more true p same q = let e = newest party places r rs few t code short exhausted_input (rw p) in rw p (ap after e ∙ stays party places (length rs) exhausted_input exhausted_input _ code e)
    go more false p false q = let e = newest party places r rs few t code short stale (rw (p, q)) in rw (p, q) (ap after e ∙ stays party places (length rs) stale stale _ code e)
    go more false p true q =
        let lies : Lies code r.bundle = record { short = short; within = ltb-false (length code) (16 * r.bundle + 16) p } in
        rw (p, q)
        (ap after (newest party places r rs few t code short accepted (rw (p, q)))
        ∙ more accepted (rewritten code r.bundle (whole r.old)) (omega (arith, short, rewritten-length code r.bundle lies (whole r.old))))

pub old-loads : OldLoads
old-loads party places given rs within valid few t =
    record {
      loads = load-written limit party places Old given (journal_of places (wholes party rs)) (omega arith) within valid (old-sheet party places rs few t);
      undoes = undoes party places rs few t accepted;
    }
