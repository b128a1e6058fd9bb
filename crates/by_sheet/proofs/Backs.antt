-- Old bundles put back, the last first, are undos one after the other: where its records may stand, what a journal says of an undo is what its
-- last record says. Assumes nothing.
use mathlib.Core.Path.{◌≡◌, refl, sym, ap, ◌∙◌, subst}
use mathlib.Core.Bool.{Bool, true, false, false≢true, cond, not}
use mathlib.Core.List.{List, [], ◌∷◌, ◌++◌, reverse, get_last_d}
use Prim.Native.Nat.{ℕ, zero, suc, ◌+◌, ◌-◌, ◌*◌, ◌≤◌, ◌<◌}
use native.Mathlib.Decide.{ℕ_discrete}
use native.Mathlib.Omega.{arith}
use borrow.Author.Tests.{eq-eqb, ne_eqb, lt-ltb, le-ltb}
use lib.Dec.{T}
use Rattle.std.specs.Prelude.{Err}
use Rattle.std.proofs.lemmas.List.{length-reverse, get_or-reverse, get_or_default}
use lib.ListN.{length, get_or, take, length-append}
use lib.Seq.{take-suc, take-length}
use mir.Facts.{and_yes}
use Rattle.answer.specs.Answer.{accepted, stale, too_long, first, outcome}
use Rattle.answer.proofs.Laws.{accepts, refuses, no-acceptance}
use Rattle.bundle.specs.Bundle.{Loaded, longest_code, number_at, find_answer, halves_of, loaded_of, whole}
use Rattle.bundle.proofs.Lies.{Lies, lies, past_the_end}
use Rattle.record.specs.Record.{no_record, same_halves, may_stand}
use Rattle.record.specs.declared.Record.{Record}
use Rattle.records.specs.Journal.{Journal, limit, all, standing, journal_of}
use Rattle.records.proofs.Standing.{all_append, journal-stands, journal-shows, last_snoc, drop-last-snoc}
use Rattle.journal.specs.Change.{rewritten}
use Rattle.journal.specs.Edit.{SharedOutcome, by_party, undo_refusals, undo_of, undo_by}
use Rattle.journal.proofs.Rewritten.{rewritten-length}
use Rattle.by_sheet.specs.Perform.{told_by, records_in}
use Rattle.by_sheet.specs.Taking.{TakenOut, as_taken, undos_from, none_named, taken_by, taken_in, taken_out_of}
use Rattle.by_sheet.specs.declared.taking.Untaken.{Untaken}
use Rattle.by_sheet.specs.declared.taking.Untaken.TheVariants.{Refused, Unfit}
use Rattle.by_sheet.specs.inner.Back.{fit_answer, put_back, all_back}
use Rattle.by_sheet.proofs.Told.{alone, Fit, alone-valid, alone-served, Told}

-- how a record fits a code
abbrev answer_of : List ℕ → Record → ℕ
answer_of code q = let loaded = loaded_of code q.bundle in fit_answer loaded.answer q.new loaded.halves

turned : (t : Bool) → cond (not t) stale accepted ≡ cond t accepted stale
turned true = refl
turned false = refl

-- what stands there is what a record left, or isn't
pub same-fits : (t : Bool) → false ≡ not t → accepted ≡ cond t accepted stale
same-fits true e = refl
same-fits false e = absurd (false≢true e)

pub other-stale : (t : Bool) → true ≡ not t → stale ≡ cond t accepted stale
other-stale true e = absurd (false≢true (sym e))
other-stale false e = refl

-- one that fits, and one that doesn't, put back
module _ (code : List ℕ) (q : Record) {loaded : Loaded} {a : ℕ} (l : loaded ≡ loaded_of code q.bundle) (e : a ≡ fit_answer loaded.answer q.new loaded.halves) where
  answer-is : a ≡ answer_of code q
  answer-is = e ∙ ap (λ (m : Loaded). fit_answer m.answer q.new m.halves) l

  pub back-taken : a ≡ accepted → (none_named accepted, rewritten code q.bundle (whole q.old)) ≡ put_back code q
  unfolding put_back
  back-taken t = sym (accepts (answer_of code q) _ _ (sym answer-is ∙ t))

  pub back-refused : (a ≡ accepted → ⊥) → (record { answer = a; named = true; bundle = q.bundle; wanted = q.new; found = loaded.halves }, code) ≡ put_back code q
  unfolding put_back
  back-refused d =
      (λ i. (record { answer = answer-is i; named = true; bundle = q.bundle; wanted = q.new; found = (l i).halves }, code)) ∙ sym (refuses (answer_of code q) _ _ (λ t. d (answer-is ∙ t)))

  -- its bundle lies in the code
  pub fits-lies : a ≡ accepted → Lies code q.bundle
  unfolding loaded_of
  fits-lies t =
      elim (ℕ_discrete (find_answer code q.bundle) accepted) [
        | yes found ↦ lies code q.bundle found
        | no d ↦ absurd (d (sym (refuses (find_answer code q.bundle) _ _ d) ∙ sym answer-is ∙ t))
      ]

-- it is what an undo asks
module _ (code : List ℕ) (short : length code ≤ longest_code) (q : Record) (count : ℕ) (some : 0 < count) where
  asks : first (undo_refusals code (record { valid = true; count = count; last = q })) ≡ answer_of code q
  unfolding loaded_of find_answer
  asks =
      elim (ℕ_discrete (find_answer code q.bundle) accepted) [
        | yes e ↦
            let h = lies code q.bundle e in
            rw (le-ltb longest_code (length code) short, ne_eqb count 0 (λ z. omega (arith, z)), le-ltb (length code) (16 * q.bundle + 16) h.within) (turned (same_halves (halves_of (number_at code q.bundle)) q.new))
        | no d ↦
            let h = past_the_end code q.bundle short d in
            rw (le-ltb longest_code (length code) short, ne_eqb count 0 (λ z. omega (arith, z)), lt-ltb (length code) (16 * q.bundle + 16) h)
      ]

-- a call that leaves one journal or another to the party
party-is : (ps qs : List Record) (a : ℕ) (changed code : List ℕ)
    → by_party (alone qs) 0 (outcome a (record { answer = accepted; journal = journal_of limit ps; code = changed }) (record { answer = a; journal = journal_of limit qs; code = code }))
    ≡ outcome a (record { answer = accepted; journal = alone ps; code = changed }) (record { answer = a; journal = alone qs; code = code })
party-is ps qs a changed code =
    elim (ℕ_discrete a accepted) [
      | yes e ↦ rw (eq-eqb a accepted e)
      | no d ↦ rw (ne_eqb a accepted d, ne_eqb a accepted d)
    ]

-- one undo, by the last record
module _ (ps : List Record) (q : Record) (f : Fit (ps ++ (q ∷ []))) (code : List ℕ) (short : length code ≤ longest_code) where
  abbrev qs : List Record
  qs = ps ++ (q ∷ [])

  abbrev changed : List ℕ
  changed = rewritten code q.bundle (whole q.old)

  abbrev answer : ℕ
  answer = answer_of code q

  but_last : Fit ps
  but_last =
      record { few = omega (arith, f.few, length-append ps (q ∷ [])); stand = (and_yes (all (may_stand 0) ps) _ (subst T (all_append (may_stand 0) ps (q ∷ [])) f.stand)).0 }

  undo-of : undo_of 0 limit code (journal_of limit qs)
      ≡ outcome answer (record { answer = accepted; journal = journal_of limit ps; code = changed }) (record { answer = answer; journal = journal_of limit qs; code = code })
  unfolding undo_of
  undo-of =
      rw (journal-shows 0 limit qs (alone-valid qs f), journal-stands, last_snoc ps q, asks code short q (length qs) (omega (arith, length-append ps (q ∷ []))), drop-last-snoc ps q)

  -- what there is after it, taken or refused
  abbrev after : SharedOutcome
  after = record { answer = accepted; journal = alone ps; code = changed }

  abbrev unchanged : SharedOutcome
  unchanged = record { answer = answer; journal = alone qs; code = code }

  undo-is : undo_by code (alone qs) 0 ≡ outcome answer after unchanged
  undo-is = ap (λ (j : Journal). by_party (alone qs) 0 (undo_of 0 limit code j)) (alone-served qs f) ∙ ap (by_party (alone qs) 0) undo-of ∙ party-is ps qs answer changed code

  still-short : answer ≡ accepted → length changed ≤ longest_code
  still-short e = omega (arith, short, rewritten-length code q.bundle (fits-lies code q refl refl e) (whole q.old))

  -- what is said of the record that doesn't fit
  misfit-is : (answer ≡ accepted → ⊥) → taken_by unchanged ≡ (record { answer = answer; named = true; bundle = q.bundle; wanted = q.new; found = (loaded_of code q.bundle).halves }, code)
  misfit-is d =
      let last : get_last_d (standing (journal_of limit qs)) no_record ≡ q = ap (λ (rs : List Record). get_last_d rs no_record) (journal-stands limit qs) ∙ last_snoc ps q in
      ap (λ (t : TakenOut). (t, code)) (refuses answer _ _ d ∙ (λ i. record { answer = answer; named = true; bundle = (last i).bundle; wanted = (last i).new; found = (loaded_of code (last i).bundle).halves }))

-- so of as many as there are
module _ (rs : List Record) where
  -- what comes after one
  abbrev then-back : ℕ → TakenOut × List ℕ → TakenOut × List ℕ
  then-back n t = outcome t.0.answer (all_back rs n t.1) t

  abbrev then-undo : ℕ → SharedOutcome → SharedOutcome
  then-undo n o = outcome o.answer (undos_from n o) o

  backs : (n : ℕ) → n ≤ length rs → Fit (take n rs) → (code : List ℕ) → length code ≤ longest_code
      → all_back rs n code ≡ taken_by (undos_from n (record { answer = accepted; journal = alone (take n rs); code = code }))
  unfolding all_back undos_from
  backs zero h f code short = refl
  backs (suc n) h f code short =
      let q = get_or rs n no_record in
      let ps = take n rs in
      let same : take (suc n) rs ≡ ps ++ (q ∷ []) = take-suc rs n no_record h in
      let fit : Fit (ps ++ (q ∷ [])) = subst Fit same f in
      let a = answer_of code q in
      let changed' = rewritten code q.bundle (whole q.old) in
      let by-undo : undo_by code (alone (take (suc n) rs)) 0 ≡ outcome a (after ps q fit code short) (unchanged ps q fit code short) =
      ap (λ (qs : List Record). undo_by code (alone qs) 0) same ∙ undo-is ps q fit code short in
      elim (ℕ_discrete a accepted) [
        | yes e ↦
            ap (then-back n) (sym (back-taken code q refl refl e))
            ∙ backs n (omega (arith, h)) (but_last ps q fit code short) changed' (still-short ps q fit code short e)
            ∙ sym (ap (λ (o : SharedOutcome). taken_by (then-undo n o)) (by-undo ∙ accepts a _ _ e))
        | no d ↦
            ap (then-back n) (sym (back-refused code q refl refl d))
            ∙ refuses a _ _ d
            ∙ sym (misfit-is ps q fit code short d)
            ∙ sym (ap (λ (o : SharedOutcome). taken_by (then-undo n o)) (by-undo ∙ refuses a _ _ d) ∙ ap taken_by (refuses a _ _ d))
      ]

-- a sheet's records
module _ {sheet : List ℕ} (t : Told sheet) (taken : (told_by sheet).answer ≡ accepted) (code : List ℕ) (short : length code ≤ longest_code) where
  pub backs-taken : all_back t.records (length t.records) code ≡ taken_in code sheet
  backs-taken =
      let rs = t.records in
      let all = take-length rs in
      let count : length (records_in (told_by sheet).journal) ≡ length rs = ap length (ap records_in t.is ∙ journal-stands limit rs) in
      backs rs (length rs) (omega arith) (subst Fit (sym all) t.fit) code short
      ∙ ap (λ (qs : List Record). taken_by (undos_from (length rs) (record { answer = accepted; journal = alone qs; code = code }))) all
      ∙ sym (λ i. taken_by (undos_from (count i) (record { answer = accepted; journal = t.is i; code = code })))
      ∙ sym (accepts (told_by sheet).answer _ _ taken)

-- where none is told
pub untaken : (code sheet : List ℕ) {a : ℕ} → a ≡ (told_by sheet).answer → (a ≡ accepted → ⊥) → (none_named a, code) ≡ taken_in code sheet
untaken code sheet e d = ap (λ (n : ℕ). (none_named n, code)) e ∙ sym (refuses (told_by sheet).answer _ _ (λ t. d (e ∙ t)))

-- going on with putting back, by the last of those left
module _ (records : List Record) (left : ℕ) (code : List ℕ) (some : 0 < left) {t : TakenOut × List ℕ} (is : t ≡ put_back code (get_or records (left - 1) no_record)) where
  by_last : all_back records left code ≡ outcome t.0.answer (all_back records (left - 1) t.1) t
  unfolding all_back
  by_last =
      let more : left ≡ suc (left - 1) = omega arith in
      ap (λ (n : ℕ). all_back records n code) more ∙ ap (λ (u : TakenOut × List ℕ). outcome u.0.answer (all_back records (left - 1) u.1) u) (sym is)

  pub back_on : t.0.answer ≡ accepted → all_back records left code ≡ all_back records (left - 1) t.1
  back_on e = by_last ∙ accepts t.0.answer _ _ e

  pub back-stops : (t.0.answer ≡ accepted → ⊥) → all_back records left code ≡ t
  back-stops d = by_last ∙ refuses t.0.answer _ _ d

-- the copy's code, where all went, and the code as it was elsewhere
module _ (code sheet : List ℕ) where
  pub too_long_lem : longest_code < length code → (none_named too_long, code) ≡ taken_out_of code sheet
  unfolding taken_out_of
  too_long_lem h = rw (lt-ltb longest_code (length code) h)

  module _ (short : length code ≤ longest_code) {t : TakenOut} {part : List ℕ} (e : (t, part) ≡ taken_in code sheet) where
    by_part : taken_out_of code sheet ≡ (t, outcome t.answer part code)
    unfolding taken_out_of
    by_part = rw (le-ltb longest_code (length code) short) (ap (λ (u : TakenOut × List ℕ). (u.0, outcome u.0.answer u.1 code)) (sym e))

    pub all-out : t.answer ≡ accepted → (t, part) ≡ taken_out_of code sheet
    all-out a = sym (by_part ∙ ap (λ (c : List ℕ). (t, c)) (accepts t.answer part code a))

    pub none_out : (t.answer ≡ accepted → ⊥) → (t, code) ≡ taken_out_of code sheet
    none_out d = sym (by_part ∙ ap (λ (c : List ℕ). (t, c)) (refuses t.answer part code d))

-- a refused call's answer isn't `accepted`
pub untaken-answer : (untaken : Untaken) → (as_taken (Err untaken)).answer ≡ accepted → ⊥
untaken-answer (Refused refusal) e = no-acceptance refusal e
untaken-answer (Unfit m) e = no-acceptance m.refusal e

-- records that are gone through from the last on
pub from-last : (records : List Record) (k : ℕ) (one : Record) → k < length (reverse records) → one ≡ get_or (reverse records) k one
    → (k < length records) × (one ≡ get_or records (length records - k - 1) no_record)
from-last records k one h e =
    let few : k < length records = omega (arith, length-reverse records) in
    let same : length records - 1 - k ≡ length records - k - 1 = omega arith in
    (few, e ∙ get_or-reverse records k one few ∙ ap (λ (n : ℕ). get_or records n one) same ∙ get_or_default records (length records - k - 1) one no_record (omega (arith, few)))
