-- A fold of any journal, undone: the records are of a bundle each, so that to write one's old bundle back leaves the others as their records
-- say. By going through the records, the newest first. Assumes nothing.
use mathlib.Core.Path.{◌≡◌, refl, sym, ap, ap₂, ◌∙◌, subst}
use mathlib.Core.Bool.{Bool, true, false, ◌&&◌}
use mathlib.Core.List.{List, [], ◌∷◌, ◌++◌, append_assoc, append-nil, get_last_d}
use Prim.Native.Nat.{ℕ, ◌+◌, ◌*◌, ◌≤◌}
use native.Mathlib.Omega.{arith}
use borrow.Author.Tests.{le-leb, le-ltb, ne_eqb, eqb-false}
use lib.Dec.{T, eqb}
use lib.Ieee.Bits.{is_true}
use lib.ListN.{length, length-append}
use mir.Facts.{and_yes}
use Rattle.answer.specs.Answer.{accepted}
use Rattle.bundle.specs.Bytes.{number, bytes}
use Rattle.bundle.specs.Bundle.{longest_code, number_at, halves_of, whole}
use Rattle.bundle.specs.declared.half.Halves.{Halves}
use Rattle.bundle.proofs.Laws.{or-false}
use Rattle.bundle.proofs.Lies.{Lies}
use Rattle.record.specs.Record.{same_halves, passes, may_stand}
use Rattle.record.specs.declared.Record.{Record}
use Rattle.record.proofs.Laws.{same-halves}
use Rattle.records.specs.Journal.{all, standing, journal_of, valid_of, view_of}
use Rattle.records.proofs.Standing.{all_append, journal-stands, journal-valid, valid-few, valid-stand, last_snoc, drop-last-snoc}
use Rattle.journal.specs.Change.{rewritten}
use Rattle.journal.specs.Edit.{undo_of}
use Rattle.fold.specs.Fold.{has, bundles_in, folded, fold_of}
use Rattle.journal.proofs.Rewritten.{rewritten-length}
use Rattle.demands.specs.Folds.{written_back, AllLie, StandIn, FoldedUndone, NotUndone}
use Rattle.demands.specs.Old.{undos}
use Rattle.demands.proofs.Edits.{undo-of, fold-of}
use Rattle.fold.proofs.Laws.{Folded, is-folded, has_last, bundles-append, may-folded}
use Rattle.demands.proofs.Fold.{lie-folded, back-append}
use Rattle.demands.proofs.Newest.{folds}
use Rattle.demands.proofs.Two.{rewritten-other}

-- records, of which the newest stands first, the oldest first
abbrev back : List Record → List Record
back [] = []
back (r ∷ rs) = back rs ++ (r ∷ [])

abbrev onto : List Record → List Record → List Record
onto ps [] = ps
onto ps (q ∷ qs) = onto (q ∷ ps) qs

back-onto : (ps qs : List Record) → back (onto ps qs) ≡ back ps ++ qs
back-onto ps [] = sym (append-nil (back ps))
back-onto ps (q ∷ qs) = back-onto (q ∷ ps) qs ∙ append_assoc (back ps) (q ∷ []) qs

-- none of some records is of bundle k
abbrev Off : ℕ → List Record → Type 0
Off k [] = Unit {0}
Off k (r ∷ rs) = (r.bundle ≡ k → ⊥) × Off k rs

off-back : (k : ℕ) (ps : List Record) → has k (bundles_in (back ps)) ≡ false → Off k ps
off-back k [] e = tt
off-back k (p ∷ ps) e =
    let o = or-false _ _ (sym (ap (has k) (bundles-append (back ps) (p ∷ [])) ∙ has_last k p.bundle (bundles_in (back ps))) ∙ e) in
    (eqb-false _ _ o.0, off-back k ps o.1)

-- each is of a bundle of its own, which lies in the code and stands there as the record says
abbrev Ready : List ℕ → List Record → Type 0
Ready code [] = Unit {0}
Ready code (r ∷ rs) = (16 * r.bundle + 16 ≤ length code) × (halves_of (number_at code r.bundle) ≡ r.new) × Off r.bundle rs × Ready code rs

ready-onto : (code : List ℕ) (ps qs : List Record) → Ready code ps → Folded (back ps) qs → AllLie (length code) qs → StandIn code qs → Ready code (onto ps qs)
ready-onto code ps [] r f l s = r
ready-onto code ps (q ∷ qs) r f l s = ready-onto code (q ∷ ps) qs (l.0, s.0, off-back q.bundle ps f.0, r) f.2 l.1 s.1

module _ (code : List ℕ) (short : length code ≤ longest_code) (k n : ℕ) (h : 16 * k + 16 ≤ length code) where
  lies-k : Lies code k
  lies-k = record { short = short; within = h }

  still-ready : (rs : List Record) → Off k rs → Ready code rs → Ready (rewritten code k n) rs
  still-ready [] o r = tt
  still-ready (q ∷ rs) o r = (
    subst (λ (m : ℕ). 16 * q.bundle + 16 ≤ m) (sym (rewritten-length code k lies-k n)) r.0,
    ap halves_of (rewritten-other code k q.bundle lies-k (record { short = short; within = r.0 }) (λ e. o.0 (sym e)) n) ∙ r.1,
    r.2,
    still-ready rs o.1 r.3,
  )

back-length : (rs : List Record) → length (back rs) ≡ length rs
back-length [] = refl
back-length (r ∷ rs) = omega (arith, length-append (back rs) (r ∷ []), back-length rs)

module _ (party places : ℕ) where
  -- records that may stand in so many places
  abbrev Few : List Record → Type 0
  Few rs = (length rs ≤ places) × T (all (may_stand party) rs)

  valid : (rs : List Record) → Few rs → valid_of party places (journal_of places rs) ≡ true
  valid rs f = journal-valid party places rs ∙ ap₂ (λ (t u : Bool). t && u) (le-leb (length rs) places f.0) (is_true (all (may_stand party) rs) f.1)

  but-newest : (r : Record) (rs : List Record) → Few (back (r ∷ rs)) → Few (back rs)
  but-newest r rs f =
      (omega (arith, f.0, length-append (back rs) (r ∷ [])), (and_yes (all (may_stand party) (back rs)) _ (subst T (all_append (may_stand party) (back rs) (r ∷ [])) f.1)).0)

  undoes : (rs : List Record) (code : List ℕ) → length code ≤ longest_code → Few (back rs) → Ready code rs
      → undos party places (length rs) (record { answer = accepted; journal = journal_of places (back rs); code = code }) ≡ record { answer = accepted; journal = journal_of places []; code = written_back code (back rs) }
  undoes [] code short f r = refl
  undoes (q ∷ rs) code short f r =
      let some : eqb (length (back (q ∷ rs))) 0 ≡ false = ne_eqb (length (back (q ∷ rs))) 0 (λ z. omega (arith, z, back-length (q ∷ rs))) in
      let new = ap (λ (h : Halves). same_halves h q.new) r.1 ∙ same-halves q.new in
      let code' = rewritten code q.bundle (whole q.old) in
      ap (undos party places (length rs))
      (undo-of party places code (back (q ∷ rs)) (valid (back (q ∷ rs)) f) q accepted (last_snoc (back rs) q) (rw (le-ltb longest_code (length code) short, some, le-ltb (length code) (16 * q.bundle + 16) r.0, new))
      ∙ ap (λ (qs : List Record). record { answer = accepted; journal = journal_of places qs; code = code' }) (drop-last-snoc (back rs) q))
      ∙ undoes rs code' (omega (arith, short, rewritten-length code q.bundle (record { short = short; within = r.0 }) (whole q.old))) (but-newest q rs f) (still-ready code short q.bundle (whole q.old) r.0 rs r.2 r.3)
      ∙ ap (λ (c : List ℕ). record { answer = accepted; journal = journal_of places []; code = c }) (sym (back-append code (back rs) (q ∷ [])))

pub folded-undone : FoldedUndone
folded-undone party places code rs short v l s =
    let qs = folded rs in
    let ps = onto [] qs in
    let is : back ps ≡ qs = back-onto [] qs in
    let ready = ready-onto code [] qs tt (is-folded [] rs tt) (lie-folded (length code) [] rs tt l) s in
    let few : length rs ≤ places = subst (λ (ps : List Record). length ps ≤ places) (journal-stands places rs) (valid-few party places (journal_of places rs) v) in
    let stand = may-folded party rs (subst (λ (ps : List Record). T (all (may_stand party) ps)) (journal-stands places rs) (valid-stand party places (journal_of places rs) v)) in
    let f : Few party places qs = (omega (arith, few, (folds rs).fewer), stand) in
    let count : length qs ≡ length ps = ap length (sym is) ∙ back-length ps in
    ap₂ (undos party places) count (fold-of party places code rs v ∙ ap (λ (ps : List Record). record { answer = accepted; journal = journal_of places ps; code = code }) (sym is))
    ∙ undoes party places ps code short (subst (Few party places) (sym is) f) ready
    ∙ ap (λ (c : List ℕ). record { answer = accepted; journal = journal_of places []; code = c }) (ap (written_back code) is ∙ (folds rs).writes-back code short l)

-- by computing
pub not-undone : NotUndone
unfolding undo_of fold_of valid_of view_of standing journal_of rewritten passes number bytes get_last_d
not-undone = record { steps = refl; fold = refl }
