-- Edits that never meet: those of two bundles, and those that one bundle takes in two of its slots. And whether two meet is the same
-- whichever of them is named first: each goes through the parts. Assumes nothing.
use mathlib.Core.Path.{◌≡◌, refl, sym, ap, ap₂, ◌∙◌}
use mathlib.Core.Bool.{Bool, true, false, not, ◌&&◌, or_comm}
use mathlib.Core.List.{[], ◌∷◌}
use Prim.Native.Nat.{ℕ, ◌+◌}
use native.Mathlib.Decide.{ℕ_discrete}
use borrow.Author.Tests.{eq-eqb, ne_eqb}
use lib.Dec.{T, eqb, leb}
use Rattle.answer.specs.Answer.{first, accepted}
use Rattle.bits.specs.Parts.{Parts, apart, apart_from, meet_not}
use Rattle.form.specs.declared.Edit.{Edit}
use Rattle.row.specs.Row.{row_of}
use Rattle.immediate.specs.Immediate.{change_refusals, parts_of}
use Rattle.immediate.proofs.Elsewhere.{Has, forms-apart}
use Rattle.immediate.proofs.Laws.{stands, change-read}
use Rattle.meet.specs.Meet.{meets}

pub other-bundle : (d e : Edit) → (d.bundle ≡ e.bundle → ⊥) → meets d e ≡ false
other-bundle d e differ = ap (λ (t : Bool). t && not (meet_not (parts_of d) (parts_of e))) (ne_eqb d.bundle e.bundle differ)

-- the edit's form stands in its slot of a bundle that takes it
has : (n : ℕ) (e : Edit) → first (change_refusals n e) ≡ accepted → Has n e.slot e.form
has n e taken = stands n e.slot e.form (row_of e.form) (change-read n e taken)

never : (s t : Bool) → T t → (s && not t) ≡ false
never true true h = refl
never false true h = refl
never s false h = absurd h

pub other-slot : (n : ℕ) (d e : Edit) → first (change_refusals n d) ≡ accepted → first (change_refusals n e) ≡ accepted → (d.slot ≡ e.slot → ⊥) → meets d e ≡ false
other-slot n d e takes-d takes-e differ =
    never (eqb d.bundle e.bundle) (meet_not (parts_of d) (parts_of e))
    (forms-apart n e.slot e.form d.slot d.form (has n e takes-e) (has n d takes-d) (λ s. differ (sym s)))

-- two pairs of tests in either order
crossed : (s t u v : Bool) → ((s && t) && (u && v)) ≡ ((s && u) && (t && v))
crossed true true u v = refl
crossed true false true v = refl
crossed true false false v = refl
crossed false t u v = refl

one_more : (ps : Parts) (q : ℕ × ℕ) (qs : Parts) → meet_not ps (q ∷ qs) ≡ apart_from q ps && meet_not ps qs
one_more [] q qs = refl
one_more (p ∷ ps) q qs =
    ap₂ (λ (t u : Bool). (t && apart_from p qs) && u) (or_comm (leb (p.0 + p.1) q.0) (leb (q.0 + q.1) p.0)) (one_more ps q qs)
    ∙ crossed (apart q p) (apart_from p qs) (apart_from q ps) (meet_not ps qs)

none : (ps : Parts) → meet_not ps [] ≡ true
none [] = refl
none (p ∷ ps) = none ps

either_way : (ps qs : Parts) → meet_not ps qs ≡ meet_not qs ps
either_way [] qs = sym (none qs)
either_way (p ∷ ps) qs = ap (λ (t : Bool). apart_from p qs && t) (either_way ps qs) ∙ sym (one_more qs p ps)

same_number : (m n : ℕ) → eqb m n ≡ eqb n m
same_number m n = elim (ℕ_discrete m n) [ yes e ↦ eq-eqb m n e ∙ sym (eq-eqb n m (sym e)) | no d ↦ ne_eqb m n d ∙ sym (ne_eqb n m (λ e. d (sym e))) ]

pub meets-either-way : (d e : Edit) → meets d e ≡ meets e d
meets-either-way d e = ap₂ (λ (s t : Bool). s && not t) (same_number d.bundle e.bundle) (either_way (parts_of d) (parts_of e))
