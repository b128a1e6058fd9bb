-- What writing a form's row leaves as it is: every slot but the form's own, and, for an X form, but the L slot. So the forms of two slots
-- of a bundle never meet, since beside an X stands an L, which no form fits. Assumes nothing.
use Rattle.std.proofs.Common.{◌≡◌, ℕ, ◌<◌, Bool, true, false, cond, T, eqb, sym, ap, ◌∙◌, subst, eqb→eq, eqb-true}
use Rattle.bits.specs.Parts.{meet_not}
use Rattle.bits.proofs.Laws.{part-lt}
use Rattle.bits.proofs.Parts.{part-scatter}
use Rattle.bundle.specs.Template.{unit_l}
use Rattle.bundle.specs.Bundle.{tag_of, slot_of, unit_at}
use Rattle.form.specs.Form.{A, X}
use Rattle.form.specs.declared.Form.{Form}
use Rattle.parts.specs.Placed.{placed}
use Rattle.parts.proofs.Placed.{word, words-apart, elsewhere, other-words}
use Rattle.row.specs.Row.{Row, is_none, row_of}
use Rattle.immediate.specs.Immediate.{fits, with_raw}
use Rattle.immediate.proofs.Laws.{Stands}
use Rattle.row.proofs.Rows.{good, row-good}
use Rattle.immediate.proofs.Sound.{in-words, x-in-2, x-unit, x-beside-l}

-- another slot stays, and the L slot where the form isn't an X form
pub slot_kept : (form : Form) (slot : ℕ) (row : Row) (n raw j : ℕ) → T (good form.family row) → is_none row ≡ false → (j ≡ slot → ⊥) → (form.family ≡ X → j ≡ 1 → ⊥)
    → slot_of (with_raw row slot n raw) j ≡ slot_of n j
slot_kept form slot row n raw j g some d x =
    part-scatter n (word j) (placed slot row.parts) raw
    (elsewhere (eqb form.family X) slot row.parts (word j) (in-words form row g some) (words-apart j slot d) (λ t. words-apart j 1 (x (eqb→eq form.family X t))))

-- no form fits L
fits-l : (form : Form) → fits form unit_l ≡ true → is_none (row_of form) ≡ false → ⊥
unfolding row_of
fits-l form fit some = by-family (eqb form.family A) fit
  where
    by-family : (b : Bool) → cond b false (eqb form.family unit_l) ≡ true → ⊥
    by-family true e = subst T (sym e) tt
    by-family false e = subst T (sym (sym some ∙ ap (λ (f : ℕ). is_none (row_of (record { family = f; number = form.number }))) (eqb-true form.family unit_l e))) tt

module _ (n : ℕ) where
  -- a form that a bundle has in a slot
  abbrev pub Has : ℕ → Form → Type 0
  Has slot form = Stands n slot form (row_of form)

  tag_fits : tag_of n < 32
  tag_fits = part-lt n 0 5

  -- an X form stands in slot 2, and no form in slot 1 beside it
  x-slot : (slot : ℕ) (form : Form) → Has slot form → form.family ≡ X → slot ≡ 2
  x-slot slot form o e = x-in-2 (tag_of n) slot tag_fits o.in-bundle (x-unit form (unit_at n slot) e o.fit)

  x-alone : (slot : ℕ) (form : Form) (slot' : ℕ) (form' : Form) → Has slot form → Has slot' form' → form.family ≡ X → slot' ≡ 1 → ⊥
  x-alone slot form slot' form' o o' e one =
      let unit = x-unit form (unit_at n slot) e o.fit in
      let two = ap (unit_at n) (sym (x-slot slot form o e)) ∙ unit in
      let l = ap (unit_at n) one ∙ x-beside-l (tag_of n) tag_fits two in
      fits-l form' (sym (ap (fits form') l) ∙ o'.fit) o'.some

  -- the forms of two slots don't meet
  module _ (slot : ℕ) (form : Form) (slot' : ℕ) (form' : Form) (o : Has slot form) (o' : Has slot' form') (d : slot ≡ slot' → ⊥) where
    pub forms-apart : T (meet_not (placed slot' (row_of form').parts) (placed slot (row_of form).parts))
    forms-apart =
        other-words (eqb form.family X) (eqb form'.family X) slot slot' (row_of form).parts
        (in-words form (row_of form) (row-good form) o.some)
        (words-apart slot' slot (λ e. d (sym e)))
        (λ t. words-apart slot' 1 (x-alone slot form slot' form' o o' (eqb→eq form.family X t)))
        (λ t. words-apart 1 slot (λ e. x-alone slot' form' slot form o' o (eqb→eq form'.family X t) (sym e)))
        (λ t u. d (x-slot slot form o (eqb→eq form.family X t) ∙ sym (x-slot slot' form' o' (eqb→eq form'.family X u))))
        (row_of form').parts (in-words form' (row_of form') (row-good form') o'.some)
