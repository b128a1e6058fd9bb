-- A good row that fits a slot of a bundle is sound there: an X form stands in slot 2 alone, since no template has an X elsewhere. Assumes nothing.
use Rattle.std.proofs.Common.{◌≡◌, ℕ, zero, suc, ◌<◌, Bool, true, false, cond, not, ◌&&◌, T, eqb, get_or, sym, refl, ap, ◌∙◌, subst, arith, eqb→eq, eq-eqb, eqb-true}
use mir.Facts.{and_yes, eqb_no}
use Rattle.bits.proofs.Laws.{part-lt}
use Rattle.table.proofs.Check.{checked}
use Rattle.bundle.specs.Template.{unit_l, units_of}
use Rattle.form.specs.Form.{X}
use Rattle.bundle.specs.Bundle.{tag_of, unit_at}
use Rattle.form.specs.declared.Form.{Form}
use Rattle.parts.specs.Placed.{in_words}
use Rattle.row.specs.Row.{Row, is_none}
use Rattle.row.proofs.Rows.{good, good-has, separate_in}
use Rattle.immediate.specs.inner.Sound.{Sound}
use Rattle.immediate.specs.Immediate.{fits}

-- no X in slots 0 and 1
abbrev no_x : ℕ → Bool
no_x tag = not (eqb (get_or (units_of tag) 0 0) X) && not (eqb (get_or (units_of tag) 1 0) X)

pub x-in-2 : (tag slot : ℕ) → tag < 32 → slot < 3 → get_or (units_of tag) slot 0 ≡ X → slot ≡ 2
unfolding units_of
x-in-2 tag zero t h e = absurd (eqb_no (and_yes (not (eqb (get_or (units_of tag) 0 0) X)) (not (eqb (get_or (units_of tag) 1 0) X)) (checked no_x 32 tt tag t)).0 e)
x-in-2 tag (suc zero) t h e = absurd (eqb_no (and_yes (not (eqb (get_or (units_of tag) 0 0) X)) (not (eqb (get_or (units_of tag) 1 0) X)) (checked no_x 32 tt tag t)).1 e)
x-in-2 tag (suc (suc zero)) t h e = refl
x-in-2 tag (suc (suc (suc slot))) t h e = absurd (let g : suc (suc (suc slot)) < 3 = h in omega arith)

-- beside an X stands an L
abbrev beside_x : ℕ → Bool
beside_x tag = cond (eqb (get_or (units_of tag) 2 0) X) (eqb (get_or (units_of tag) 1 0) unit_l) true

pub x-beside-l : (tag : ℕ) → tag < 32 → get_or (units_of tag) 2 0 ≡ X → get_or (units_of tag) 1 0 ≡ unit_l
unfolding units_of
x-beside-l tag t e = eqb→eq _ _ (subst (λ (b : Bool). T (cond b (eqb (get_or (units_of tag) 1 0) unit_l) true)) (eq-eqb (get_or (units_of tag) 2 0) X e) (checked beside_x 32 tt tag t))

three : (P : ℕ → Bool) (slot : ℕ) → slot < 3 → T (P 0 && (P 1 && P 2)) → T (P slot)
three P zero h t = (and_yes (P 0) (P 1 && P 2) t).0
three P (suc zero) h t = (and_yes (P 1) (P 2) (and_yes (P 0) (P 1 && P 2) t).1).0
three P (suc (suc zero)) h t = (and_yes (P 1) (P 2) (and_yes (P 0) (P 1 && P 2) t).1).1
three P (suc (suc (suc slot))) h t = absurd (let g : suc (suc (suc slot)) < 3 = h in omega arith)

-- an X form fits an X alone
pub x-unit : (form : Form) (unit : ℕ) → form.family ≡ X → fits form unit ≡ true → unit ≡ X
x-unit form unit e h = sym (eqb→eq X unit (subst T (sym (sym (ap (λ (f : ℕ). fits (record { family = f; number = form.number }) unit) e) ∙ h)) tt))

module _ (form : Form) (row : Row) (g : T (good form.family row)) (some : is_none row ≡ false) where
  -- a row's parts lie in the form's word, and those of an X form in the L slot too
  pub in-words : T (in_words (eqb form.family X) row.parts)
  in-words = (good-has form.family row g some).in-words

  -- a row that fits a slot is sound there
  module _ (n slot : ℕ) (h : slot < 3) (fit : fits form (unit_at n slot) ≡ true) where
    apart : (b : Bool) → eqb form.family X ≡ b → T (cond b (separate_in 2 row) (separate_in 0 row && (separate_in 1 row && separate_in 2 row))) → T (separate_in slot row)
    apart true q t = subst (λ (i : ℕ). T (separate_in i row)) (sym (x-in-2 (tag_of n) slot (part-lt n 0 5) h (x-unit form (unit_at n slot) (eqb-true form.family X q) fit))) t
    apart false q t = three (λ i. separate_in i row) slot h t

    pub sound : Sound slot row
    sound =
        let has = good-has form.family row g some in
        record { in-bundle = h; reads = has.reads; ended = has.ended; apart = apart (eqb form.family X) refl has.separated; fitting = has.fitting }
