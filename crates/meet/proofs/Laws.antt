-- What asking comes to, case by case, and what an edit has that has bits: none of its refusals applies, so its slot is one of three, and
-- its row's parts can be read. Assumes nothing.
use mathlib.Core.Path.{◌≡◌, refl, sym, ap, ◌∙◌}
use mathlib.Core.Bool.{false}
use mathlib.Core.List.{◌++◌}
use Prim.Native.Nat.{◌<◌, suc-le-suc}
use borrow.Author.Tests.{ltb-false}
use lib.Dec.{T}
use Rattle.answer.specs.Answer.{first, accepted}
use Rattle.answer.proofs.Laws.{none-applies, first_on, first-stop, accepts, refuses, answered}
use Rattle.form.specs.declared.Edit.{Edit}
use Rattle.parts.specs.Placed.{readable}
use Rattle.row.specs.Row.{row_of}
use Rattle.row.proofs.Rows.{row-good, good-has}
use Rattle.meet.specs.Meet.{bits_refusals, meets, Met, no_meeting, meet_of}

module _ (one other : Edit) where
  -- the first of the two has no bits
  pub first-refused : (first (bits_refusals one) ≡ accepted → ⊥) → no_meeting (first (bits_refusals one)) ≡ meet_of one other
  unfolding meet_of
  first-refused d = let e = first-stop (bits_refusals one) (bits_refusals other) d in ap no_meeting (sym e) ∙ sym (refuses _ _ _ (λ q. d (sym e ∙ q)))

  module _ (has : first (bits_refusals one) ≡ accepted) where
    -- or the second
    pub second-refused : (first (bits_refusals other) ≡ accepted → ⊥) → no_meeting (first (bits_refusals other)) ≡ meet_of one other
    unfolding meet_of
    second-refused d = let e = first_on (bits_refusals one) (bits_refusals other) tt has in ap no_meeting (sym e) ∙ sym (refuses _ _ _ (λ q. d (sym e ∙ q)))

    -- or both have
    pub both-asked : first (bits_refusals other) ≡ accepted → meet_of one other ≡ record { answer = accepted; meet = meets one other }
    unfolding meet_of
    both-asked q = accepts _ _ _ (first_on (bits_refusals one) (bits_refusals other) tt has ∙ q)

  -- an answer of 0 and no meeting says that the two have no bit in common
  pub apart-told : meet_of one other ≡ record { answer = accepted; meet = false } → meets one other ≡ false
  unfolding meet_of
  apart-told q =
      let a = first (bits_refusals one ++ bits_refusals other) in
      let both = sym (answered (λ (m : Met). m.answer) a _ _ refl refl) ∙ ap (λ (m : Met). m.answer) q in
      ap (λ (m : Met). m.meet) (sym (accepts {A = Met} a _ _ both) ∙ q)

-- an edit that has bits
pub record HasBits (e : Edit) : Type 0 where
  pub in-bundle : e.slot < 3
  pub reads : T (readable (row_of e.form).parts)

pub has-bits : (e : Edit) → first (bits_refusals e) ≡ accepted → HasBits e
has-bits e a =
    let none = none-applies (bits_refusals e) tt a in
    record {
      in-bundle = suc-le-suc (ltb-false 2 e.slot none.1.0);
      reads = (good-has e.form.family (row_of e.form) (row-good e.form) none.0).reads;
    }
