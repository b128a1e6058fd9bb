-- What is particular to a row, by one computed check over the whole table: a row's parts lie in the form's word and no two meet, its
-- values are of 64 bits, and only rows of X forms have a part in the L slot.
-- Assumes nothing.
use mathlib.Core.Path.{◌≡◌, refl, sym, ap, ◌∙◌, subst}
use mathlib.Core.Bool.{Bool, true, false, cond, not, ◌&&◌, ◌||◌}
use mathlib.Core.List.{List, [], ◌∷◌}
use Prim.Native.Nat.{ℕ, ◌+◌, ◌-◌, ◌*◌, ◌<◌, ◌^◌}
use borrow.Author.Tests.{eqb-true, eq-eqb}
use lib.Dec.{T, eqb, leb, ltb, leb→le, ltb→lt, eqb→eq}
use lib.ListN.{length, get_or, drop}
use lib.Ieee.Fits.{and_l, and_r}
use mir.Facts.{and_yes}
use Rattle.bits.specs.Parts.{separate}
use Rattle.form.specs.Form.{X, same_form}
use Rattle.form.specs.declared.Form.{Form}
use Rattle.parts.specs.Placed.{no_part, placed, width_of, in_words, readable}
use Rattle.parts.specs.inner.Standing.{Ended}
use Rattle.parts.specs.declared.Part.{Part}
use Rattle.row.specs.Row.{Row, Line, lines, among, row_in, row_of, no_row, is_none, only_times16, target_row_of}
use Rattle.table.proofs.Check.{below, checked}
use Rattle.meaning.specs.inner.Fits.{Fitting}
use Rattle.meaning.specs.Meaning.{entry}
use Rattle.meaning.specs.declared.Meaning.{Meaning}
use Rattle.meaning.specs.declared.Meaning.TheVariants.{None, Unsigned, Signed, Chosen, Complement}

-- no two of the first n numbers of a list are the same
abbrev differ : ℕ → ℕ → Bool
differ list n = below (λ k. below (λ j. not (eqb (entry list j) (entry list k))) k) n

differing : (list n : ℕ) → T (differ list n) → (j k : ℕ) → j < k → k < n → entry list j ≡ entry list k → ⊥
differing list n t j k h l e = subst (λ (b : Bool). T (not b)) (eq-eqb (entry list j) (entry list k) e) (checked _ k (checked _ n t k l) j h)

-- every value of w bits is one of 64, and has one raw number
abbrev meant : Meaning → ℕ → Bool
meant None w = true
meant (Unsigned plus) w = leb 1 w && (leb w 64 && leb (plus + 2 ^ w) (2 ^ 64))
meant (Signed unit) w = leb 1 w && (ltb w 64 && (leb 1 unit && leb (unit * 2 ^ (w - 1)) (2 ^ 63)))
meant (Chosen signed list) w = leb w 3 && differ list (2 ^ w)
meant (Complement top) w = leb 1 w && (leb w 64 && (leb (2 ^ w) (top + 1) && ltb top (2 ^ 64)))

fits : (m : Meaning) (w : ℕ) → T (meant m w) → Fitting m w
fits None w t = tt
fits (Unsigned plus) w t = search (and_l, and_r, leb→le)
fits (Signed unit) w t = search (and_l, and_r, leb→le, ltb→lt)
fits (Chosen signed list) w t = let a = and_yes (leb w 3) (differ list (2 ^ w)) t in (leb→le _ _ a.0, differing list (2 ^ w) a.1)
fits (Complement top) w t = search (and_l, and_r, leb→le, ltb→lt)

-- after a part of no width none has one
abbrev ended_at : List Part → ℕ → Bool
ended_at ps i = cond (eqb (get_or ps i no_part).width 0) (eqb (width_of (drop i ps)) 0) true

ends : (ps : List Part) → T (below (ended_at ps) (length ps)) → Ended ps
ends ps t i h none = eqb→eq _ _ (rw (eq-eqb _ 0 none) at (checked (ended_at ps) (length ps) t i h))

-- no two of its parts meet, in any slot that it can stand in: an X form's in slot 2 alone
abbrev pub separate_in : ℕ → Row → Bool
separate_in slot row = separate (placed slot row.parts)

abbrev apart : ℕ → Row → Bool
apart family row = cond (eqb family X) (separate_in 2 row) (separate_in 0 row && (separate_in 1 row && separate_in 2 row))

-- all that is asked of a row
abbrev whole : ℕ → Row → Bool
whole family row =
    readable row.parts
    && (below (ended_at row.parts) (length row.parts) && (meant row.meaning (width_of row.parts) && (apart family row && in_words (eqb family X) row.parts)))

abbrev pub good : ℕ → Row → Bool
good family row = cond (is_none row) true (whole family row)

-- what a good row has
pub record Good (family : ℕ) (row : Row) : Type 0 where
  pub reads : T (readable row.parts)
  pub ended : Ended row.parts
  pub fitting : Fitting row.meaning (width_of row.parts)
  pub separated : T (cond (eqb family X) (separate_in 2 row) (separate_in 0 row && (separate_in 1 row && separate_in 2 row)))
  pub in-words : T (in_words (eqb family X) row.parts)

pub good-has : (family : ℕ) (row : Row) → T (good family row) → is_none row ≡ false → Good family row
good-has family row g some =
    let t : T (whole family row) = subst (λ (b : Bool). T (cond b true (whole family row))) some g in
    record {
      reads = search (and_l, and_r);
      ended = ends row.parts (search (and_l, and_r));
      fitting = fits row.meaning (width_of row.parts) (search (and_l, and_r));
      separated = search (and_l, and_r);
      in-words = search (and_l, and_r);
    }

-- every form of every line has a good row
abbrev good_for : List Form → Row → Bool
good_for [] row = true
good_for (g ∷ gs) row = good g.family row && good_for gs row

abbrev all_good : List Line → Bool
all_good [] = true
all_good (l ∷ ls) = good_for l.0 l.1 && all_good ls

-- so a form that a line has does
among-good : (form : Form) (gs : List Form) (row other : Row) → T (good_for gs row) → T (good form.family other) → T (good form.family (cond (among form gs) row other))
among-good form [] row other t o = o
among-good form (g ∷ gs) row other t o = let both = and_yes (good g.family row) (good_for gs row) t in by-same (same_form form g) refl both.0 (among-good form gs row other both.1 o)
  where
    by-same : (b : Bool) → same_form form g ≡ b → T (good g.family row) → T (good form.family (cond (among form gs) row other)) → T (good form.family (cond (b || among form gs) row other))
    by-same true q h r = subst (λ (family : ℕ). T (good family row)) (sym (eqb→eq form.family g.family (and_yes (eqb form.family g.family) (eqb form.number g.number) (subst T (sym q) tt)).0)) h
    by-same false q h r = r

rows-good : (form : Form) (ls : List Line) → T (all_good ls) → T (good form.family (row_in form ls))
rows-good form [] t = tt
rows-good form (l ∷ ls) t =
    let both = and_yes (good_for l.0 l.1) (all_good ls) t in
    among-good form l.0 l.1 (row_in form ls) both.0 (rows-good form ls both.1)

-- the check
pub row-good : (form : Form) → T (good form.family (row_of form))
unfolding row_of
row-good form = rows-good form lines tt

-- how many forms have a row
abbrev forms_in : List Line → ℕ
forms_in [] = 0
forms_in (l ∷ ls) = length l.0 + forms_in ls

pub rows-in-all : forms_in lines ≡ 45
unfolding lines
rows-in-all = refl

-- a row whose values are times 16 is the form's own row
pub target-good : (form : Form) → T (good form.family (target_row_of form))
target-good form = by-meaning (row_of form).meaning
  where
    by-meaning : (m : Meaning) → T (good form.family (only_times16 m (row_of form)))
    by-meaning None = tt
    by-meaning (Unsigned plus) = tt
    by-meaning (Signed unit) = elim (eqb unit 16) as (λ b. T (good form.family (cond b (row_of form) no_row))) [ true ↦ row-good form | false ↦ tt ]
    by-meaning (Chosen signed list) = tt
    by-meaning (Complement top) = tt

pub target-16 : (form : Form) → is_none (target_row_of form) ≡ false → (target_row_of form).meaning ≡ Signed 16
target-16 form some = by-meaning (row_of form).meaning refl some
  where
    by-unit : (unit : ℕ) (b : Bool) → eqb unit 16 ≡ b → (row_of form).meaning ≡ Signed unit → is_none (cond b (row_of form) no_row) ≡ false → (cond b (row_of form) no_row).meaning ≡ Signed 16
    by-unit unit true q e s = e ∙ ap Signed (eqb-true unit 16 q)
    by-unit unit false q e s = absurd (subst T s tt)

    by-meaning : (m : Meaning) → (row_of form).meaning ≡ m → is_none (only_times16 m (row_of form)) ≡ false → (only_times16 m (row_of form)).meaning ≡ Signed 16
    by-meaning None e s = absurd (subst T s tt)
    by-meaning (Unsigned plus) e s = absurd (subst T s tt)
    by-meaning (Signed unit) e s = by-unit unit (eqb unit 16) refl e s
    by-meaning (Chosen signed list) e s = absurd (subst T s tt)
    by-meaning (Complement top) e s = absurd (subst T s tt)

pub target-own : (form : Form) → is_none (target_row_of form) ≡ false → target_row_of form ≡ row_of form
target-own form some = by-meaning (row_of form).meaning some
  where
    by-unit : (b : Bool) → is_none (cond b (row_of form) no_row) ≡ false → cond b (row_of form) no_row ≡ row_of form
    by-unit true s = refl
    by-unit false s = absurd (subst T s tt)

    by-meaning : (m : Meaning) → is_none (only_times16 m (row_of form)) ≡ false → only_times16 m (row_of form) ≡ row_of form
    by-meaning None s = absurd (subst T s tt)
    by-meaning (Unsigned plus) s = absurd (subst T s tt)
    by-meaning (Signed unit) s = by-unit (eqb unit 16) s
    by-meaning (Chosen signed list) s = absurd (subst T s tt)
    by-meaning (Complement top) s = absurd (subst T s tt)
