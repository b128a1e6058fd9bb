-- A form with a row has a capital letter and a number of at most 48: so has every form of the table, by one computed check. Assumes nothing.
use mathlib.Core.Path.{◌≡◌, refl, subst}
use mathlib.Core.Bool.{Bool, true, false, cond, ◌&&◌}
use mathlib.Core.List.{List, [], ◌∷◌}
use Prim.Native.Nat.{◌≤◌}
use lib.Dec.{T, leb, leb→le}
use lib.Ieee.Fits.{and_l, and_r}
use mir.Facts.{and_yes}
use Rattle.form.specs.declared.Form.{Form}
use Rattle.row.specs.Row.{Line, lines, among, row_in, row_of, is_none}
use Rattle.row.proofs.Among.{all, among-all}

abbrev lettered : Form → Bool
lettered f = leb 65 f.family && (leb f.family 90 && leb f.number 48)

abbrev lines_lettered : List Line → Bool
lines_lettered [] = true
lines_lettered (l ∷ ls) = all lettered l.0 && lines_lettered ls

rows-lettered : (form : Form) (ls : List Line) → T (lines_lettered ls) → is_none (row_in form ls) ≡ false → T (lettered form)
rows-lettered form [] t e = absurd (subst T e tt)
rows-lettered form (l ∷ ls) t e = let both = and_yes (all lettered l.0) (lines_lettered ls) t in by-line (among form l.0) refl both.0 (rows-lettered form ls both.1) e
  where
    by-line : (b : Bool) → among form l.0 ≡ b → T (all lettered l.0) → (is_none (row_in form ls) ≡ false → T (lettered form)) → is_none (cond b l.1 (row_in form ls)) ≡ false → T (lettered form)
    by-line true q h r e = among-all lettered form l.0 h q
    by-line false q h r e = r e

pub row-lettered : (form : Form) → is_none (row_of form) ≡ false → (65 ≤ form.family) × (form.family ≤ 90) × (form.number ≤ 48)
unfolding row_of
row-lettered form some =
    let t : T (lettered form) = rows-lettered form lines tt some in
    search (and_l, and_r, leb→le)
