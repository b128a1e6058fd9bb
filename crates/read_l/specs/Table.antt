-- The operands of the X forms, in 000's order of its arms: the last-written position, and for each operand what it is and
-- from which bits. 000 decides every line, also where the manual has another. Assumes nothing.
use Rattle.std.specs.Prelude.{[], ◌∷◌}
use Rattle.reading.specs.Line.{◌‥◌, ◌‥ᴸ◌, gp, br, u64, Forms, ◌⇒◌, dest, no-dest}

abbrev pub x_forms : Forms
x_forms =
    1 ⇒ no-dest (u64 (6 ‥ 26 ∷ 36 ‥ 37 ∷ 0 ‥ᴸ 41 ∷ []) ∷ [])
    ∷ 2 ⇒ dest 0 (gp (6 ‥ 13) ∷ u64 (13 ‥ 20 ∷ 27 ‥ 36 ∷ 22 ‥ 27 ∷ 21 ‥ 22 ∷ 0 ‥ᴸ 41 ∷ 36 ‥ 37 ∷ []) ∷ [])
    ∷ 3 ⇒ no-dest (u64 (13 ‥ 33 ∷ 36 ‥ 37 ∷ 2 ‥ᴸ 41 ∷ []) ∷ [])
    ∷ 4 ⇒ dest 0 (br (6 ‥ 9) ∷ u64 (13 ‥ 33 ∷ 36 ‥ 37 ∷ 2 ‥ᴸ 41 ∷ []) ∷ [])
    ∷ 5 ⇒ no-dest (u64 (6 ‥ 26 ∷ 36 ‥ 37 ∷ 0 ‥ᴸ 41 ∷ []) ∷ [])
    ∷ []
