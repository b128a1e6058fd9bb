-- The operands of the A forms, in 000's order of its arms: the last-written position, and for each operand what it is and
-- from which bits. 000 decides every line, also where the manual has another. Assumes nothing.
use Rattle.std.specs.Prelude.{[], ◌∷◌}
use Rattle.reading.specs.Line.{◌‥◌, gp, pr, s64, count, gp-is, Forms, ◌⇒◌, dest}

abbrev pub a_forms : Forms
a_forms =
    1 ⇒ dest 0 (gp (6 ‥ 13) ∷ gp (13 ‥ 20) ∷ gp (20 ‥ 27) ∷ [])
    ∷ 9 ⇒ dest 0 (gp (6 ‥ 13) ∷ gp (13 ‥ 20) ∷ gp (20 ‥ 27) ∷ [])
    ∷ 2 ⇒ dest 0 (gp (6 ‥ 13) ∷ gp (13 ‥ 20) ∷ count (27 ‥ 29) ∷ gp (20 ‥ 27) ∷ [])
    ∷ 3 ⇒ dest 0 (gp (6 ‥ 13) ∷ s64 (13 ‥ 20 ∷ []) 36 ∷ gp (20 ‥ 27) ∷ [])
    ∷ 4 ⇒ dest 0 (gp (6 ‥ 13) ∷ s64 (13 ‥ 20 ∷ 27 ‥ 33 ∷ []) 36 ∷ gp (20 ‥ 27) ∷ [])
    ∷ 5 ⇒ dest 0 (gp (6 ‥ 13) ∷ s64 (13 ‥ 20 ∷ 27 ‥ 36 ∷ 22 ‥ 27 ∷ []) 36 ∷ gp (20 ‥ 22) ∷ [])
    ∷ 6 ⇒ dest 1 (pr (6 ‥ 12) ∷ pr (27 ‥ 33) ∷ gp (13 ‥ 20) ∷ gp (20 ‥ 27) ∷ [])
    ∷ 7 ⇒ dest 1 (pr (6 ‥ 12) ∷ pr (27 ‥ 33) ∷ gp-is 0 ∷ gp (20 ‥ 27) ∷ [])
    ∷ 8 ⇒ dest 1 (pr (6 ‥ 12) ∷ pr (27 ‥ 33) ∷ s64 (13 ‥ 20 ∷ []) 36 ∷ gp (20 ‥ 27) ∷ [])
    ∷ 10 ⇒ dest 0 (gp (6 ‥ 13) ∷ gp (13 ‥ 20) ∷ gp (20 ‥ 27) ∷ count (27 ‥ 29) ∷ [])
    ∷ []
