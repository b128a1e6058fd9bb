-- The operands of the F forms, in 000's order of its arms: the last-written position, and for each operand what it is and
-- from which bits. 000 decides every line, also where the manual has another. Assumes nothing.
use Rattle.std.specs.Prelude.{[], ◌∷◌}
use Rattle.operand.specs.declared.Operand.TheVariants.{None}
use Rattle.reading.specs.Line.{◌‥◌, fp, pr, u64, is, Forms, ◌⇒◌, dest, no-dest}

abbrev pub f_forms : Forms
f_forms =
    1 ⇒ dest 0 (fp (6 ‥ 13) ∷ fp (20 ‥ 27) ∷ fp (27 ‥ 34) ∷ fp (13 ‥ 20) ∷ [])
    ∷ 2 ⇒ dest 0 (fp (6 ‥ 13) ∷ fp (20 ‥ 27) ∷ fp (27 ‥ 34) ∷ fp (13 ‥ 20) ∷ [])
    ∷ 3 ⇒ dest 0 (fp (6 ‥ 13) ∷ fp (20 ‥ 27) ∷ fp (27 ‥ 34) ∷ fp (13 ‥ 20) ∷ [])
    ∷ 4 ⇒ dest 1 (pr (6 ‥ 12) ∷ pr (27 ‥ 33) ∷ fp (13 ‥ 20) ∷ fp (20 ‥ 27) ∷ [])
    ∷ 5 ⇒ dest 1 (pr (6 ‥ 12) ∷ pr (27 ‥ 33) ∷ fp (13 ‥ 20) ∷ u64 (20 ‥ 27 ∷ 33 ‥ 35 ∷ []) ∷ [])
    ∷ 6 ⇒ dest 1 (fp (6 ‥ 13) ∷ pr (27 ‥ 33) ∷ fp (13 ‥ 20) ∷ fp (20 ‥ 27) ∷ [])
    ∷ 7 ⇒ dest 1 (fp (6 ‥ 13) ∷ pr (27 ‥ 33) ∷ fp (20 ‥ 27) ∷ [])
    ∷ 8 ⇒ dest 0 (fp (6 ‥ 13) ∷ fp (13 ‥ 20) ∷ fp (20 ‥ 27) ∷ [])
    ∷ 9 ⇒ dest 0 (fp (6 ‥ 13) ∷ fp (13 ‥ 20) ∷ fp (20 ‥ 27) ∷ [])
    ∷ 10 ⇒ dest 0 (fp (6 ‥ 13) ∷ fp (13 ‥ 20) ∷ [])
    ∷ 11 ⇒ dest 0 (fp (6 ‥ 13) ∷ fp (13 ‥ 20) ∷ [])
    ∷ 12 ⇒ no-dest (u64 (13 ‥ 20 ∷ []) ∷ u64 (20 ‥ 27 ∷ []) ∷ [])
    ∷ 13 ⇒ no-dest (is None ∷ [])
    ∷ 14 ⇒ no-dest (u64 (6 ‥ 26 ∷ 36 ‥ 37 ∷ []) ∷ [])
    ∷ 15 ⇒ no-dest (u64 (6 ‥ 26 ∷ 36 ‥ 37 ∷ []) ∷ [])
    ∷ 16 ⇒ no-dest (u64 (6 ‥ 26 ∷ 36 ‥ 37 ∷ []) ∷ [])
    ∷ []
