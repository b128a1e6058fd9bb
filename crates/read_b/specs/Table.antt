-- The operands of the B forms, in 000's order of its arms: the last-written position, and for each operand what it is and
-- from which bits. 000 decides every line, also where the manual has another. Assumes nothing.
use Rattle.std.specs.Prelude.{[], ◌∷◌}
use Rattle.operand.specs.declared.Operand.TheVariants.{None}
use Rattle.reading.specs.Line.{◌‥◌, br, u64, i64, s64×16, is, Forms, ◌⇒◌, no-dest}

abbrev pub b_forms : Forms
b_forms =
    1 ⇒ no-dest (s64×16 (13 ‥ 33 ∷ []) 36 ∷ u64 (12 ‥ 13 ∷ []) ∷ u64 (33 ‥ 35 ∷ []) ∷ u64 (35 ‥ 36 ∷ []) ∷ [])
    ∷ 2 ⇒ no-dest (s64×16 (13 ‥ 33 ∷ []) 36 ∷ u64 (12 ‥ 13 ∷ []) ∷ u64 (33 ‥ 35 ∷ []) ∷ u64 (35 ‥ 36 ∷ []) ∷ [])
    ∷ 3 ⇒ no-dest (br (6 ‥ 9) ∷ s64×16 (13 ‥ 33 ∷ []) 36 ∷ u64 (12 ‥ 13 ∷ []) ∷ u64 (33 ‥ 35 ∷ []) ∷ u64 (35 ‥ 36 ∷ []) ∷ [])
    ∷ 4 ⇒ no-dest (br (13 ‥ 16) ∷ u64 (12 ‥ 13 ∷ []) ∷ u64 (33 ‥ 35 ∷ []) ∷ u64 (35 ‥ 36 ∷ []) ∷ [])
    ∷ 5 ⇒ no-dest (br (6 ‥ 9) ∷ br (13 ‥ 16) ∷ u64 (12 ‥ 13 ∷ []) ∷ u64 (33 ‥ 35 ∷ []) ∷ u64 (35 ‥ 36 ∷ []) ∷ [])
    ∷ 6 ⇒ no-dest (i64 (13 ‥ 33 ∷ 36 ‥ 37 ∷ []) ∷ u64 (6 ‥ 13 ∷ 33 ‥ 35 ∷ []) ∷ u64 (33 ‥ 35 ∷ []) ∷ u64 (3 ‥ 5 ∷ []) ∷ [])
    ∷ 7 ⇒ no-dest (br (13 ‥ 16) ∷ u64 (6 ‥ 13 ∷ 33 ‥ 35 ∷ []) ∷ u64 (35 ‥ 36 ∷ []) ∷ u64 (3 ‥ 5 ∷ []) ∷ [])
    ∷ 8 ⇒ no-dest (is None ∷ [])
    ∷ 9 ⇒ no-dest (u64 (6 ‥ 26 ∷ 20 ‥ 21 ∷ []) ∷ [])
    ∷ []
