-- The operands of the I forms, in 000's order of its arms: the last-written position, and for each operand what it is and
-- from which bits. 000 decides every line, also where the manual has another. Assumes nothing.
use Rattle.std.specs.Prelude.{ℕ, List, [], ◌∷◌, ◌++◌}
use Rattle.operand.specs.declared.Operand.{Operand}
use Rattle.operand.specs.declared.Operand.TheVariants.{None, PR, IP}
use Rattle.operand.specs.declared.Reading.{Reading}
use Rattle.reading.specs.Line.{◌‥◌, gp, pr, br, ar, u64, s64, extended, count, cpos, is, by, Of, Forms, ◌⇒◌, dest, no-dest}

-- I1 to I15
abbrev pub i_forms1 : Forms
i_forms1 =
    1 ⇒ dest 0 (gp (6 ‥ 13) ∷ gp (13 ‥ 20) ∷ gp (20 ‥ 27) ∷ u64 (30 ‥ 32 ∷ []) ∷ [])
    ∷ 2 ⇒ dest 0 (gp (6 ‥ 13) ∷ gp (13 ‥ 20) ∷ gp (20 ‥ 27) ∷ [])
    ∷ 7 ⇒ dest 0 (gp (6 ‥ 13) ∷ gp (13 ‥ 20) ∷ gp (20 ‥ 27) ∷ [])
    ∷ 3 ⇒ dest 0 (gp (6 ‥ 13) ∷ gp (13 ‥ 20) ∷ u64 (20 ‥ 24 ∷ []) ∷ [])
    ∷ 4 ⇒ dest 0 (gp (6 ‥ 13) ∷ gp (13 ‥ 20) ∷ u64 (20 ‥ 28 ∷ []) ∷ [])
    ∷ 5 ⇒ dest 0 (gp (6 ‥ 13) ∷ gp (20 ‥ 27) ∷ gp (13 ‥ 20) ∷ [])
    ∷ 6 ⇒ dest 0 (gp (6 ‥ 13) ∷ gp (20 ‥ 27) ∷ u64 (14 ‥ 19 ∷ []) ∷ [])
    ∷ 8 ⇒ dest 0 (gp (6 ‥ 13) ∷ gp (13 ‥ 20) ∷ u64 (20 ‥ 25 ∷ []) ∷ [])
    ∷ 9 ⇒ dest 0 (gp (6 ‥ 13) ∷ gp (20 ‥ 27) ∷ [])
    ∷ 10 ⇒ dest 0 (gp (6 ‥ 13) ∷ gp (13 ‥ 20) ∷ gp (20 ‥ 27) ∷ u64 (27 ‥ 33 ∷ []) ∷ [])
    ∷ 11 ⇒ dest 0 (gp (6 ‥ 13) ∷ gp (20 ‥ 27) ∷ u64 (14 ‥ 20 ∷ []) ∷ count (27 ‥ 33) ∷ [])
    ∷ 12 ⇒ dest 0 (gp (6 ‥ 13) ∷ gp (13 ‥ 20) ∷ cpos (20 ‥ 26) ∷ count (27 ‥ 33) ∷ [])
    ∷ 13 ⇒ dest 0 (gp (6 ‥ 13) ∷ extended (13 ‥ 20 ∷ []) 36 ∷ cpos (20 ‥ 26) ∷ count (27 ‥ 33) ∷ [])
    ∷ 14 ⇒ dest 0 (gp (6 ‥ 13) ∷ u64 (36 ‥ 37 ∷ []) ∷ gp (20 ‥ 27) ∷ cpos (14 ‥ 20) ∷ count (27 ‥ 33) ∷ [])
    ∷ 15 ⇒ dest 0 (gp (6 ‥ 13) ∷ gp (13 ‥ 20) ∷ gp (20 ‥ 27) ∷ cpos (31 ‥ 37) ∷ count (27 ‥ 31) ∷ [])
    ∷ []

-- I25 with the operand that x6 decides
abbrev pub i25 : Operand → Of Reading
i25 source = dest 0 (gp (6 ‥ 13) ∷ is source ∷ [])

-- that operand by x6
abbrev pub source25 : List (ℕ × Operand)
source25 = 0x30 ⇒ IP ∷ 0x33 ⇒ PR ∷ []

-- I16 to I30
abbrev pub i_forms16 : Forms
i_forms16 =
    16 ⇒ dest 1 (pr (6 ‥ 12) ∷ pr (27 ‥ 33) ∷ gp (20 ‥ 27) ∷ u64 (14 ‥ 20 ∷ []) ∷ [])
    ∷ 17 ⇒ dest 1 (pr (6 ‥ 12) ∷ pr (27 ‥ 33) ∷ gp (20 ‥ 27) ∷ [])
    ∷ 18 ⇒ no-dest (u64 (6 ‥ 26 ∷ 36 ‥ 37 ∷ []) ∷ [])
    ∷ 19 ⇒ no-dest (u64 (6 ‥ 26 ∷ 36 ‥ 37 ∷ []) ∷ [])
    ∷ 20 ⇒ no-dest (pr (6 ‥ 12) ∷ pr (27 ‥ 33) ∷ gp (20 ‥ 27) ∷ [])
    ∷ 21 ⇒ dest 0 (br (6 ‥ 9) ∷ gp (13 ‥ 20) ∷ u64 (24 ‥ 33 ∷ []) ∷ u64 (23 ‥ 24 ∷ []) ∷ u64 (20 ‥ 22 ∷ []) ∷ [])
    ∷ 22 ⇒ dest 0 (gp (6 ‥ 13) ∷ br (13 ‥ 16) ∷ [])
    ∷ 23 ⇒ dest 0 (is PR ∷ gp (13 ‥ 20) ∷ u64 (6 ‥ 13 ∷ 24 ‥ 32 ∷ []) ∷ [])
    ∷ 24 ⇒ dest 0 (is PR ∷ extended (6 ‥ 33 ∷ []) 36 ∷ [])
    ∷ 25 ⇒ by (27 ‥ 33) source25 i25 (i25 None)
    ∷ 26 ⇒ dest 0 (ar (20 ‥ 27) ∷ gp (13 ‥ 20) ∷ [])
    ∷ 27 ⇒ dest 0 (ar (20 ‥ 27) ∷ s64 (13 ‥ 20 ∷ []) 36 ∷ [])
    ∷ 28 ⇒ dest 0 (gp (6 ‥ 13) ∷ ar (20 ‥ 27) ∷ [])
    ∷ 29 ⇒ dest 0 (gp (6 ‥ 13) ∷ gp (20 ‥ 27) ∷ [])
    ∷ 30 ⇒ dest 1 (pr (6 ‥ 13) ∷ pr (27 ‥ 33) ∷ u64 (14 ‥ 19 ∷ []) ∷ [])
    ∷ []

abbrev pub i_forms : Forms
i_forms = i_forms1 ++ i_forms16
