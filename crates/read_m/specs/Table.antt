-- The operands of the M forms, in 000's order of its arms: the last-written position, and for each operand what it is and
-- from which bits. 000 decides every line, also where the manual has another. Assumes nothing.
use Rattle.std.specs.Prelude.{ℕ, List, [], ◌∷◌, ◌++◌}
use Rattle.operand.specs.declared.Operand.{Operand}
use Rattle.operand.specs.declared.Operand.TheVariants.{None, PSR, PSR_l, PSR_um}
use Rattle.operand.specs.declared.IndirectionReg.{IndirectionReg}
use Rattle.operand.specs.declared.IndirectionReg.TheVariants.{Cpuid, Dbr, Dtr, Ibr, Itr, Msr, Pkr, Pmc, Pmd, Rr}
use Rattle.operand.specs.declared.Reading.{Reading}
use Rattle.reading.specs.Line.{◌‥◌, gp, fp, ar, cr, mem, ind, u64, i64, s64, size, is, ar-is, by, Of, Forms, ◌⇒◌, dest, no-dest}

-- M1 to M16
abbrev pub m_forms1 : Forms
m_forms1 =
    1 ⇒ dest 0 (gp (6 ‥ 13) ∷ mem (20 ‥ 27) ∷ [])
    ∷ 2 ⇒ dest 0 (gp (6 ‥ 13) ∷ mem (20 ‥ 27) ∷ gp (13 ‥ 20) ∷ [])
    ∷ 16 ⇒ dest 0 (gp (6 ‥ 13) ∷ mem (20 ‥ 27) ∷ gp (13 ‥ 20) ∷ [])
    ∷ 3 ⇒ dest 0 (gp (6 ‥ 13) ∷ mem (20 ‥ 27) ∷ s64 (13 ‥ 20 ∷ 27 ‥ 28 ∷ []) 36 ∷ [])
    ∷ 4 ⇒ dest 0 (mem (20 ‥ 27) ∷ gp (13 ‥ 20) ∷ [])
    ∷ 5 ⇒ dest 0 (mem (20 ‥ 27) ∷ gp (13 ‥ 20) ∷ s64 (6 ‥ 13 ∷ 27 ‥ 28 ∷ []) 36 ∷ [])
    ∷ 6 ⇒ dest 0 (fp (6 ‥ 13) ∷ mem (20 ‥ 27) ∷ [])
    ∷ 7 ⇒ dest 0 (fp (6 ‥ 13) ∷ mem (20 ‥ 27) ∷ gp (13 ‥ 20) ∷ [])
    ∷ 8 ⇒ dest 0 (fp (6 ‥ 13) ∷ mem (20 ‥ 27) ∷ s64 (13 ‥ 20 ∷ 27 ‥ 28 ∷ []) 36 ∷ [])
    ∷ 9 ⇒ dest 0 (mem (20 ‥ 27) ∷ fp (13 ‥ 20) ∷ [])
    ∷ 10 ⇒ dest 0 (mem (20 ‥ 27) ∷ fp (13 ‥ 20) ∷ s64 (6 ‥ 13 ∷ 27 ‥ 28 ∷ []) 36 ∷ [])
    ∷ 11 ⇒ dest 1 (fp (6 ‥ 13) ∷ fp (13 ‥ 20) ∷ mem (20 ‥ 27) ∷ [])
    ∷ 12 ⇒ dest 1 (fp (6 ‥ 13) ∷ fp (13 ‥ 20) ∷ mem (20 ‥ 27) ∷ size 30 ∷ [])
    ∷ 13 ⇒ no-dest (mem (20 ‥ 27) ∷ [])
    ∷ 14 ⇒ no-dest (mem (20 ‥ 27) ∷ gp (13 ‥ 20) ∷ [])
    ∷ 15 ⇒ no-dest (mem (20 ‥ 27) ∷ i64 (13 ‥ 20 ∷ 27 ‥ 28 ∷ 36 ‥ 37 ∷ []) ∷ [])
    ∷ []

-- M17 to M30, and M47
abbrev pub m_forms17 : Forms
m_forms17 =
    17 ⇒ dest 0 (gp (6 ‥ 13) ∷ mem (20 ‥ 27) ∷ s64 (13 ‥ 15 ∷ []) 15 ∷ [])
    ∷ 18 ⇒ dest 0 (fp (6 ‥ 13) ∷ gp (13 ‥ 20) ∷ [])
    ∷ 19 ⇒ dest 0 (gp (6 ‥ 13) ∷ fp (13 ‥ 20) ∷ [])
    ∷ 20 ⇒ no-dest (gp (13 ‥ 20) ∷ s64 (6 ‥ 13 ∷ 20 ‥ 33 ∷ []) 36 ∷ [])
    ∷ 21 ⇒ no-dest (fp (13 ‥ 20) ∷ s64 (6 ‥ 13 ∷ 20 ‥ 33 ∷ []) 36 ∷ [])
    ∷ 22 ⇒ no-dest (gp (6 ‥ 13) ∷ i64 (13 ‥ 33 ∷ 36 ‥ 37 ∷ []) ∷ [])
    ∷ 23 ⇒ no-dest (fp (6 ‥ 13) ∷ i64 (13 ‥ 33 ∷ 36 ‥ 37 ∷ []) ∷ [])
    ∷ 24 ⇒ no-dest (is None ∷ [])
    ∷ 25 ⇒ no-dest (is None ∷ [])
    ∷ 26 ⇒ no-dest (gp (6 ‥ 13) ∷ [])
    ∷ 27 ⇒ no-dest (fp (6 ‥ 13) ∷ [])
    ∷ 28 ⇒ no-dest (gp (20 ‥ 27) ∷ [])
    ∷ 47 ⇒ no-dest (gp (20 ‥ 27) ∷ [])
    ∷ 29 ⇒ dest 0 (ar (20 ‥ 27) ∷ gp (13 ‥ 20) ∷ [])
    ∷ 30 ⇒ dest 0 (ar (20 ‥ 27) ∷ s64 (13 ‥ 20 ∷ []) 36 ∷ [])
    ∷ []

-- M35, M36, M42, M43 with the operand that x6 decides
abbrev pub m35 : Operand → Of Reading
m35 psr = dest 0 (is psr ∷ gp (13 ‥ 20) ∷ [])

abbrev pub m36 : Operand → Of Reading
m36 psr = dest 0 (gp (6 ‥ 13) ∷ is psr ∷ [])

abbrev pub m42 : IndirectionReg → Of Reading
m42 i = dest 0 (ind i (20 ‥ 27) ∷ gp (13 ‥ 20) ∷ [])

abbrev pub m43 : IndirectionReg → Of Reading
m43 i = dest 0 (gp (6 ‥ 13) ∷ ind i (20 ‥ 27) ∷ [])

-- that operand by x6
abbrev pub psr35 : List (ℕ × Operand)
psr35 = 0x2d ⇒ PSR_l ∷ 0x29 ⇒ PSR_um ∷ []

abbrev pub psr36 : List (ℕ × Operand)
psr36 = 0x25 ⇒ PSR ∷ 0x21 ⇒ PSR_um ∷ []

abbrev pub indirect42 : List (ℕ × IndirectionReg)
indirect42 =
    0x00 ⇒ Rr ∷ 0x01 ⇒ Dbr ∷ 0x02 ⇒ Ibr ∷ 0x03 ⇒ Pkr ∷ 0x04 ⇒ Pmc ∷ 0x05 ⇒ Pmd ∷ 0x06 ⇒ Msr ∷ 0x0e ⇒ Dtr ∷ 0x0f ⇒ Itr ∷ []

abbrev pub indirect43 : List (ℕ × IndirectionReg)
indirect43 =
    0x10 ⇒ Rr ∷ 0x11 ⇒ Dbr ∷ 0x12 ⇒ Ibr ∷ 0x13 ⇒ Pkr ∷ 0x14 ⇒ Pmc ∷ 0x15 ⇒ Pmd ∷ 0x16 ⇒ Msr ∷ 0x17 ⇒ Cpuid ∷ []

-- M31 to M46, and M48
abbrev pub m_forms31 : Forms
m_forms31 =
    31 ⇒ dest 0 (gp (6 ‥ 13) ∷ ar (20 ‥ 27) ∷ [])
    ∷ 32 ⇒ dest 0 (cr (20 ‥ 27) ∷ gp (13 ‥ 20) ∷ [])
    ∷ 33 ⇒ dest 0 (gp (6 ‥ 13) ∷ cr (20 ‥ 27) ∷ [])
    ∷ 34 ⇒ dest 0 (gp (6 ‥ 13) ∷ ar-is 64 ∷ u64 (13 ‥ 20 ∷ []) ∷ u64 (20 ‥ 27 ∷ []) ∷ u64 (27 ‥ 31 ∷ []) ∷ [])
    ∷ 35 ⇒ by (27 ‥ 33) psr35 m35 (m35 None)
    ∷ 36 ⇒ by (27 ‥ 33) psr36 m36 (m36 None)
    ∷ 37 ⇒ no-dest (u64 (6 ‥ 26 ∷ 36 ‥ 37 ∷ []) ∷ [])
    ∷ 48 ⇒ no-dest (u64 (6 ‥ 26 ∷ 36 ‥ 37 ∷ []) ∷ [])
    ∷ 38 ⇒ dest 0 (gp (6 ‥ 13) ∷ gp (20 ‥ 27) ∷ gp (13 ‥ 20) ∷ [])
    ∷ 39 ⇒ dest 0 (gp (6 ‥ 13) ∷ gp (20 ‥ 27) ∷ u64 (13 ‥ 15 ∷ []) ∷ [])
    ∷ 40 ⇒ no-dest (gp (20 ‥ 27) ∷ u64 (13 ‥ 15 ∷ []) ∷ [])
    ∷ 41 ⇒ no-dest (gp (13 ‥ 20) ∷ [])
    ∷ 42 ⇒ by (27 ‥ 33) indirect42 m42 (no-dest (is None ∷ []))
    ∷ 43 ⇒ by (27 ‥ 33) indirect43 m43 (no-dest (is None ∷ []))
    ∷ 44 ⇒ no-dest (u64 (6 ‥ 27 ∷ 31 ‥ 33 ∷ 36 ‥ 37 ∷ []) ∷ [])
    ∷ 45 ⇒ no-dest (gp (20 ‥ 27) ∷ gp (13 ‥ 20) ∷ [])
    ∷ 46 ⇒ dest 0 (gp (6 ‥ 13) ∷ gp (20 ‥ 27) ∷ [])
    ∷ []

abbrev pub m_forms : Forms
m_forms = m_forms1 ++ (m_forms17 ++ m_forms31)
