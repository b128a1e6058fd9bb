-- How a row lies in the code: no promise to a caller. Assumes nothing.
use Rattle.std.specs.Prelude.{◌≡◌, Bool, false, ℕ, Option, None, Some}
use Rattle.parts.specs.Placed.{width_of}
use Rattle.row.specs.Row.{Row, no_row, is_none}
use Rattle.row.specs.declared.Packed.{Packed}

-- the row that it unpacks to
abbrev pub unpacked : Packed → Row
unpacked p = record { meaning = p.meaning; parts = p.parts.now }

-- what is asked of a row: itself, how many bits it has, and whether it is none
abbrev pub shown : Row → Row × ℕ × Bool
shown row = (row, width_of row.parts, is_none row)

-- it answers the same, and none is where there is no row
abbrev pub Packs : Option Packed → Row → Type 0
Packs None row = row ≡ no_row
Packs (Some p) row = (unpacked p, p.width, false) ≡ shown row
