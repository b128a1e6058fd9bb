-- The manual's templates: the units of a bundle's three slots and the stops after them, by its tag. Assumes nothing.
use Rattle.std.specs.Prelude.{ℕ, Bool, false, cond, List, [], ◌∷◌, ◌++◌, eqb, get_or}
use Rattle.table.specs.Ascii.{ascii}
use Rattle.table.specs.Table.{select}
use Rattle.bundle.specs.declared.template.Template.{Template}

-- a unit is its letter's byte; this one is no form's family
abbrev pub unit_l : ℕ
unit_l = 76

-- no units, no stops
abbrev pub no_units : List ℕ
no_units = 0 ∷ 0 ∷ 0 ∷ []

abbrev pub no_stops : List Bool
no_stops = false ∷ false ∷ false ∷ []

abbrev pub unitless : List ℕ → Bool
unitless units = eqb (get_or units 0 0) 0

-- the manual's table, a line a tag: the units' letters, and `;` after each that a stop follows
abbrev pub templates : List (ℕ × List ℕ)
templates =
    (0, ascii "MII")
    ∷ (1, ascii "MII;")
    ∷ (2, ascii "MI;I")
    ∷ (3, ascii "MI;I;")
    ∷ (4, ascii "MLX")
    ∷ (5, ascii "MLX;")
    ∷ (8, ascii "MMI")
    ∷ (9, ascii "MMI;")
    ∷ (10, ascii "M;MI")
    ∷ (11, ascii "M;MI;")
    ∷ (12, ascii "MFI")
    ∷ (13, ascii "MFI;")
    ∷ (14, ascii "MMF")
    ∷ (15, ascii "MMF;")
    ∷ (16, ascii "MIB")
    ∷ (17, ascii "MIB;")
    ∷ (18, ascii "MBB")
    ∷ (19, ascii "MBB;")
    ∷ (22, ascii "BBB")
    ∷ (23, ascii "BBB;")
    ∷ (24, ascii "MMB")
    ∷ (25, ascii "MMB;")
    ∷ (28, ascii "MFB")
    ∷ (29, ascii "MFB;")
    ∷ []

-- the byte of `;`
abbrev pub stop : ℕ
stop = 59

-- the units of a line, and after which of them a stop stands
abbrev pub units_in_line : List ℕ → List ℕ
units_in_line [] = []
units_in_line (c ∷ cs) = cond (eqb c stop) (units_in_line cs) (c ∷ units_in_line cs)

abbrev pub stops_in_line : List ℕ → List Bool
stops_in_line [] = []
stops_in_line (c ∷ cs) = cond (eqb c stop) (stops_in_line cs) (eqb (get_or cs 0 0) stop ∷ stops_in_line cs)

-- the units and the stops of a tag
unfoldable pub units_of : ℕ → List ℕ
units_of tag = units_in_line (select tag templates no_units)

unfoldable pub stops_of : ℕ → List Bool
stops_of tag = stops_in_line (select tag templates no_units)

-- a tag without units
abbrev pub reserved : ℕ → Bool
reserved tag = unitless (units_of tag)

-- the template of a tag, of a reserved one, and of no bundle at all
abbrev pub template_of : ℕ → Template
template_of tag = record { tag = tag; units = units_of tag; stops = stops_of tag }

abbrev pub reserved_template : ℕ → Template
reserved_template tag = record { tag = tag; units = no_units; stops = no_stops }

abbrev pub no_template : Template
no_template = reserved_template 0

-- a unit's letter, and `;` after it where a stop follows
abbrev pub marked : ℕ → Bool → List ℕ
marked unit stops = unit ∷ cond stops (stop ∷ []) []

-- a template's units, so marked: the manual's line of its tag
unfoldable pub marked_units : Template → List ℕ
marked_units t =
    marked (get_or t.units 0 0) (get_or t.stops 0 false)
    ++ marked (get_or t.units 1 0) (get_or t.stops 1 false)
    ++ marked (get_or t.units 2 0) (get_or t.stops 2 false)
