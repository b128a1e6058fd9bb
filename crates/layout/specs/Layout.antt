-- The layout of a file, as a text: a first line with how the file is read and the count of its windows that have a sheet, and a line with
-- the address of each. Assumes nothing.
use Rattle.std.specs.Prelude.{ℕ, Bool, ◌&&◌, List, [], ◌∷◌, ◌++◌, eqb, length}
use Rattle.table.specs.Ascii.{ascii}
use Rattle.text.specs.Ascii.{newline}
use Rattle.text.specs.Fields.{fields}
use Rattle.layout.specs.declared.Reading.{Reading}

-- what a layout has: how the file is read, and the windows that have a sheet
pub record Layout : Type 0 where
  pub reading : Reading
  pub windows : List ℕ

-- how the first line begins, and the bytes that end its numbers
abbrev pub start : List ℕ
start = ascii "layout\t"

abbrev pub head_ends : List ℕ
head_ends = ascii "\t\t\t\t\n"

-- the numbers of the first line
abbrev pub numbers_of : Reading → ℕ → List ℕ
numbers_of r count = r.kind ∷ r.base ∷ r.offset ∷ r.length ∷ count ∷ []

abbrev pub first_line : Reading → ℕ → List ℕ
first_line r count = start ++ fields (numbers_of r count) head_ends

-- a window's line
abbrev pub line_of : ℕ → List ℕ
line_of w = fields (w ∷ []) (newline ∷ [])

abbrev pub lines_of : List ℕ → List ℕ
lines_of [] = []
lines_of (w ∷ ws) = line_of w ++ lines_of ws

-- the text
unfoldable pub layout_of : Layout → List ℕ
layout_of l = first_line l.reading (length l.windows) ++ lines_of l.windows

-- whether a file is read the same way
abbrev pub same_reading : Reading → Reading → Bool
same_reading a b = eqb a.kind b.kind && eqb a.base b.base && eqb a.offset b.offset && eqb a.length b.length
