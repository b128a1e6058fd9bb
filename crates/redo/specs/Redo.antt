-- The redo file, by which a commit is finished after a kill, as a text: a first line with the count of the changed bundles, the window's
-- address and the lengths of the sheet and the layout; a line for each change; the sheet; the layout; and the line `end`. Assumes nothing.
use Rattle.std.specs.Prelude.{ℕ, List, [], ◌∷◌, ◌++◌, length}
use Rattle.table.specs.Ascii.{ascii}
use Rattle.text.specs.Fields.{fields}
use Rattle.redo.specs.declared.Change.{Change}

-- what a redo file has: the window, its changed bundles, its new sheet, and the layout
pub record Redo : Type 0 where
  pub window : ℕ
  pub changes : List Change
  pub sheet : List ℕ
  pub layout : List ℕ

-- the bytes that end the numbers of a change's line, and those of the first line
abbrev pub line_ends : List ℕ
line_ends = ascii "\t\t\t\t\n"

abbrev pub head_ends : List ℕ
head_ends = ascii "\t\t\t\n"

-- how the first line begins, and the last line
abbrev pub start : List ℕ
start = ascii "redo\t"

abbrev pub end_line : List ℕ
end_line = ascii "end\n"

-- the numbers of a change's line: its place in the file, and the bundle's halves before and after
abbrev pub numbers_of : Change → List ℕ
numbers_of c = c.place ∷ c.old.low ∷ c.old.high ∷ c.new.low ∷ c.new.high ∷ []

abbrev pub line_of : Change → List ℕ
line_of c = fields (numbers_of c) line_ends

abbrev pub lines_of : List Change → List ℕ
lines_of [] = []
lines_of (c ∷ cs) = line_of c ++ lines_of cs

-- the first line
abbrev pub first_line : ℕ → ℕ → ℕ → ℕ → List ℕ
first_line count window sheet layout = start ++ fields (count ∷ window ∷ sheet ∷ layout ∷ []) head_ends

-- the text
unfoldable pub redo_of : Redo → List ℕ
redo_of r = first_line (length r.changes) r.window (length r.sheet) (length r.layout) ++ (lines_of r.changes ++ (r.sheet ++ (r.layout ++ end_line)))
