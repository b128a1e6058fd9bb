-- The report as a text: a line for each number. Assumes nothing.
use Rattle.std.specs.Prelude.{ℕ, zero, suc, List, [], ◌∷◌, ◌++◌, get_or}
use Rattle.table.specs.Ascii.{ascii}
use Rattle.table.specs.Table.{select}
use Rattle.text.specs.Ascii.{line}
use Rattle.text.specs.Decimal.{decimal}

-- what the numbers after those of the tags count
abbrev pub names : List (ℕ × List ℕ)
names = (32, ascii "bundles") ∷ (33, ascii "reserved") ∷ (34, ascii "stops") ∷ (35, ascii "rest") ∷ []

-- the label of number i: one of these names, or the tag
unfoldable pub label_of : ℕ → List ℕ
label_of i = select i names (decimal i)

-- the line of number i
unfoldable pub number_line : ℕ → ℕ → List ℕ
number_line i n = line (label_of i ∷ decimal n ∷ [])

-- the lines of the first n numbers
unfoldable pub number_lines : List ℕ → ℕ → List ℕ
number_lines report zero = []
number_lines report (suc n) = number_lines report n ++ number_line n (get_or report n 0)

-- the text of a report
abbrev pub text_of : List ℕ → List ℕ
text_of report = number_lines report 36
