-- The sheet of a journal: a line with the count, and a line for each standing record, the oldest first. There are two kinds of line: those
-- that are written, and the old ones, from before records had a slot, a form and a value. Assumes nothing.
use Rattle.std.specs.Prelude.{ℕ, zero, suc, ◌-◌, ◌<◌, ◌≡◌, Bool, true, cond, not, List, [], ◌∷◌, ◌++◌, eqb, leb, length, get_or}
use Rattle.answer.specs.Answer.{Reason, bad_journal}
use Rattle.name.specs.Name.{name_of}
use Rattle.record.specs.Record.{no_record, is_whole}
use Rattle.record.specs.declared.Record.{Record}
use Rattle.records.specs.Journal.{Journal, standing, valid_of}
use Rattle.records.specs.Shared.{Shared, places_of, served_of}
use Rattle.table.specs.Ascii.{ascii}
use Rattle.text.specs.Ascii.{line}
use Rattle.text.specs.Decimal.{decimal}
use Rattle.text.specs.Whole.{Written, wrote_of}
use Rattle.sheet.specs.declared.line.Kind.{Kind}
use Rattle.sheet.specs.declared.line.Kind.TheVariants.{Full, Old}

-- the fields of a record's old and new bundle
abbrev pub bundles_of : Record → List (List ℕ)
bundles_of r = decimal r.old.low ∷ decimal r.old.high ∷ decimal r.new.low ∷ decimal r.new.high ∷ []

-- a record's line
unfoldable pub line_as : Kind → Record → List ℕ
line_as Full r = line (decimal r.bundle ∷ decimal r.slot ∷ name_of r.form ∷ decimal r.value ∷ bundles_of r)
line_as Old r = line (decimal r.bundle ∷ bundles_of r)

-- whether such a line tells all of a record
abbrev pub tells : Kind → Record → Bool
tells Full r = true
tells Old r = is_whole r

-- the lines of some records
abbrev pub lines_as : Kind → List Record → List ℕ
lines_as kind [] = []
lines_as kind (r ∷ rs) = line_as kind r ++ lines_as kind rs

-- the first line
abbrev pub header_of : ℕ → List ℕ
header_of count = line (ascii "patches" ∷ decimal count ∷ [])

-- the sheet of a journal, in lines of a kind
unfoldable pub sheet_as : Kind → Journal → List ℕ
sheet_as kind j = header_of (length (standing j)) ++ lines_as kind (standing j)

-- the sheet that is written
abbrev pub sheet_of : Journal → List ℕ
sheet_of j = sheet_as Full j

-- line i of a journal of so many records: the first line, or that of record i - 1, the one given; past the last there is none
abbrev pub numbered : ℕ → ℕ → Record → List ℕ
numbered i count r = cond (eqb i 0) (header_of count) (cond (leb i count) (line_as Full r) [])

-- line i of the sheet that is written
abbrev pub sheet_line : Journal → ℕ → List ℕ
sheet_line j i = numbered i (length (standing j)) (get_or (standing j) (i - 1) no_record)

-- its first so many lines, one after the other
abbrev pub first_lines : Journal → ℕ → List ℕ
first_lines j zero = []
first_lines j (suc n) = first_lines j n ++ sheet_line j n

-- the lines, put out one at a time to the last or past it, are the sheet
abbrev pub LinesAreSheet : Type 0
LinesAreSheet = (j : Journal) (n : ℕ) → length (standing j) < n → first_lines j n ≡ sheet_of j

-- no sheet that is written is longer
abbrev pub capacity : ℕ
capacity = 118797

-- which journal has no sheet
abbrev pub write_refusals : ℕ → ℕ → Journal → List Reason
write_refusals party places j = (bad_journal, not (valid_of party places j)) ∷ []

-- what a party's writing comes to: its own journal's sheet, or line i of that
abbrev pub write_by : Shared → ℕ → List ℕ → Written × List ℕ
write_by s party out = let j = served_of s party in wrote_of (write_refusals party (places_of s.parties party) j) (sheet_of j) out

abbrev pub write_line_by : Shared → ℕ → ℕ → List ℕ → Written × List ℕ
write_line_by s party i out = let j = served_of s party in wrote_of (write_refusals party (places_of s.parties party) j) (sheet_line j i) out
