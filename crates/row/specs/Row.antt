-- Document 01's table of immediates. Assumes nothing.
use Rattle.std.specs.Prelude.{ℕ, zero, suc, ◌-◌, Bool, true, false, cond, not, ◌||◌, List, [], ◌∷◌, eqb}
use Rattle.bundle.specs.Bytes.{number}
use Rattle.form.specs.Form.{a, b, f, i, m, x, same_form}
use Rattle.form.specs.declared.Form.{Form}
use Rattle.parts.specs.Placed.{L}
use Rattle.parts.specs.declared.Part.{Part}
use Rattle.meaning.specs.Meaning.{means}
use Rattle.meaning.specs.declared.Meaning.{Meaning}
use Rattle.meaning.specs.declared.Meaning.TheVariants.{None, Unsigned, Signed, Chosen, Complement}

-- what a form's immediate means, and its parts, lowest first
pub record Row : Type 0 where
  pub meaning : Meaning
  pub parts : List Part

infix 80 ◌wide◌
abbrev pub ◌wide◌ : ℕ → ℕ → Part
place wide width = record { place = place; width = width }

-- six parts, of which the last have no width
abbrev pub padded_parts : ℕ → List Part → List Part
padded_parts zero ps = []
padded_parts (suc n) [] = 0 wide 0 ∷ padded_parts n []
padded_parts (suc n) (p ∷ ps) = p ∷ padded_parts n ps

abbrev pub row : Meaning → List Part → Row
row meaning parts = record { meaning = meaning; parts = padded_parts 6 parts }

abbrev pub no_row : Row
no_row = row None []

-- some forms and their row
abbrev pub Line : Type 0
Line = List Form × Row

infix 70 ◌are◌
abbrev pub ◌are◌ : List Form → Row → Line
forms are r = (forms, r)

-- what the raw number means: itself; so many times itself, with a sign
abbrev pub unsigned : Meaning
unsigned = Unsigned 0

abbrev pub signed : Meaning
signed = Signed 1

abbrev pub times16 : Meaning
times16 = Signed 16

-- so much below zero, in a list of numbers with a sign
abbrev pub minus : ℕ → ℕ
minus n = 256 - n

-- which one of a list: the manual's lower two bits choose 16, 8, 4 or 1, and the third makes it negative
abbrev pub increment : Meaning
increment = Chosen true (number (16 ∷ 8 ∷ 4 ∷ 1 ∷ minus 16 ∷ minus 8 ∷ minus 4 ∷ minus 1 ∷ []))

-- which one of a list: the shifts of I1's count2
abbrev pub shift : Meaning
shift = Chosen false (number (0 ∷ 7 ∷ 15 ∷ 16 ∷ []))

-- the table, in document 01's order; M17's line and the I forms' are document 02's
unfoldable pub lines : List Line
unfolding number
lines =
    (a 2 ∷ a 10 ∷ []) are row (Unsigned 1) (27 wide 2 ∷ [])
    ∷ (a 3 ∷ a 8 ∷ m 30 ∷ i 27 ∷ []) are row signed (13 wide 7 ∷ 36 wide 1 ∷ [])
    ∷ (a 4 ∷ []) are row signed (13 wide 7 ∷ 27 wide 6 ∷ 36 wide 1 ∷ [])
    ∷ (a 5 ∷ []) are row signed (13 wide 7 ∷ 27 wide 9 ∷ 22 wide 5 ∷ 36 wide 1 ∷ [])
    ∷ (m 3 ∷ m 8 ∷ m 15 ∷ []) are row signed (13 wide 7 ∷ 27 wide 1 ∷ 36 wide 1 ∷ [])
    ∷ (m 5 ∷ m 10 ∷ []) are row signed (6 wide 7 ∷ 27 wide 1 ∷ 36 wide 1 ∷ [])
    ∷ (m 17 ∷ []) are row increment (13 wide 3 ∷ [])
    ∷ (m 20 ∷ m 21 ∷ i 20 ∷ []) are row times16 (6 wide 7 ∷ 20 wide 13 ∷ 36 wide 1 ∷ [])
    ∷ (m 22 ∷ m 23 ∷ b 1 ∷ b 2 ∷ b 3 ∷ []) are row times16 (13 wide 20 ∷ 36 wide 1 ∷ [])
    ∷ (f 14 ∷ []) are row times16 (6 wide 20 ∷ 36 wide 1 ∷ [])
    ∷ (m 37 ∷ m 48 ∷ f 15 ∷ f 16 ∷ b 9 ∷ i 18 ∷ i 19 ∷ []) are row unsigned (6 wide 20 ∷ 36 wide 1 ∷ [])
    ∷ (m 44 ∷ []) are row unsigned (6 wide 21 ∷ 31 wide 2 ∷ 36 wide 1 ∷ [])
    ∷ (x 1 ∷ x 5 ∷ []) are row unsigned (6 wide 20 ∷ 36 wide 1 ∷ L 0 wide 41 ∷ [])
    ∷ (x 2 ∷ []) are row unsigned (13 wide 7 ∷ 27 wide 9 ∷ 22 wide 5 ∷ 21 wide 1 ∷ L 0 wide 41 ∷ 36 wide 1 ∷ [])
    ∷ (x 3 ∷ x 4 ∷ []) are row times16 (13 wide 20 ∷ L 2 wide 39 ∷ 36 wide 1 ∷ [])
    ∷ (i 1 ∷ []) are row shift (30 wide 2 ∷ [])
    ∷ (i 6 ∷ []) are row unsigned (14 wide 5 ∷ [])
    ∷ (i 8 ∷ []) are row (Complement 31) (20 wide 5 ∷ [])
    ∷ (i 10 ∷ []) are row unsigned (27 wide 6 ∷ [])
    ∷ (i 16 ∷ []) are row unsigned (14 wide 6 ∷ [])
    ∷ (i 21 ∷ []) are row times16 (24 wide 9 ∷ [])
    ∷ (i 23 ∷ []) are row (Signed 2) (6 wide 7 ∷ 24 wide 8 ∷ 36 wide 1 ∷ [])
    ∷ (i 24 ∷ []) are row (Signed 65536) (6 wide 27 ∷ 36 wide 1 ∷ [])
    ∷ (i 30 ∷ []) are row (Unsigned 32) (14 wide 5 ∷ [])
    ∷ []

-- whether a form is one of some
abbrev pub among : Form → List Form → Bool
among form [] = false
among form (g ∷ gs) = same_form form g || among form gs

-- the row of the line that has a form, and none where no line has it
abbrev pub row_in : Form → List Line → Row
row_in form [] = no_row
row_in form (l ∷ ls) = cond (among form l.0) l.1 (row_in form ls)

-- the row of a form
unfoldable pub row_of : Form → Row
unfolding lines
row_of form = row_in form lines

-- no row
abbrev pub is_none : Row → Bool
is_none row = not (means row.meaning)

-- a row whose values are times 16 with a sign, and none where they are not
abbrev pub only_times16 : Meaning → Row → Row
only_times16 None row = no_row
only_times16 (Unsigned plus) row = no_row
only_times16 (Signed unit) row = cond (eqb unit 16) row no_row
only_times16 (Chosen signed list) row = no_row
only_times16 (Complement top) row = no_row

-- the row of a form that has a target
abbrev pub target_row_of : Form → Row
target_row_of form = only_times16 (row_of form).meaning (row_of form)
