-- Reading a redo file: where its parts stand, and what it has then. Assumes nothing.
use Rattle.std.specs.Prelude.{ℕ, zero, suc, ◌+◌, ◌-◌, cond, List, [], ◌∷◌, get_or, take, drop, Option, Some, None}
use Rattle.text.specs.Ascii.{same_text, starts_with}
use Rattle.text.specs.Fields.{fields_of}
use Rattle.redo.specs.Redo.{Redo, line_ends, head_ends, start, end_line}
use Rattle.redo.specs.declared.Change.{Change}
use Rattle.redo.specs.declared.reader.Parts.{Parts}

-- the change of a line's numbers
abbrev pub change_of : List ℕ → Change
change_of ns =
    record { place = get_or ns 0 0; old = record { low = get_or ns 1 0; high = get_or ns 2 0 }; new = record { low = get_or ns 3 0; high = get_or ns 4 0 } }

abbrev pub line_in : Option (List ℕ × ℕ) → Option (Change × ℕ)
line_in None = None
line_in (Some f) = Some (change_of f.0, f.1)

-- the change whose line stands at a place, and the place after it
unfoldable pub change_at : List ℕ → ℕ → Option (Change × ℕ)
change_at text at = line_in (fields_of text at line_ends)

-- what comes after a line, or where there is none
abbrev pub after_change {ℓ} : {A : Type ℓ} → Option (Change × ℕ) → (Change → ℕ → A) → A → A
after_change (Some r) more other = more r.0 r.1
after_change None more other = other

-- the place after so many lines, and their changes
unfoldable pub after_lines : List ℕ → ℕ → ℕ → Option ℕ
after_lines text at zero = Some at
after_lines text at (suc left) = after_change (change_at text at) (λ c next. after_lines text next left) None

unfoldable pub changes_at : List ℕ → ℕ → ℕ → List Change
changes_at text at zero = []
changes_at text at (suc left) = after_change (change_at text at) (λ c next. c ∷ changes_at text next left) []

-- the parts by the numbers of the first line, the place after it and that after the changes
abbrev pub parts_from : List ℕ → ℕ → ℕ → Parts
parts_from ns lines sheet =
    record { window = get_or ns 1 0; count = get_or ns 0 0; lines = lines; sheet = sheet; layout = sheet + get_or ns 2 0; end = sheet + get_or ns 2 0 + get_or ns 3 0 }

-- they are those of a redo file where all that stands after them is the last line
abbrev pub parts_at : List ℕ → List ℕ → ℕ → ℕ → Option Parts
parts_at text ns lines sheet =
    let parts = parts_from ns lines sheet in
    cond (same_text (drop parts.end text) end_line) (Some parts) None

abbrev pub parts_after : List ℕ → List ℕ → ℕ → Option ℕ → Option Parts
parts_after text ns lines None = None
parts_after text ns lines (Some sheet) = parts_at text ns lines sheet

abbrev pub parts_by : List ℕ → Option (List ℕ × ℕ) → Option Parts
parts_by text None = None
parts_by text (Some head) = parts_after text head.0 head.1 (after_lines text head.1 (get_or head.0 0 0))

-- where the parts of a redo file stand, or that a text is none
unfoldable pub look_of : List ℕ → Option Parts
look_of text = cond (starts_with start text) (parts_by text (fields_of text 5 head_ends)) None

-- what stands from one place to another
abbrev pub between : List ℕ → ℕ → ℕ → List ℕ
between text from to = take (to - from) (drop from text)

-- what a redo file has, by where its parts stand
abbrev pub held_by : List ℕ → Option Parts → Option Redo
held_by text None = None
held_by text (Some p) =
    Some (record { window = p.window; changes = changes_at text p.lines p.count; sheet = between text p.sheet p.layout; layout = between text p.layout p.end })

unfoldable pub redo_in : List ℕ → Option Redo
redo_in text = held_by text (look_of text)
