-- Reading a layout: what is found in a text, and what it has then. Assumes nothing.
use Rattle.std.specs.Prelude.{ℕ, zero, suc, Bool, false, cond, List, [], ◌∷◌, eqb, length, get_or, Option, Some, None}
use Rattle.std.proofs.Math.Option as maybe
use Rattle.text.specs.Ascii.{newline, starts_with}
use Rattle.text.specs.Fields.{after_number, field_at, fields_of}
use Rattle.layout.specs.Layout.{Layout, start, head_ends}
use Rattle.layout.specs.declared.Reading.{Reading}
use Rattle.layout.specs.declared.reader.Found.{Found}

-- the window whose line stands at a place, and the place after it
abbrev pub window_at : List ℕ → ℕ → Option (ℕ × ℕ)
window_at text at = field_at text at newline

-- the text ends after so many lines
unfoldable pub ends_after : List ℕ → ℕ → ℕ → Bool
ends_after text at zero = eqb at (length text)
ends_after text at (suc left) = after_number (window_at text at) (λ w next. ends_after text next left) false

-- their windows
unfoldable pub windows_at : List ℕ → ℕ → ℕ → List ℕ
windows_at text at zero = []
windows_at text at (suc left) = after_number (window_at text at) (λ w next. w ∷ windows_at text next left) []

-- the reading by the numbers of the first line
abbrev pub reading_of : List ℕ → Reading
reading_of ns = record { kind = get_or ns 0 0; base = get_or ns 1 0; offset = get_or ns 2 0; length = get_or ns 3 0 }

-- what is found by the first line: a layout where so many lines end the text
abbrev pub found_by : List ℕ → Option (List ℕ × ℕ) → Option Found
found_by text None = None
found_by text (Some head) =
    let count = get_or head.0 4 0 in
    cond (ends_after text head.1 count) (Some (record { reading = reading_of head.0; count = count; first = head.1 })) None

unfoldable pub look_of : List ℕ → Option Found
look_of text = cond (starts_with start text) (found_by text (fields_of text 7 head_ends)) None

-- what a layout has, by what was found
abbrev pub held_by : List ℕ → Option Found → maybe.Option Layout
held_by text None = maybe.none
held_by text (Some found) = maybe.some (record { reading = found.reading; windows = windows_at text found.first found.count })

unfoldable pub layout_in : List ℕ → maybe.Option Layout
layout_in text = held_by text (look_of text)
