-- The lines of a script: a number, then `edit` with bundle, slot, form and value, or `undo`, parted by tabs and ended by one newline.
-- Assumes nothing.
use Rattle.std.specs.Prelude.{ℕ, ◌+◌, cond, not, ◌&&◌, List, [], ◌∷◌, drop, ◌==◌, Option, Some, None}
use Rattle.form.specs.Form.{no_form, same_form}
use Rattle.immediate.specs.Immediate.{edit_by_pattern}
use Rattle.journal.specs.declared.Act.{Act}
use Rattle.journal.specs.declared.Act.TheVariants.{Edit, Undo}
use Rattle.name.specs.Name.{named_at, after_name}
use Rattle.table.specs.Ascii.{ascii}
use Rattle.text.specs.Ascii.{tab, newline, starts_with}
use Rattle.text.specs.Fields.{after_number, field_at}

-- a byte more at the front of the first of some lines
abbrev pub in_first : ℕ → List (List ℕ) → List (List ℕ)
in_first c [] = (c ∷ []) ∷ []
in_first c (l ∷ ls) = (c ∷ l) ∷ ls

-- the lines of a text, each with the newline that ends it, which the last may lack
unfoldable pub lines_of : List ℕ → List (List ℕ)
lines_of [] = []
lines_of (c ∷ text) = cond (c == newline) ((c ∷ []) ∷ lines_of text) (in_first c (lines_of text))

-- the edit whose bundle, slot, form and value stand at a place of a line, the value by its pattern; `-` is no form
unfoldable pub edit_at : List ℕ → ℕ → Option Act
edit_at l at =
    after_number (field_at l at tab)
    (λ bundle at. after_number (field_at l at tab)
    (λ slot at. after_name (named_at l at tab)
    (λ form at. cond (same_form form no_form) None
    (after_number (field_at l at newline) (λ value at. Some (Edit (edit_by_pattern bundle slot form value))) None)) None) None) None

-- what stands at a place of a line to be done
unfoldable pub act_at : List ℕ → ℕ → Option Act
act_at l at =
    cond (starts_with (ascii "edit\t") (drop at l)) (edit_at l (at + 5))
    (cond (starts_with (ascii "undo\n") (drop at l)) (Some Undo) None)

-- what a line asks while this number is expected: nothing where it doesn't read or is out of turn, and 0 is never in turn
unfoldable pub asked_in : ℕ → List ℕ → Option Act
asked_in next l = after_number (field_at l 0 tab) (λ n at. cond (n == next && not (n == 0)) (act_at l at) None) None
