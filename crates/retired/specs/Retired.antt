-- The forms of which document 02's #112 takes no new edit. Assumes nothing.
use Rattle.std.specs.Prelude.{Bool, List, [], ◌∷◌}
use Rattle.form.specs.Form.{b, f, i, m, x}
use Rattle.form.specs.declared.Form.{Form}
use Rattle.row.specs.Row.{among}

-- in the order of its sentence; the last two are #101's break and nop rows
abbrev pub retired_forms : List Form
retired_forms = m 37 ∷ m 48 ∷ f 15 ∷ f 16 ∷ b 9 ∷ x 1 ∷ x 5 ∷ i 18 ∷ i 19 ∷ []

abbrev pub is_retired : Form → Bool
is_retired form = among form retired_forms
