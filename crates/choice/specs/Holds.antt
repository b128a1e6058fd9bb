-- What request #110 says of the choice besides. Proved in `proofs/Holds.antt`. Assumes nothing.
use Rattle.std.specs.Prelude.{ℕ, ◌≡◌, true, ◌||◌, eqb}
use Rattle.form.specs.Form.{A, B}
use Rattle.form.specs.declared.Form.{Form}
use Rattle.choice.specs.Choice.{has_form}

-- a word has a form of A or B or none: so never one of M, I, F or X
abbrev pub OnlyAOrB : Type 0
OnlyAOrB = (n slot : ℕ) (form : Form) → has_form n slot form ≡ true → (eqb form.family A || eqb form.family B) ≡ true
