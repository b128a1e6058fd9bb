-- An instruction's form: a family, which is its letter's byte, and a number. Assumes nothing.
use Rattle.std.specs.Prelude.{ℕ, Bool, ◌&&◌, List, [], ◌∷◌, eqb, leb, ltb}
use Rattle.table.specs.Table.{select}
use Rattle.form.specs.declared.Form.{Form}

abbrev pub A : ℕ
A = 65

abbrev pub B : ℕ
B = 66

abbrev pub F : ℕ
F = 70

abbrev pub I : ℕ
I = 73

abbrev pub M : ℕ
M = 77

abbrev pub X : ℕ
X = 88

-- the form A4 is `a 4`
abbrev pub a : ℕ → Form
a n = record { family = A; number = n }

abbrev pub b : ℕ → Form
b n = record { family = B; number = n }

abbrev pub f : ℕ → Form
f n = record { family = F; number = n }

abbrev pub i : ℕ → Form
i n = record { family = I; number = n }

abbrev pub m : ℕ → Form
m n = record { family = M; number = n }

abbrev pub x : ℕ → Form
x n = record { family = X; number = n }

-- no form
abbrev pub no_form : Form
no_form = record { family = 0; number = 0 }

-- the same form
abbrev pub same_form : Form → Form → Bool
same_form f g = eqb f.family g.family && eqb f.number g.number

-- the families, each with its last number
abbrev pub families : List (ℕ × ℕ)
families = (A, 10) ∷ (B, 9) ∷ (F, 16) ∷ (I, 30) ∷ (M, 48) ∷ (X, 5) ∷ []

-- a family's last number, and 0 for what is no family
abbrev pub last_of : ℕ → ℕ
last_of family = select family families 0

-- A1 to A10, B1 to B9, F1 to F16, I1 to I30, M1 to M48, X1 to X5
unfoldable pub is_form : Form → Bool
is_form form = ltb 0 form.number && leb form.number (last_of form.family)
