-- Text as bytes. Assumes nothing.
use Rattle.std.specs.Prelude.{ℕ, Bool, ◌&&◌, leb, length, take}
use Rattle.std.proofs.Math.Bool.{decide}
use mathlib.Core.List.{List, [], ◌∷◌, ◌++◌, List-discrete}
use Rattle.std.proofs.Math.Decide.{ℕ_discrete}

abbrev pub tab : ℕ
tab = 9

abbrev pub newline : ℕ
newline = 10

-- fields parted by tabs and ended by one newline
abbrev pub line : List (List ℕ) → List ℕ
line [] = newline ∷ []
line (f ∷ []) = f ++ (newline ∷ [])
line (f ∷ g ∷ fs) = f ++ (tab ∷ line (g ∷ fs))

-- a byte from `low` to `high`
abbrev pub within : ℕ → ℕ → ℕ → Bool
within low high c = leb low c && leb c high

-- whether two texts are the same
abbrev pub same_text : List ℕ → List ℕ → Bool
same_text a b = decide (List-discrete ℕ_discrete a b)

-- whether a text begins with `start`
abbrev pub starts_with : List ℕ → List ℕ → Bool
starts_with start text = same_text (take (length start) text) start
