-- The tables have a line for each form and no other line: one computed check over all of them. Assumes nothing.
use mathlib.Core.Path.{◌≡◌, refl}
use mathlib.Core.Bool.{Bool, true, cond, ◌&&◌}
use mathlib.Core.List.{List, [], ◌∷◌}
use Prim.Native.Nat.{ℕ, suc, ◌+◌}
use lib.Dec.{T, eqb}
use lib.ListN.{length}
use Rattle.table.proofs.Check.{below}
use Rattle.reading.specs.Line.{Forms}
use Rattle.form.specs.Form.{families}
use Rattle.readers.specs.Call.{table_of}

-- how many lines a number has
abbrev pub lines_of : ℕ → Forms → ℕ
lines_of n [] = 0
lines_of n (e ∷ es) = cond (eqb n e.0) 1 0 + lines_of n es

-- each number from 1 to the last has one line, and there are as many lines
abbrev pub exact : ℕ → Forms → Bool
exact last es = below (λ k. eqb (lines_of (suc k) es) 1) last && eqb (length es) last

abbrev pub all-exact : List (ℕ × ℕ) → Bool
all-exact [] = true
all-exact (f ∷ fs) = exact f.1 (table_of f.0) && all-exact fs

abbrev pub forms : List (ℕ × ℕ) → ℕ
forms [] = 0
forms (f ∷ fs) = f.1 + forms fs

pub each-form-has-a-line : T (all-exact families)
each-form-has-a-line = tt

pub forms-in-all : forms families ≡ 118
forms-in-all = refl
