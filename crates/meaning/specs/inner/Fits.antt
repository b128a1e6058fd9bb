-- What the functions on meanings ask of their callers, and every row of the table meets: no promise to a caller. Assumes nothing.
use Rattle.std.specs.Prelude.{ℕ, ◌+◌, ◌-◌, ◌*◌, ◌^◌, ◌<◌, ◌≤◌, ◌≢◌}
use Rattle.meaning.specs.Meaning.{entry}
use Rattle.meaning.specs.declared.Meaning.{Meaning}
use Rattle.meaning.specs.declared.Meaning.TheVariants.{None, Unsigned, Signed, Chosen, Complement}

-- every value of w bits is one of 64 bits
abbrev pub SignedFits : ℕ → ℕ → Type 0
SignedFits unit w = (1 ≤ w) × (w < 64) × (1 ≤ unit) × (unit * 2 ^ (w - 1) ≤ 2 ^ 63)

-- a list has a place for every raw number of w bits, and no two of these places have the same number
abbrev pub ChosenFits : ℕ → ℕ → Type 0
ChosenFits list w = (w ≤ 3) × ((j k : ℕ) → j < k → k < 2 ^ w → entry list j ≢ entry list k)

-- the same of each meaning; of a complement no raw number is more than what it is taken from
abbrev pub Fitting : Meaning → ℕ → Type 0
Fitting None w = Unit {0}
Fitting (Unsigned plus) w = (1 ≤ w) × (w ≤ 64) × (plus + 2 ^ w ≤ 2 ^ 64)
Fitting (Signed unit) w = SignedFits unit w
Fitting (Chosen signed list) w = ChosenFits list w
Fitting (Complement top) w = (1 ≤ w) × (w ≤ 64) × (2 ^ w ≤ top + 1) × (top < 2 ^ 64)
