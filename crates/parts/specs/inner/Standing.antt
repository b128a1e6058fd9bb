-- What gathering and scattering parts asks: no promise to a caller. Assumes nothing.
use Rattle.std.specs.Prelude.{◌≡◌, List, ℕ, ◌<◌, T, length, get_or, drop}
use Rattle.parts.specs.Placed.{no_part, width_of, readable}
use Rattle.parts.specs.declared.Part.{Part}

-- after a part of no width none has one
abbrev pub Ended : List Part → Type 0
Ended ps = (i : ℕ) → i < length ps → (get_or ps i no_part).width ≡ 0 → width_of (drop i ps) ≡ 0

-- parts that can be read in a slot of a bundle, those of no width last
abbrev pub Standing : ℕ → List Part → Type 0
Standing slot ps = (slot < 3) × T (readable ps) × Ended ps
