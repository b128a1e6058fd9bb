-- A number that stands in several parts of another, the lowest first. Assumes nothing.
use Rattle.std.specs.Prelude.{ℕ, ◌+◌, ◌/◌, ◌^◌, Bool, true, ◌&&◌, ◌||◌, List, [], ◌∷◌, leb}
use Rattle.bits.specs.Part.{part, above, put}

-- the place and the width of each
abbrev pub Parts : Type 0
Parts = List (ℕ × ℕ)

-- how many bits they have
abbrev pub widths : Parts → ℕ
widths [] = 0
widths (p ∷ ps) = p.1 + widths ps

-- the number that stands in the parts of n
unfoldable pub gather : ℕ → Parts → ℕ
gather n [] = 0
gather n (p ∷ ps) = above p.1 (part n p.0 p.1) (gather n ps)

-- n with v in its parts
unfoldable pub scatter : ℕ → Parts → ℕ → ℕ
scatter n [] v = n
scatter n (p ∷ ps) v = scatter (put n p.0 p.1 v) ps (v / 2 ^ p.1)

-- two parts have no bit in common
abbrev pub apart : ℕ × ℕ → ℕ × ℕ → Bool
apart p q = leb (p.0 + p.1) q.0 || leb (q.0 + q.1) p.0

-- a part has no bit in common with any of them
abbrev pub apart_from : ℕ × ℕ → Parts → Bool
apart_from p [] = true
apart_from p (q ∷ qs) = apart p q && apart_from p qs

-- none of the one has a bit in common with any of the other
abbrev pub meet_not : Parts → Parts → Bool
meet_not [] qs = true
meet_not (p ∷ ps) qs = apart_from p qs && meet_not ps qs

-- no two of them have a bit in common
abbrev pub separate : Parts → Bool
separate [] = true
separate (p ∷ ps) = apart_from p ps && separate ps

-- each lies within the lowest m bits
abbrev pub all_below : ℕ → Parts → Bool
all_below m [] = true
all_below m (p ∷ ps) = leb (p.0 + p.1) m && all_below m ps
