-- The parts of a slot, and where they stand in the bundle. Assumes nothing.
use Rattle.std.specs.Prelude.{ℕ, ◌+◌, ◌-◌, ◌*◌, Bool, true, cond, ◌&&◌, List, [], ◌∷◌, ltb, leb}
use Rattle.bits.specs.Parts.{Parts}
use Rattle.parts.specs.declared.Part.{Part}

-- a part that isn't there
abbrev pub no_part : Part
no_part = record { place = 0; width = 0 }

-- bit p of the L slot, counted on from the slot's own bits
abbrev pub L : ℕ → ℕ
L p = 64 + p

-- where a bit of a slot stands in the bundle; the L slot is slot 1
abbrev pub stands_at : ℕ → ℕ → ℕ
stands_at slot place = cond (ltb place 64) (5 + 41 * slot + place) (46 + (place - 64))

-- a slot's parts in the bundle
abbrev pub placed : ℕ → List Part → Parts
placed slot [] = []
placed slot (p ∷ ps) = (stands_at slot p.place, p.width) ∷ placed slot ps

-- how many bits the parts have
abbrev pub width_of : List Part → ℕ
width_of [] = 0
width_of (p ∷ ps) = p.width + width_of ps

-- a part lies in the 41 bits of its slot, or, of a long form, in those of the L slot
abbrev pub in_word : Bool → Part → Bool
in_word long p = cond (ltb p.place 64) (leb (p.place + p.width) 41) (long && leb (p.place + p.width) (64 + 41))

abbrev pub in_words : Bool → List Part → Bool
in_words long [] = true
in_words long (p ∷ ps) = in_word long p && in_words long ps

-- parts that lie so, and have at most 64 bits together
abbrev pub readable : List Part → Bool
readable ps = in_words true ps && leb (width_of ps) 64
