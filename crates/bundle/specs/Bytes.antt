-- Bytes as one little-endian number, and a number as bytes. Assumes nothing.
use Rattle.std.specs.Prelude.{ℕ, zero, suc, ◌/◌, ◌%◌, ◌^◌, List, [], ◌∷◌}
use Rattle.bits.specs.Part.{above}

-- the number whose lowest byte stands first
unfoldable pub number : List ℕ → ℕ
number [] = 0
number (b ∷ bs) = above 8 b (number bs)

-- the lowest k bytes of a number, the lowest first
unfoldable pub bytes : ℕ → ℕ → List ℕ
bytes zero n = []
bytes (suc k) n = n % 2 ^ 8 ∷ bytes k (n / 2 ^ 8)
