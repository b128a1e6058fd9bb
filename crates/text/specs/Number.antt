-- A decimal read from a text: the digits that stand at a place are the decimal of a number below 2 ^ 64. Assumes nothing.
use Rattle.std.specs.Prelude.{ℕ, ◌+◌, ◌-◌, ◌*◌, ◌^◌, cond, ◌&&◌, List, [], ◌∷◌, ltb, length, drop, Option, Some, None}
use Rattle.text.specs.Ascii.{within, same_text}
use Rattle.text.specs.Decimal.{decimal}

-- the digits that a text begins with
unfoldable pub digits_of : List ℕ → List ℕ
digits_of [] = []
digits_of (c ∷ rest) = cond (within 48 57 c) (c ∷ digits_of rest) []

-- the number n with digits after it
unfoldable pub worth : ℕ → List ℕ → ℕ
worth n [] = n
worth n (c ∷ rest) = worth (n * 10 + (c - 48)) rest

-- the number at a place, whose decimal the digits there are, and the place after them
unfoldable pub number_of : List ℕ → ℕ → Option (ℕ × ℕ)
number_of text at =
    let digits = digits_of (drop at text) in
    let n = worth 0 digits in
    cond (ltb n (2 ^ 64) && same_text digits (decimal n)) (Some (n, at + length digits)) None
