-- A part of a number: `width` bits from bit `place` on. Assumes nothing.
use Rattle.std.specs.Prelude.{ℕ, ◌+◌, ◌*◌, ◌/◌, ◌%◌, ◌^◌}

-- the number that those bits are
abbrev pub part : ℕ → ℕ → ℕ → ℕ
part n place width = n / 2 ^ place % 2 ^ width

-- `high` set above the `width` bits of `low`
abbrev pub above : ℕ → ℕ → ℕ → ℕ
above width low high = low + 2 ^ width * high

-- the number with those bits replaced by the lowest `width` bits of `v`
unfoldable pub put : ℕ → ℕ → ℕ → ℕ → ℕ
put n place width v = above place (n % 2 ^ place) (above width (v % 2 ^ width) (n / 2 ^ (place + width)))

-- one bit
abbrev pub bit : ℕ → ℕ → ℕ
bit n place = part n place 1
