-- How the place in a list that the table has is found: no promise to a caller. Assumes nothing.
use Rattle.std.specs.Prelude.{ℕ}

-- 16, 8, 4, 1, -16, -8, -4, -1, from the lowest byte on
abbrev pub increments : ℕ
increments = 18445891883495589904

-- 0, 7, 15, 16
abbrev pub shifts : ℕ
shifts = 269420288
