-- The digits at `at` are the decimal of `n`, which ends where the loop is, and those that stand there.
use Rattle.std.proofs.Common.{length, ◌≡◌, ◌+◌, ◌<◌, ◌^◌, ◌++◌, drop}
use Rattle.text.specs.Decimal.{decimal}
use Rattle.text.specs.Number.{digits_of}
use Rattle.text.proofs.number.read_decimal.Given as goal

abbrev pub invariant-loop-i : goal.invariant-loop-i
invariant-loop-i l =
    (l.n < 2 ^ 64)
    × (l.at + 1 + l.i ≡ l.at + length (decimal l.n))
    × (digits_of (drop l.at l.text) ≡ decimal l.n ++ digits_of (drop (l.at + 1 + l.i) l.text))
