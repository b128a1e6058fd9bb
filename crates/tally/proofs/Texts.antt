-- How long a report's text can be: all labels have 78 characters, and each line has a 64-bit number, of at most 20 digits, a tab and a
-- newline beside its label. Assumes nothing.
use mathlib.Core.Path.{◌≡◌}
use mathlib.Core.List.{List, ◌++◌}
use Prim.Native.Nat.{ℕ, zero, suc, ◌+◌, ◌*◌, ◌^◌, ◌≤◌, ◌<◌}
use native.Mathlib.Numerals.{add-one}
use native.Mathlib.Omega.{arith}
use lib.Dec.{lit≤}
use lib.ListN.{length, get_or, length-append}
use Rattle.text.specs.Decimal.{digits, decimal}
use Rattle.text.proofs.Numerals.{decimal-length}
use Rattle.tally.specs.Text.{label_of, number_line, number_lines, text_of}

pub lines_more : (report : List ℕ) (n : ℕ) → number_lines report (n + 1) ≡ number_lines report n ++ number_line n (get_or report n 0)
unfolding number_lines
lines_more report n = rw add-one

-- how many characters the first n labels have
abbrev labelled : ℕ → ℕ
labelled zero = 0
labelled (suc n) = labelled n + length (label_of n)

lines-most : (report : List ℕ) → ((i : ℕ) → get_or report i 0 < 2 ^ 64) → (n : ℕ) → length (number_lines report n) ≤ labelled n + 22 * n
unfolding number_lines number_line
lines-most report s zero = lit≤ tt
lines-most report s (suc n) =
    let small = s n in
    simp length-append (omega (arith, lines-most report s n, decimal-length 19 (get_or report n 0) (omega arith)))

pub text-most : (report : List ℕ) → ((i : ℕ) → get_or report i 0 < 2 ^ 64) → length (text_of report) ≤ 870
unfolding label_of decimal digits
text-most report s = lines-most report s 36
