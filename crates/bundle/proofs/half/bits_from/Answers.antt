-- `half::bits_from` meets its contract: what lies past the seam is shifted down, and before it the low half's rest has the high half's bits
-- above it.
use Rattle.std.proofs.Common.{ℕ, ◌≤◌, ◌<◌, ◌^◌, arith, sym, subst}
use mir.Facts.{Fits-of_lt}
use Rattle.bits.proofs.Laws.{part-lt}
use Rattle.bundle.specs.Bundle.{whole}
use Rattle.bundle.proofs.Seam.{bits-high, bits-seam}
use Rattle.bundle.proofs.half.bits_from.Goals as goal

pub overflow_add-result : goal.overflow_add-result
overflow_add-result c =
    let a = c.args in
    let l : a.halves.low < 2 ^ 64 = omega arith in
    let low : a.place ≤ 64 = omega arith in
    Fits-of_lt (subst (λ (x : ℕ). x < 2 ^ 64) (sym (bits-seam a.halves.low a.halves.high a.place l low)) (part-lt (whole a.halves) a.place 64))

pub returns-then-place-ge64 : goal.returns-then-place-ge64
returns-then-place-ge64 c =
    let a = c.args in
    let l : a.halves.low < 2 ^ 64 = omega arith in
    let h : a.halves.high < 2 ^ 64 = omega arith in
    bits-high a.halves.low a.halves.high a.place l h c.if-place-ge64.true

pub returns-else-place-ge64 : goal.returns-else-place-ge64
returns-else-place-ge64 c =
    let a = c.args in
    let l : a.halves.low < 2 ^ 64 = omega arith in
    let low : a.place ≤ 64 = omega arith in
    bits-seam a.halves.low a.halves.high a.place l low
