-- `half::put` meets its contract: a part lies in one half, or is written in two steps.
use Rattle.std.proofs.Common.{◌≡◌, ℕ, ◌+◌, ◌-◌, ◌≤◌, ◌<◌, ◌^◌, arith, ◌∙◌, ap, ap₂}
use Rattle.bits.specs.Part.{above}
use Rattle.bits.proofs.Laws.{put-lt}
use Rattle.bundle.proofs.Seam.{put-in-high, put-in-low, put-across}
use Rattle.bundle.proofs.half.put.Goals as goal

pub returns-then-place-ge64 : goal.returns-then-place-ge64
returns-then-place-ge64 c =
    let a = c.args in
    let l : a.halves.low < 2 ^ 64 = omega arith in
    ap (above 64 a.halves.low) c.put-put.ensures ∙ put-in-high a.halves.low a.halves.high a.place a.width l a.value c.if-place-ge64.true

pub returns-then-place-width-le64 : goal.returns-then-place-width-le64
returns-then-place-width-le64 c =
    let a = c.args in
    let l : a.halves.low < 2 ^ 64 = omega arith in
    ap (λ (x : ℕ). above 64 x a.halves.high) c.put-put-then-place-width-le64.ensures
    ∙ put-in-low a.halves.low a.halves.high a.place a.width l a.value c.if-place-width-le64.true

pub returns : goal.returns
returns c =
    let a = c.args in
    let below = 64 - a.place in
    let l : a.halves.low < 2 ^ 64 = omega arith in
    let seam : a.place + below ≡ 64 = omega arith in
    let less : below ≤ a.width = omega arith in
    let fits : a.place + below ≤ 64 = omega arith in
    ap₂ (above 64) c.put-first.ensures c.put-second.ensures
    ∙ put-across a.halves.low a.halves.high a.place a.width l a.value below seam less (put-lt a.halves.low a.place below a.value 64 fits l)
