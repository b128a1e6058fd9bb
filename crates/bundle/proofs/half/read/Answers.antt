-- `half::read` meets its contract: the number of sixteen bytes is that of the first eight and, above it, of the other eight.
use Rattle.std.proofs.Common.{◌≡◌, ◌≤◌, length, arith, ◌∙◌, ap, ap₂, sym}
use Rattle.bits.specs.Part.{above}
use Rattle.bundle.specs.Bytes.{number}
use Rattle.bundle.specs.Bundle.{halves_of}
use Rattle.bundle.proofs.Bytes.{number-split}
use Rattle.bundle.proofs.Whole.{halves-whole}
use Rattle.bundle.proofs.half.read.Goals as goal

pub returns : goal.returns
returns c =
    let l = c.args.bundle.now in
    let h : 8 ≤ length l = omega arith in
    let low = c.load_half-low in
    let high = c.load_half-high in
    let e : above 64 low.result high.result ≡ number l =
    ap₂ (above 64) low.ensures high.ensures ∙ number-split l 8 h in
    sym (halves-whole low.result high.result low.type_inv high.type_inv) ∙ ap halves_of e
