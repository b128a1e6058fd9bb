-- `half::write` meets its contract: the two halves overwrite the sixteen bytes, and their bytes are those of the number.
use Rattle.std.proofs.Common.{◌<◌, ◌^◌, ◌++◌, length, arith, ◌∙◌, ap, ap₂, sym}
use Rattle.bundle.proofs.Bytes.{length-bytes, bytes-above}
use Rattle.bundle.proofs.Elements.{overwritten-twice}
use Rattle.bundle.proofs.half.write.Goals as goal

pub returns : goal.returns
returns c =
    let low = c.store_half in
    let high = c.store_half-2 in
    let h = c.args.halves in
    let l : h.low < 2 ^ 64 = omega arith in
    overwritten-twice c.args.bundle.now low.new.half high.new.half 8 (ap length low.ensures ∙ length-bytes 8 h.low)
    ∙ ap₂ ◌++◌ low.ensures high.ensures
    ∙ sym (bytes-above 8 8 h.low h.high l)
