-- The line is the part up to its end. Assumes nothing.
use Rattle.std.proofs.Common.{◌≡◌, ℕ, suc, ◌+◌, ◌-◌, List, length, take, drop, ap, ◌∙◌, arith}
use Rattle.text.specs.Ascii.{newline}
use Rattle.script.specs.Line.{asked_in}
use Rattle.script.specs.inner.Going.{index_of, line_at}
use Rattle.script.proofs.Lines.{line-within, line-part}
use Rattle.script.proofs.line.turn_at.Goals as goal

pub slice_bounds-asked_in-end : goal.slice_bounds-asked_in-end
slice_bounds-asked_in-end c = omega (arith, c.end_of-end.ensures, line-within c.args.text.now c.args.at c.requires)

-- the part that is lent
part-is : (text : List ℕ) (at end : ℕ) → end ≡ at + length (line_at text at) → take (end - at) (drop at text) ≡ line_at text at
part-is text at end e =
    let n : end - at ≡ length (line_at text at) = omega arith in
    ap (λ (k : ℕ). take k (drop at text)) n ∙ line-part (suc (index_of newline (drop at text))) (drop at text)

pub returns : goal.returns
returns c =
    let a = c.args in
    (c.asked_in-asked.ensures ∙ ap (asked_in a.next) (part-is a.text.now a.at _ c.end_of-end.ensures), c.end_of-end.ensures)
