-- Where the last line stands, no place is past the text's end.
use Rattle.std.proofs.Common.{ℕ, List, get_or, ap, sym, ◌∙◌}
use Rattle.text.specs.Ascii.{same_text}
use Rattle.redo.specs.Redo.{end_line}
use Rattle.std.specs.Prelude.{Some}
use Rattle.redo.proofs.Reading.{end-drop, places}
use Rattle.redo.proofs.reader.parts_at.Goals as goal

pub returns : goal.returns
returns c =
    let a = c.args in
    let dropped = end-drop a.text.now a.sheet (get_or a.of 2 0) (get_or a.of 3 0) c.past-layout.result c.past-end.result c.past-layout.ensures c.past-end.ensures in
    let t = sym c.if-not-is_last.ensures in
    let there = places a.text.now a.sheet (get_or a.of 2 0) (get_or a.of 3 0) c.past-layout.result c.past-end.result c.past-layout.ensures c.past-end.ensures t in
    rw (sym (ap (λ (l : List ℕ). same_text l end_line) dropped) ∙ t)
    (λ i. Some (record { window = get_or a.of 1 0; count = get_or a.of 0 0; lines = a.lines; sheet = a.sheet; layout = there.0 i; end = there.1 i }))
