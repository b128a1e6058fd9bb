-- The fixed string is compared, and the count is the field after it. Assumes nothing.
use mathlib.Core.Path.{sym, ◌∙◌}
use Rattle.sheet.specs.Load.{head_of}
use Rattle.sheet.proofs.look.read_head.Goals as goal

pub returns-then-not-begins : goal.returns-then-not-begins
unfolding head_of
returns-then-not-begins c = rw (sym c.begins.ensures ∙ c.if-not-begins.true)

pub returns : goal.returns
unfolding head_of
returns c = rw (sym c.begins.ensures ∙ c.if-not-begins.false) c.read_field.ensures
