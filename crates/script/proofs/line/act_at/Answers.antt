-- The word decides. Assumes nothing.
use Rattle.std.proofs.Common.{sym, ◌∙◌, arith}
use Rattle.table.specs.Ascii.{ascii}
use Rattle.script.specs.Line.{act_at}
use Rattle.script.proofs.Lines.{word-within}
use Rattle.script.proofs.line.act_at.Goals as goal

pub overflow_add-at : goal.overflow_add-at
overflow_add-at c = omega (arith, word-within (ascii "edit\t") c.args.line.now c.args.at (omega arith) (sym c.is_word.ensures ∙ c.if-is_word.true))

pub returns-then-is_word : goal.returns-then-is_word
unfolding act_at
returns-then-is_word c = rw (sym c.is_word.ensures ∙ c.if-is_word.true) c.edit_at.ensures

pub returns-then-is_word-2 : goal.returns-then-is_word-2
unfolding act_at
returns-then-is_word-2 c = rw (sym c.is_word.ensures ∙ c.if-is_word.false, sym c.is_word-2.ensures ∙ c.if-is_word-2.true)

pub returns : goal.returns
unfolding act_at
returns c = rw (sym c.is_word.ensures ∙ c.if-is_word.false, sym c.is_word-2.ensures ∙ c.if-is_word-2.false)
