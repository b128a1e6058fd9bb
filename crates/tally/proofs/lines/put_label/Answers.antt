-- Each arm's name is the table's, and a number that no arm names has none.
use Rattle.std.proofs.Common.{arith}
use borrow.Author.Tests.{ne_eqb}
use Rattle.tally.specs.Text.{label_of}
use Rattle.tally.proofs.lines.put_label.Goals as goal

pub returns-in-32 : goal.returns-in-32
unfolding label_of
returns-in-32 c = rw c.in-32.is c.put_text.ensures

pub returns-in-33 : goal.returns-in-33
unfolding label_of
returns-in-33 c = rw c.in-33.is c.put_text-in-33.ensures

pub returns-in-34 : goal.returns-in-34
unfolding label_of
returns-in-34 c = rw c.in-34.is c.put_text-in-34.ensures

pub returns-in-35 : goal.returns-in-35
unfolding label_of
returns-in-35 c = rw c.in-35.is c.put_text-in-35.ensures

pub returns-in_default : goal.returns-in_default
unfolding label_of
returns-in_default c =
    let i = c.args.i in
    rw (ne_eqb i 32 (omega arith), ne_eqb i 33 (omega arith), ne_eqb i 34 (omega arith), ne_eqb i 35 (omega arith)) c.put_decimal.ensures
