-- Nothing, a lone digit, two, or two and what comes after them.
use Rattle.std.proofs.Common.{◌∙◌, arith}
use Rattle.hex_text.proofs.Fronts.{front-empty, front-one, front-two, front-more}
use Rattle.hex_text.proofs.front.Goals as goal

pub returns-in-empty : goal.returns-in-empty
returns-in-empty c = front-empty c.args.room c.args.text.now (omega arith)

pub returns-in-len1 : goal.returns-in-len1
returns-in-len1 c = front-one c.args.room c.args.text.now (omega arith)

pub returns-in-len2 : goal.returns-in-len2
returns-in-len2 c = c.pair.ensures ∙ rw (c.digit_value.ensures, c.digit_value-in-len2.ensures) (front-two c.args.room c.args.text.now (omega arith))

pub returns-in-len3-up : goal.returns-in-len3-up
returns-in-len3-up c =
    c.pair-in-len3-up.ensures
    ∙ rw (c.digit_value-in-len3-up.ensures, c.digit_value-in-len3-up-2.ensures, c.is_separator.ensures) (front-more c.args.room c.args.text.now (omega arith))
