-- A digit more is so much more worth.
use Rattle.std.proofs.Common.{◌≡◌, ◌^◌, ◌<◌, false, length, get_or, ◌∙◌, arith, le-leb}
use mathlib.Core.Bool.{and-false}
use borrow.Author.Tests.{lt-leb}
use Rattle.hex_text.specs.Hex.{digit_value}
use Rattle.text.specs.Ascii.{within}
use Rattle.words.specs.Number.{are_hex, hex_in}
use Rattle.words.proofs.Hex.{all-hex, all-worth, not-hex, more-hex, more-worth, next-lt, few-lt}
use Rattle.words.proofs.hex_in.Goals as goal

pub returns-then-word-lt1 : goal.returns-then-word-lt1
unfolding hex_in
returns-then-word-lt1 c = rw (lt-leb 1 (length c.args.word.now) c.if-word-lt1.true)

pub returns-then-word-gt16 : goal.returns-then-word-gt16
unfolding hex_in
returns-then-word-gt16 c = rw (le-leb 1 (length c.args.word.now) c.if-word-lt1.false, lt-leb (length c.args.word.now) 16 c.if-word-gt16.true)

pub returns-then-digit-gt15 : goal.returns-then-digit-gt15
unfolding hex_in
returns-then-digit-gt15 c =
    let word = c.args.word.now in
    let stop : are_hex word ≡ false = c.loop-c.invariant.1 ∙ not-hex word c.loop-c.c-index c.loop-c-test.true (rw c.digit_value-digit.ensures at c.if-digit-gt15.true) in
    rw (stop, and-false (within 1 16 (length word)))

pub overflow_mul-n : goal.overflow_mul-n
overflow_mul-n c =
    let small : c.loop-c.n < 2 ^ 60 = few-lt c.loop-c.n c.loop-c.c-index c.loop-c.invariant.0 (omega arith) in
    omega arith

pub overflow_add-n : goal.overflow_add-n
overflow_add-n c =
    let small : c.loop-c.n < 2 ^ 60 = few-lt c.loop-c.n c.loop-c.c-index c.loop-c.invariant.0 (omega arith) in
    omega arith

pub loop-c-preserved : goal.loop-c-preserved
loop-c-preserved c =
    let l = c.loop-c in
    let word = c.args.word.now in
    let inside = c.loop-c-test.true in
    let digit : digit_value (get_or word l.c-index 0) < 16 = omega (arith, c.digit_value-digit.ensures) in (
      rw (c.from.ensures, c.digit_value-digit.ensures) (next-lt l.n l.c-index _ l.invariant.0 digit),
      l.invariant.1 ∙ more-hex word l.c-index inside digit,
      l.invariant.2 ∙ rw (c.from.ensures, c.digit_value-digit.ensures) (more-worth word l.c-index inside l.n),
    )

pub returns : goal.returns
unfolding hex_in
returns c =
    let l = c.loop-c in
    let word = c.args.word.now in
    let past = c.loop-c-test.false in
    rw (l.invariant.1, all-hex word l.c-index past, l.invariant.2, all-worth word l.c-index l.n past, le-leb 1 (length word) (omega arith), le-leb (length word) 16 (omega arith))
