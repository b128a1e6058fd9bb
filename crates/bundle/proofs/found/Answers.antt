-- `found` meets its contract: each return has the tests that led there, and a bundle lies in the code where its number is
-- below a sixteenth of the length.
use Rattle.std.proofs.Common.{◌+◌, ◌*◌, ◌<◌, ◌≤◌, length, arith}
use borrow.Author.Tests.{lt-ltb, le-ltb}
use Rattle.bundle.specs.Bundle.{find_answer}
use Rattle.bundle.proofs.found.Goals as goal

pub returns-then-code-gt-LONGEST_CODE : goal.returns-then-code-gt-LONGEST_CODE
unfolding find_answer
returns-then-code-gt-LONGEST_CODE c = simp (lt-ltb _ _ c.if-code-gt-LONGEST_CODE.true)

pub returns-then-code-bundle : goal.returns-then-code-bundle
unfolding find_answer
returns-then-code-bundle c =
    let a = c.args in
    let h : length a.code.now < 16 * a.bundle + 16 = omega arith in
    simp (le-ltb _ _ c.if-code-gt-LONGEST_CODE.false, lt-ltb _ _ h)

pub returns : goal.returns
unfolding find_answer
returns c =
    let a = c.args in
    let h : 16 * a.bundle + 16 ≤ length a.code.now = omega arith in
    simp (le-ltb _ _ c.if-code-gt-LONGEST_CODE.false, le-ltb _ _ h)
