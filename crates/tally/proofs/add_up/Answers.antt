-- A sum that fits is one more, and one that doesn't is refused.
use Rattle.std.proofs.Common.{◌≡◌, ℕ, ◌+◌, ◌^◌, ◌≤◌, ◌<◌, List, length, get_or, take, drop_of_length-le, add-one, arith, rules, sym, ap, ◌∙◌}
use mathlib.Core.List.{append-nil}
use lib.Seq.{take_all}
use mir.Syntax.{w64}
use mir.Val.{Fits}
use Rattle.answer.specs.Answer.{accepted}
use Rattle.tally.specs.Report.{plus}
use Rattle.tally.proofs.Sums.{plus-length, plus-at, sums-more, large, large-more, large-some, added-fits, added-large}
use Rattle.tally.proofs.add_up.Goals as goal

-- the next number of the sum
next : (a b : List ℕ) (i : ℕ) → length a ≡ 36 → length b ≡ 36 → i < 36 → (i < length (plus a b)) × (get_or (plus a b) i 0 ≡ get_or a i 0 + get_or b i 0)
next a b i h k l = (omega (arith, plus-length a b (h ∙ sym k)), plus-at a b i (omega arith) (omega arith))

pub returns-in_default : goal.returns-in_default
returns-in_default c =
    let a = c.args in
    let h : length a.report.now ≡ 36 = search rules in
    let k : length a.more ≡ 36 = search rules in
    let n = next a.report.now a.more c.loop-i.i h k c.loop-i-test.true in
    sym (added-large a.report.now a.more (large-some (plus a.report.now a.more) c.loop-i.i n.0 (omega (arith, n.1, c.in_default.ensures))))

pub loop-i-preserved : goal.loop-i-preserved
loop-i-preserved c =
    let a = c.args in
    let l = c.loop-i in
    let sums = plus a.report.now a.more in
    let h : length a.report.now ≡ 36 = search rules in
    let k : length a.more ≡ 36 = search rules in
    let n = next a.report.now a.more l.i h k c.loop-i-test.true in
    let fits : Fits w64 (get_or a.more l.i 0) = search rules in
    let small : get_or sums l.i 0 < 2 ^ 64 = omega (arith, n.1, c.in-Some.ensures, fits) in (
      rw (l.invariant.0, c.in-Some.ensures.1, ← n.1, add-one l.i) (sums-more a.report.now sums l.i (omega arith) n.0),
      rw add-one (large-more sums l.i n.0 small l.invariant.1),
    )

pub returns : goal.returns
returns c =
    let a = c.args in
    let l = c.loop-i in
    let h : length a.report.now ≡ 36 = search rules in
    let k : length a.more ≡ 36 = search rules in
    let sums = plus a.report.now a.more in
    let all : length sums ≤ 36 = omega (arith, plus-length a.report.now a.more (h ∙ sym k)) in
    let e : l.i ≡ 36 = omega arith in
    let whole : take 36 sums ≡ sums = take_all 36 sums all in
    let none : large sums ≡ 0 = rw (e, whole) at l.invariant.1 in
    rw (added-fits a.report.now a.more none)
    (ap (λ (l : List ℕ). record { answer = accepted; report = l })
    (l.invariant.0 ∙ rw (e, whole, drop_of_length-le a.report.now {i = 36} (omega arith)) (append-nil sums)))
