-- The digits at `at` are taken one by one, as far as their number is below 2 ^ 64.
use Rattle.std.proofs.Common.{◌≡◌, ◌+◌, ◌-◌, ◌*◌, ◌<◌, ◌≤◌, ◌^◌, List, ◌∷◌, ◌++◌, ℕ, length, get_or, take, drop, arith, sym, ap, ◌∙◌, length-append, length-drop, add-zero}
use lib.Seq.{append_snoc, take_all, get_or-drop}
use Rattle.text.specs.Decimal.{decimal}
use Rattle.text.specs.Number.{digits_of}
use Rattle.text.proofs.Numbers.{digits-past, digits-stop, digits_more, Digit, digit, decimal_digit, decimal-next, number-none, number-whole, number-zero, number-long}
use Rattle.text.proofs.number.read_decimal.Goals as goal
use Rattle.text.proofs.number.read_decimal.Goals.{else-n-ge-TENTH-via-then-n-ge-TENTH+else-digit-n, else-n-ge-TENTH-via-else-n-ge-TENTH}

-- the digits, as far as the one at hand
so_far : (text : List ℕ) (at n next : ℕ) → next < length text → Digit (get_or text next 0) → digits_of (drop at text) ≡ decimal n ++ digits_of (drop next text) → digits_of (drop at text) ≡ decimal n ++ (get_or text next 0 ∷ digits_of (drop (next + 1) text))
so_far text at n next h d e = e ∙ ap (λ (ds : List ℕ). decimal n ++ ds) (digits_more text next h d)

-- byte i of what is left after the first digit
module _ (text : List ℕ) (at i : ℕ) where
  abbrev rest : List ℕ
  rest = take (length text - (at + 1)) (drop (at + 1) text)

  rest-is : rest ≡ drop (at + 1) text
  rest-is = take_all (length text - (at + 1)) (drop (at + 1) text) (omega (arith, length-drop (at + 1) text))

  inside : i < length rest → at + 1 + i < length text
  inside h = omega (arith, h, ap length rest-is, length-drop (at + 1) text)

  outside : at < length text → length rest ≤ i → i ≤ length rest → length text ≡ at + 1 + i
  outside a h l = omega (arith, a, h, l, ap length rest-is, length-drop (at + 1) text)

  item : get_or rest i 0 ≡ get_or text (at + 1 + i) 0
  item = ap (λ (l : List ℕ). get_or l i 0) rest-is ∙ get_or-drop (at + 1) text i 0

pub returns-then-text-at : goal.returns-then-text-at
returns-then-text-at c = number-none c.args.text.now c.args.at (digits-past c.args.text.now c.args.at c.if-text-at.true)

pub returns-then-not-is_ascii_digit : goal.returns-then-not-is_ascii_digit
returns-then-not-is_ascii_digit c =
    number-none c.args.text.now c.args.at (digits-stop c.args.text.now c.args.at c.if-text-at.false (sym c.is_ascii_digit.ensures.value ∙ c.if-not-is_ascii_digit.true))

pub loop-i-init : goal.loop-i-init
loop-i-init c =
    let d : Digit (get_or c.args.text.now c.args.at 0) = digit _ (sym c.is_ascii_digit.ensures.value ∙ c.if-not-is_ascii_digit.false) in
    let e = decimal_digit d in
    rw (c.from-n.ensures, add-zero) (omega (arith, d.high), rw e, rw e (digits_more c.args.text.now c.args.at c.if-text-at.false d))

pub returns-then-not-is_ascii_digit-2 : goal.returns-then-not-is_ascii_digit-2
returns-then-not-is_ascii_digit-2 c =
    let l = c.loop-i in
    let text = c.args.text.now in
    let next = c.args.at + 1 + l.i in
    let stop = rw (item text c.args.at l.i) at (sym c.is_ascii_digit-in-loop-i.ensures.value ∙ c.if-not-is_ascii_digit-2.true) in
    number-whole text c.args.at l.n next l.invariant.0 l.invariant.2 (digits-stop text next (inside text c.args.at l.i c.loop-i-test.true) stop) l.invariant.1

pub returns-then-n-eq0 : goal.returns-then-n-eq0
returns-then-n-eq0 c =
    let l = c.loop-i in
    let text = c.args.text.now in
    let next = c.args.at + 1 + l.i in
    let d : Digit (get_or text next 0) = digit _ (rw (item text c.args.at l.i) at (sym c.is_ascii_digit-in-loop-i.ensures.value ∙ c.if-not-is_ascii_digit-2.false)) in
    number-zero text c.args.at _ _ _ (so_far text c.args.at l.n next (inside text c.args.at l.i c.loop-i-test.true) d l.invariant.2) c.if-n-eq0.true

pub returns-then-digit-n : goal.returns-then-digit-n
returns-then-digit-n c =
    let l = c.loop-i in
    let text = c.args.text.now in
    let next = c.args.at + 1 + l.i in
    let d : Digit (get_or text next 0) = digit _ (rw (item text c.args.at l.i) at (sym c.is_ascii_digit-in-loop-i.ensures.value ∙ c.if-not-is_ascii_digit-2.false)) in
    number-long text c.args.at _ _ _ (so_far text c.args.at l.n next (inside text c.args.at l.i c.loop-i-test.true) d l.invariant.2) (omega (arith, d.low, d.high, item text c.args.at l.i))

pub loop-i-preserved : goal.loop-i-preserved
loop-i-preserved c =
    let l = c.loop-i in
    let text = c.args.text.now in
    let next = c.args.at + 1 + l.i in
    let same = item text c.args.at l.i in
    let d : Digit (get_or text next 0) = digit _ (rw same at (sym c.is_ascii_digit-in-loop-i.ensures.value ∙ c.if-not-is_ascii_digit-2.false)) in
    let low : 48 ≤ get_or text next 0 = d.low in
    let high : get_or text next 0 ≤ 57 = d.high in
    let e = decimal-next l.n (omega arith) d in
    let small : l.n * 10 + (get_or text next 0 - 48) < 2 ^ 64 = elim c.else-n-ge-TENTH.branch [
      | else-n-ge-TENTH-via-then-n-ge-TENTH+else-digit-n w ↦ omega (arith, same)
      | else-n-ge-TENTH-via-else-n-ge-TENTH w ↦ omega (arith, same)
    ] in
    let on : c.args.at + 1 + (l.i + 1) ≡ next + 1 = omega arith in
    rw (c.from-digit.ensures, same, on) (
      small,
      omega (arith, l.invariant.1, simp length-append at (ap length e)),
      rw e (so_far text c.args.at l.n next (inside text c.args.at l.i c.loop-i-test.true) d l.invariant.2 ∙ sym (append_snoc (decimal l.n) _ _)),
    )

pub returns : goal.returns
returns c =
    let l = c.loop-i in
    let text = c.args.text.now in
    let next = c.args.at + 1 + l.i in
    let end : length text ≡ next = outside text c.args.at l.i c.if-text-at.false c.loop-i-test.false l.auto.i-end in
    rw end (number-whole text c.args.at l.n next l.invariant.0 l.invariant.2 (digits-past text next (omega (arith, end))) l.invariant.1)
