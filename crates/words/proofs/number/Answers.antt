-- After a minus sign the rest of the word is read.
use Rattle.std.proofs.Common.{◌≡◌, ◌<◌, ◌-◌, ℕ, List, Option, length, take, drop, sym, ap, ◌∙◌, arith}
use Rattle.text.proofs.RoundTrip.{stands-within}
use Rattle.words.specs.Number.{unsigned_in, as_number}
use Rattle.words.proofs.Beginnings.{rest}
use Rattle.words.proofs.number.Goals as goal

pub slice_bounds-unsigned_in-count : goal.slice_bounds-unsigned_in-count
slice_bounds-unsigned_in-count c = stands-within c.args.word.now 0 45 (sym c.if-is_at.ensures)

pub slice_bounds-unsigned_in-start : goal.slice_bounds-unsigned_in-start
slice_bounds-unsigned_in-start c =
    let within : 0 < length c.args.word.now = stands-within c.args.word.now 0 45 (sym c.if-is_at.ensures) in
    omega arith

-- what is left behind the minus sign, as the code reads it and as the definition does
left : {r : Option ℕ} (word : List ℕ) → r ≡ unsigned_in (take (length word - 1) (drop 1 word)) → unsigned_in (drop 1 word) ≡ r
left word e = ap unsigned_in (sym (rest 1 word)) ∙ sym e

pub returns-in_err-unsigned_in : goal.returns-in_err-unsigned_in
unfolding as_number
returns-in_err-unsigned_in c = rw (sym c.if-is_at.ensures, left c.args.word.now c.in_err-unsigned_in.ensures) c.from_residual.ensures

pub returns-then-is_at : goal.returns-then-is_at
unfolding as_number
returns-then-is_at c = rw (sym c.if-is_at.ensures, left c.args.word.now c.in_ok-unsigned_in.ensures) c.negated.ensures

pub returns-in_err-unsigned_in-2 : goal.returns-in_err-unsigned_in-2
unfolding as_number
returns-in_err-unsigned_in-2 c = rw (sym c.if-is_at.ensures, sym c.in_err-unsigned_in-2.ensures) c.from_residual-in_err-unsigned_in-2.ensures

pub returns : goal.returns
unfolding as_number
returns c = rw (sym c.if-is_at.ensures, sym c.in_ok-unsigned_in-2.ensures)
