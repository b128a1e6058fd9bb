-- `bits::put` meets its contract: neither shift loses a bit, so the part is taken out of the word and the value's put in.
-- Assumes nothing.
use borrow.Author.Rules.{rules}
use mathlib.Core.Path.{◌≡◌, ◌∙◌, ap, ap₂, subst, sym}
use Prim.Native.Nat.{ℕ, ◌+◌, ◌-◌, ◌*◌, ◌%◌, ◌≤◌, ◌<◌, ◌^◌}
use native.Mathlib.Nat.{div-one}
use mir.Facts.{Fits-of_lt}
use Rattle.bits.specs.Part.{part, put}
use Rattle.bits.proofs.Laws.{part-lt, take_out, put_in, put-low-bits, put-lt}
use Rattle.bits.proofs.Shift.{shl}
use Rattle.bits.proofs.put.Statement.{statement}
use Rattle.bits.proofs.put.Tie as tie

-- a part that was got, shifted to its place
shifted : (r n q p k : ℕ) → r ≡ part n q k → p + k ≤ 64 → (r * 2 ^ p) % 2 ^ 64 ≡ part n q k * 2 ^ p
shifted r n q p k e h = ap (λ (x : ℕ). (x * 2 ^ p) % 2 ^ 64) e ∙ shl p k (part n q k) (part-lt n q k) h

sub-result : tie.Need-overflow_sub-result
sub-result c =
    let a = c.before.args in
    subst (λ (x : ℕ). x ≤ a.word) (sym (shifted _ a.word a.place a.place a.width c.get.ensures c.before.requires.2))
    (take_out a.word a.place a.width)

result : (c : tie.After-get-2) →
    let a = c.before.before.args in
    a.word - (c.before.get.result * 2 ^ a.place) % 2 ^ 64 + (c.get-2.result * 2 ^ a.place) % 2 ^ 64 ≡ put a.word a.place a.width a.value
result c =
    let start = c.before.before in
    let a = start.args in
    let low = ap (λ (x : ℕ). x % 2 ^ a.width) (div-one a.value) in
    ap₂ (λ (x y : ℕ). a.word - x + y)
    (shifted _ a.word a.place a.place a.width c.before.get.ensures start.requires.2)
    (shifted _ a.value 0 a.place a.width c.get-2.ensures start.requires.2)
    ∙ put_in a.word a.place a.width (part a.value 0 a.width) (part-lt a.value 0 a.width)
    ∙ ap (put a.word a.place a.width) low
    ∙ sym (put-low-bits a.word a.place a.width a.value)

add-result : tie.Need-overflow_add-result
add-result c =
    let start = c.before.before in
    let a = start.args in
    Fits-of_lt
    (subst (λ (x : ℕ). x < 2 ^ 64) (sym (result c)) (put-lt a.word a.place a.width a.value 64 start.requires.2 start.ranges.word.fits))

returns : tie.Need-returns
returns c = result c

pub put_spec : {M : Type 1} → statement M
put_spec =
    tie.close
    (tie.spec (λ c κs. search rules) (λ c. search rules) sub-result (λ c κs. search rules) (λ c. search rules) add-result returns)
