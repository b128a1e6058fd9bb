-- `bits::get` meets its contract: a shift right divides, and `1 << width` is 2 ^ width, since width is below 64.
-- Assumes nothing.
use borrow.Author.Rules.{rules}
use mathlib.Core.Path.{ap, subst, sym}
use Prim.Native.Nat.{ℕ, ◌/◌, ◌%◌, ◌<◌, ◌^◌}
use lib.Pow.{pow_pos}
use Rattle.bits.proofs.Shift.{one_shl}
use Rattle.bits.proofs.get.Statement.{statement}
use Rattle.bits.proofs.get.Tie as tie

rem-result : tie.Need-nonzero_rem-result
rem-result c = subst (λ (x : ℕ). 0 < x) (sym (one_shl c.args.width c.requires.1)) (pow_pos c.args.width)

returns : tie.Need-returns
returns c = ap (λ (x : ℕ). (c.args.word / 2 ^ c.args.place) % x) (one_shl c.args.width c.requires.1)

pub get_spec : {M : Type 1} → statement M
get_spec = tie.close (tie.spec (λ c. search rules) (λ c. search rules) rem-result returns)
