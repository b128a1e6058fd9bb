-- What the code works out and what a digit is worth are compared at every byte by one computed check.
use Rattle.std.proofs.Common.{◌≡◌, ℕ, ◌+◌, ◌-◌, ◌*◌, ◌/◌, ◌%◌, ◌<◌, ◌^◌}
use mathlib.Core.Bool.{cond}
use lib.Dec.{ltb, eqb, eqb→eq}
use borrow.Author.Tests.{lt-ltb, le-ltb, eq-eqb, ne_eqb}
use Rattle.table.proofs.Check.{checked}
use Rattle.hex_text.specs.Hex.{digit_value}
use Rattle.hex_text.proofs.digit_value.Goals as goal

-- the code's bit of a byte
abbrev bit : ℕ → ℕ
bit c = (35465847073801215 / 2 ^ (c - 48)) % 2

abbrev worked : ℕ → ℕ
worked c = cond (ltb c 48) 16 (cond (ltb 102 c) 16 (cond (eqb (bit c) 1) (c % 16 + 9 * (c / 64)) 16))

at_byte : (c : ℕ) → c < 256 → worked c ≡ digit_value c
unfolding digit_value
at_byte c h = eqb→eq (worked c) (digit_value c) (checked (λ k. eqb (worked k) (digit_value k)) 256 tt c h)

pub returns-then-c-lt48 : goal.returns-then-c-lt48
returns-then-c-lt48 c = rw (lt-ltb c.args.c 48 c.if-c-lt48.true) at (at_byte c.args.c c.ranges.c.fits)

pub returns-then-c-gt102 : goal.returns-then-c-gt102
returns-then-c-gt102 c = rw (le-ltb c.args.c 48 c.if-c-lt48.false, lt-ltb 102 c.args.c c.if-c-gt102.true) at (at_byte c.args.c c.ranges.c.fits)

pub returns-then-c-eq1 : goal.returns-then-c-eq1
returns-then-c-eq1 c = rw (le-ltb c.args.c 48 c.if-c-lt48.false, le-ltb 102 c.args.c c.if-c-gt102.false, eq-eqb (bit c.args.c) 1 c.if-c-eq1.true) at (at_byte c.args.c c.ranges.c.fits)

pub returns-else-c-eq1 : goal.returns-else-c-eq1
returns-else-c-eq1 c = rw (le-ltb c.args.c 48 c.if-c-lt48.false, le-ltb 102 c.args.c c.if-c-gt102.false, ne_eqb (bit c.args.c) 1 c.if-c-eq1.false) at (at_byte c.args.c c.ranges.c.fits)
