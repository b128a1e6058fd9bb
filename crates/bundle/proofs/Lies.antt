-- What it says that a bundle was found: none of the two refusals applies, so its sixteen bytes lie in a code that is not too long.
-- Assumes nothing.
use mathlib.Core.Path.{◌≡◌}
use Prim.Native.Nat.{ℕ, ◌+◌, ◌*◌, ◌≤◌, ◌<◌}
use mathlib.Core.List.{List}
use borrow.Author.Tests.{ltb-false, le-ltb}
use native.Mathlib.Decide.{dec_lt}
use native.Mathlib.Omega.{arith}
use lib.ListN.{length}
use Rattle.answer.specs.Answer.{accepted}
use Rattle.answer.proofs.Laws.{none-applies}
use Rattle.bundle.specs.Bundle.{longest_code, find_refusals, find_answer}

pub record Lies (code : List ℕ) (k : ℕ) : Type 0 where
  pub short : length code ≤ longest_code
  pub within : 16 * k + 16 ≤ length code

pub lies : (code : List ℕ) (k : ℕ) → find_answer code k ≡ accepted → Lies code k
unfolding find_answer
lies code k e =
    let n = none-applies (find_refusals code k) tt e in
    record { short = ltb-false _ _ n.0; within = ltb-false _ _ n.1.0 }

-- the other way round
pub found-when : (code : List ℕ) (k : ℕ) → Lies code k → find_answer code k ≡ accepted
unfolding find_answer
found-when code k l = rw (le-ltb longest_code (length code) l.short, le-ltb (length code) (16 * k + 16) l.within)

-- a code that is not too long and where the bundle was not found ends before it
pub past_the_end : (code : List ℕ) (k : ℕ) → length code ≤ longest_code → (find_answer code k ≡ accepted → ⊥) → length code < 16 * k + 16
past_the_end code k short d =
    elim (dec_lt (length code) (16 * k + 16)) [ yes h ↦ h | no h ↦ absurd (d (found-when code k (record { short = short; within = omega arith }))) ]
