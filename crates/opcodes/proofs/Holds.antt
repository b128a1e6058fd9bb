-- What is promised of the tables holds: for each it is one test of any two entries that is computed, and one lemma over any table.
-- Assumes nothing.
use mathlib.Core.Path.{◌≡◌, refl, sym, ◌∙◌}
use mathlib.Core.Bool.{Bool, true, false, not}
use mathlib.Core.List.{[]}
use lib.Dec.{T}
use Rattle.bits.specs.Part.{part}
use Rattle.table.proofs.Check.{checked}
use Rattle.table.proofs.Exclusive.{exclusive, at_most_one, any_place}
use Rattle.table.proofs.Held.{all}
use Rattle.table.proofs.Narrow.{narrow, in-test}
use Rattle.opcodes.specs.Holds.{OneAnswers, OrderIsFree, FromEight}
use Rattle.opcodes.specs.Tables.{a_table, b_table, none}
use Rattle.opcodes.proofs.Forms.{some, told-a}

exclusive-a : T (exclusive a_table)
unfolding a_table
exclusive-a = tt

exclusive-b : T (exclusive b_table)
unfolding b_table
exclusive-b = tt

pub one-answers : OneAnswers
one-answers = (at_most_one a_table exclusive-a, at_most_one b_table exclusive-b)

pub order-is-free : OrderIsFree
order-is-free = (any_place a_table none exclusive-a, any_place b_table none exclusive-b)

-- each opcode below 8 leaves no entry, so none that has a form
pub from-eight : FromEight
unfolding a_table
from-eight word h =
    let left = checked (λ k. all (λ n. not (some n)) (narrow (37, 4, k) a_table)) 8 tt (part word 37 4) h in
    sym (told-a word) ∙ no _ (in-test word [] tt 37 4 (part word 37 4) refl (λ n. not (some n)) a_table none refl left tt)
  where
    no : (b : Bool) → T (not b) → b ≡ false
    no true t = absurd t
    no false t = refl
