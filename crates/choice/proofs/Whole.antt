-- A form's number in a table's family is the form again, and 0 says that no entry answers; so a choice can be made of it. Assumes nothing.
use mathlib.Core.Path.{◌≡◌, refl, sym, ap}
use mathlib.Core.Bool.{Bool, true, false, cond, not}
use mathlib.Core.List.{List, [], ◌∷◌}
use Prim.Native.Nat.{ℕ, ◌^◌}
use lib.Dec.{T, eqb, leb, eqb→eq}
use Rattle.std.specs.declared.option.Option.TheVariants.{None, Some}
use Rattle.answer.specs.Answer.{bad_opcode, first, outcome}
use Rattle.form.specs.declared.Form.{Form}
use Rattle.opcodes.specs.Tables.{none, short}
use Rattle.opcodes.specs.declared.Opcode.{Opcode}
use Rattle.opcodes.proofs.Forms.{some, formed}
use Rattle.table.specs.Entry.{Entry, answered, chosen}
use Rattle.choice.specs.Choice.{opcode_table, Choice, chose, no_choice, choice_of}
use Rattle.choice.specs.inner.Whole.{in_family}

-- the choice, by whether an entry answers
abbrev by : Bool → Opcode × Form → Choice
by b named = let answer = first ((bad_opcode, not b) ∷ []) in outcome answer (chose named) (no_choice answer)

again : (family : ℕ) (x : Opcode × Form) → T (formed family x) → in_family family (short x) ≡ by (some x) x
again family x t = by_number (eqb x.1.number 0) t
  where
    by_number : (b : Bool) → T (cond b true (eqb x.1.family family))
        → in_family family (cond b None (Some (record { 0 = x.0; 1 = x.1.number }))) ≡ by (not b) x
    by_number true t = refl
    by_number false t = ap (λ (f : ℕ). chose (x.0, record { family = f; number = x.1.number })) (sym (eqb→eq _ _ t))

pub by-table : (unit word family : ℕ) (es : List (Entry (Opcode × Form))) → opcode_table unit ≡ es → leb (2 ^ 41) word ≡ false
    → some (chosen es word none) ≡ answered es word → T (formed family (chosen es word none))
    → in_family family (short (chosen es word none)) ≡ choice_of unit word
unfolding choice_of
by-table unit word family es e small told t = rw (small, e, sym told) (again family (chosen es word none) t)
