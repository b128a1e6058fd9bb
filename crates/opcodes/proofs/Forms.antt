-- Every entry of a table has a form, and its forms are of one family: so a form's number tells whether an entry answers, and the form. Each is
-- one test that is computed over the table. Assumes nothing.
use mathlib.Core.Path.{◌≡◌, refl}
use mathlib.Core.Bool.{Bool, true, cond, not}
use Prim.Native.Nat.{ℕ}
use lib.Dec.{T, eqb}
use Rattle.form.specs.Form.{A, B}
use Rattle.form.specs.declared.Form.{Form}
use Rattle.table.specs.Entry.{answered, chosen}
use Rattle.table.proofs.Held.{chosen-held, told}
use Rattle.opcodes.specs.Tables.{a_table, b_table, none}
use Rattle.opcodes.specs.declared.Opcode.{Opcode}

-- there is a form; there is none, or one of the family
abbrev pub some : Opcode × Form → Bool
some named = not (eqb named.1.number 0)

abbrev pub formed : ℕ → Opcode × Form → Bool
formed family named = cond (eqb named.1.number 0) true (eqb named.1.family family)

pub told-a : (word : ℕ) → some (chosen a_table word none) ≡ answered a_table word
unfolding a_table
told-a word = told some a_table word none tt refl

pub told-b : (word : ℕ) → some (chosen b_table word none) ≡ answered b_table word
unfolding b_table
told-b word = told some b_table word none tt refl

pub family-a : (word : ℕ) → T (formed A (chosen a_table word none))
unfolding a_table
family-a word = chosen-held (formed A) a_table word none tt tt

pub family-b : (word : ℕ) → T (formed B (chosen b_table word none))
unfolding b_table
family-b word = chosen-held (formed B) b_table word none tt tt
