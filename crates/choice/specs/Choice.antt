-- The call `choose`: opcode and form of a word, from the unit that it is for; and whether the word in a slot has a form. Assumes nothing.
use Rattle.std.specs.Prelude.{ℕ, ◌^◌, Bool, not, ◌&&◌, List, [], ◌∷◌, eqb, leb}
use Rattle.std.specs.declared.result.Result.{Result}
use Rattle.std.specs.declared.result.Result.TheVariants.{Ok, Err}
use Rattle.answer.specs.Answer.{Reason, first, outcome, accepted, bad_word, bad_opcode, number_of}
use Rattle.answer.specs.declared.Refusal.{Refusal}
use Rattle.bundle.specs.Bundle.{unit_at, word_at}
use Rattle.form.specs.Form.{B, I, M, no_form, same_form}
use Rattle.form.specs.declared.Form.{Form}
use Rattle.opcodes.specs.Tables.{a_table, b_table, none}
use Rattle.opcodes.specs.declared.Opcode.{Opcode}
use Rattle.opcodes.specs.declared.Opcode.TheVariants.{No}
use Rattle.table.specs.Entry.{Entry, answered, chosen}
use Rattle.table.specs.Table.{select}
use Rattle.choice.specs.declared.Chosen.{Chosen}

-- the table of a unit's words; A's has no entry with a major opcode below 8 (`opcodes/specs/Holds.antt`)
abbrev pub opcode_tables : List (ℕ × List (Entry (Opcode × Form)))
opcode_tables = (M, a_table) ∷ (I, a_table) ∷ (B, b_table) ∷ []

unfoldable pub opcode_table : ℕ → List (Entry (Opcode × Form))
opcode_table unit = select unit opcode_tables []

-- when a choice is refused: the word has more than 41 bits, or no entry answers it
abbrev pub refusals : ℕ → ℕ → List Reason
refusals unit word = (bad_word, leb (2 ^ 41) word) ∷ (bad_opcode, not (answered (opcode_table unit) word)) ∷ []

-- what choosing comes to: an answer, an opcode and a form
pub record Choice : Type 0 where
  pub answer : ℕ
  pub opcode : Opcode
  pub form : Form

-- a choice that is made, and one that is refused
abbrev pub chose : Opcode × Form → Choice
chose named = record { answer = accepted; opcode = named.0; form = named.1 }

abbrev pub no_choice : ℕ → Choice
no_choice answer = record { answer = answer; opcode = No; form = no_form }

-- what `choose` hands back, as that
abbrev pub as_choice : Result Chosen Refusal → Choice
as_choice (Ok c) = chose (c.opcode, c.form)
as_choice (Err refusal) = no_choice (number_of refusal)

-- what choosing comes to: opcode and form of the entry that answers
unfoldable pub choice_of : ℕ → ℕ → Choice
choice_of unit word = let answer = first (refusals unit word) in outcome answer (chose (chosen (opcode_table unit) word none)) (no_choice answer)

-- a unit's word has a form: the choice is made, and is that form
abbrev pub word_has : ℕ → ℕ → Form → Bool
word_has unit word form = let c = choice_of unit word in eqb c.answer accepted && same_form c.form form

-- so has the word in a slot of a bundle
unfoldable pub has_form : ℕ → ℕ → Form → Bool
has_form n slot form = word_has (unit_at n slot) (word_at n slot) form
