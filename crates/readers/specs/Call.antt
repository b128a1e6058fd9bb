-- The call `operands`: what is refused, and what is read. Assumes nothing.
use Rattle.std.specs.Prelude.{ℕ, ◌^◌, Bool, cond, not, ◌||◌, List, [], ◌∷◌, eqb, leb}
use Rattle.std.specs.declared.result.Result.{Result}
use Rattle.std.specs.declared.result.Result.TheVariants.{Ok, Err}
use Rattle.table.specs.Table.{select}
use Rattle.answer.specs.Answer.{accepted, bad_form, bad_word, first, outcome, number_of}
use Rattle.answer.specs.declared.Refusal.{Refusal}
use Rattle.operand.specs.Reading.{unread}
use Rattle.operand.specs.declared.Reading.{Reading}
use Rattle.form.specs.Form.{A, B, F, I, M, X, is_form}
use Rattle.form.specs.declared.Form.{Form}
use Rattle.reading.specs.Line.{Forms, reading_of, ◌⇒◌}
use Rattle.read_a.specs.Table.{a_forms}
use Rattle.read_b.specs.Table.{b_forms}
use Rattle.read_f.specs.Table.{f_forms}
use Rattle.read_i.specs.Table.{i_forms}
use Rattle.read_l.specs.Table.{x_forms}
use Rattle.read_m.specs.Table.{m_forms}

-- each family's table
abbrev pub tables : List (ℕ × Forms)
tables = A ⇒ a_forms ∷ B ⇒ b_forms ∷ F ⇒ f_forms ∷ I ⇒ i_forms ∷ M ⇒ m_forms ∷ X ⇒ x_forms ∷ []

abbrev pub table_of : ℕ → Forms
table_of family = select family tables []

-- the L word, which is looked at for X forms only
abbrev pub l_of : Form → ℕ → ℕ
l_of form l = cond (eqb form.family X) l 0

-- a word of 2 ^ 41 or more
unfoldable pub is_bad : Form → ℕ → ℕ → Bool
is_bad form word l = leb (2 ^ 41) word || leb (2 ^ 41) (l_of form l)

-- what the family's table has for the number
abbrev pub read_of : Form → ℕ → ℕ → Reading
read_of form word l = reading_of (table_of form.family) form.number word (l_of form l)

-- what `operands` comes to: an answer, and a reading
pub record Operands : Type 0 where
  pub answer : ℕ
  pub reading : Reading

-- a refusal: its number, no position, five `None`
abbrev pub refused_of : ℕ → Operands
refused_of answer = record { answer = answer; reading = unread }

-- an accepted call: the reading
abbrev pub accepted_of : Reading → Operands
accepted_of reading = record { answer = accepted; reading = reading }

-- what `operands` hands back, as that
abbrev pub as_operands : Result Reading Refusal → Operands
as_operands (Ok reading) = accepted_of reading
as_operands (Err refusal) = refused_of (number_of refusal)

-- what is said no to, in this order
abbrev pub operands_answer : Form → ℕ → ℕ → ℕ
operands_answer form word l = first ((bad_form, not (is_form form)) ∷ (bad_word, is_bad form word l) ∷ [])

unfoldable pub operands_of : Form → ℕ → ℕ → Operands
operands_of form word l = outcome (operands_answer form word l) (accepted_of (read_of form word l)) (refused_of (operands_answer form word l))
