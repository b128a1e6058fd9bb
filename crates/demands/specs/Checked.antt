-- What a checked edit comes to beside the plain one (02's #110), by the word that stands in its slot before the edit. With any shared journal.
-- Proved in `proofs/Checked.antt`. Assumes nothing.
use Rattle.std.specs.Prelude.{ℕ, ◌≡◌, true, false, List}
use Rattle.answer.specs.Answer.{accepted, bad_opcode}
use Rattle.bundle.specs.Bundle.{number_at}
use Rattle.choice.specs.Choice.{has_form}
use Rattle.form.specs.declared.Edit.{Edit}
use Rattle.immediate.specs.Immediate.{immediate_of}
use Rattle.retired.specs.Retired.{is_retired}
use Rattle.records.specs.Shared.{Shared}
use Rattle.journal.specs.Edit.{SharedOutcome, edit_by, checked_by}

-- what `immediate` answers where an edit is to set its number: 0, or 10, 1, 2, 3 or 5
abbrev pub read_answer : List ℕ → Edit → ℕ
read_answer code e = (immediate_of code e.bundle e.slot e.form).answer

-- the word in an edit's slot has the edit's form
abbrev pub HasForm : List ℕ → Edit → Type 0
HasForm code e = has_form (number_at code e.bundle) e.slot e.form ≡ true

-- refused so, with journal and code as they were
abbrev pub refused_by : List ℕ → Shared → ℕ → SharedOutcome
refused_by code s answer = record { answer = answer; journal = s; code = code }

-- what is so of a party's checked edit
pub record Checks (code : List ℕ) (s : Shared) (party : ℕ) (e : Edit) : Type 0 where
  -- where the word has the form, it is the plain edit
  pub plain : HasForm code e → checked_by code s party e ≡ edit_by code s party e
  -- where the number can't be read there, it is refused as reading is, but for a retired form (`Retired.antt`)
  pub unread : is_retired e.form ≡ false → (read_answer code e ≡ accepted → ⊥) → checked_by code s party e ≡ refused_by code s (read_answer code e)
  -- and where it can, but the word hasn't the form, by 14
  pub other : is_retired e.form ≡ false → read_answer code e ≡ accepted → (HasForm code e → ⊥) → checked_by code s party e ≡ refused_by code s bad_opcode

abbrev pub CheckedEdits : Type 0
CheckedEdits = (code : List ℕ) (s : Shared) (party : ℕ) (e : Edit) → Checks code s party e
