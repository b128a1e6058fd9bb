-- A checked edit beside the plain one: where the word has the form, 14 isn't in its list, and where it hasn't, the list ends there. Assumes
-- nothing.
use mathlib.Core.Path.{◌≡◌, refl, sym, ◌∙◌}
use mathlib.Core.Bool.{Bool, true, false, not}
use mathlib.Core.List.{List, [], ◌∷◌, ◌++◌}
use Prim.Native.Nat.{ℕ}
use native.Mathlib.Omega.{arith}
use Rattle.answer.specs.Answer.{Reason, accepted, bad_opcode, first}
use Rattle.answer.proofs.Laws.{refuses, first_on, first-stop}
use Rattle.bundle.specs.Bundle.{number_at}
use Rattle.choice.specs.Choice.{has_form}
use Rattle.form.specs.declared.Edit.{Edit}
use Rattle.row.specs.Row.{row_of}
use Rattle.immediate.specs.Immediate.{value_refusals}
use Rattle.immediate.proofs.Laws.{immediate-answer}
use Rattle.retired.specs.Retired.{is_retired}
use Rattle.records.specs.Journal.{Journal, view_of}
use Rattle.records.specs.Shared.{Shared, places_of, served_of, with_own}
use Rattle.journal.specs.Change.{field, room_refusals, make_of}
use Rattle.journal.specs.Edit.{SharedOutcome, checked_refusals, by_party, checked_by, edit_by}
use Rattle.journal.specs.inner.Plan.{reading_refusals}
use Rattle.demands.specs.Checked.{read_answer, HasForm, refused_by, CheckedEdits}

-- what a party's edit comes to where the code has these reasons to refuse it, and where one of them or of the journal's applies
module _ (code : List ℕ) (s : Shared) (party : ℕ) (refusals : List Reason) (e : Edit) where
  abbrev pub new_by : SharedOutcome
  new_by = by_party s party (make_of party (places_of s.parties party) code (served_of s party) refusals (field e ∷ []))

  pub new-refused : (a : ℕ) → (let places = places_of s.parties party in first (refusals ++ room_refusals places (view_of party places (served_of s party)) 1)) ≡ a
      → (a ≡ accepted → ⊥) → new_by ≡ refused_by code s a
  unfolding make_of
  new-refused a q d = rw (q, refuses a _ _ d, refuses a (with_own s party (served_of s party)) s d)

module _ (code : List ℕ) (s : Shared) (party : ℕ) (e : Edit) where
  abbrev has : Bool
  has = has_form (number_at code e.bundle) e.slot e.form

  abbrev held : Journal
  held = served_of s party

  -- what its refusals end with, past those of reading
  abbrev rest : Bool → List Reason
  rest b =
      let places = places_of s.parties party in
      (bad_opcode, not b) ∷ value_refusals (row_of e.form) e.value ++ room_refusals places (view_of party places held) 1

  plain : HasForm code e → checked_by code s party e ≡ edit_by code s party e
  unfolding make_of
  plain h = rw h

  refused : is_retired e.form ≡ false → (a : ℕ) → first (reading_refusals code e ++ rest has) ≡ a → (a ≡ accepted → ⊥) → checked_by code s party e ≡ refused_by code s a
  refused h a q d = new-refused code s party (checked_refusals code e) e a (rw h q) d

  read_is : read_answer code e ≡ first (reading_refusals code e)
  read_is = immediate-answer code e.bundle e.slot e.form

  unread : is_retired e.form ≡ false → (read_answer code e ≡ accepted → ⊥) → checked_by code s party e ≡ refused_by code s (read_answer code e)
  unread h d = refused h (read_answer code e) (first-stop (reading_refusals code e) (rest has) (λ q. d (read_is ∙ q)) ∙ sym read_is) d

  other : is_retired e.form ≡ false → read_answer code e ≡ accepted → (HasForm code e → ⊥) → checked_by code s party e ≡ refused_by code s bad_opcode
  other h a n = refused h bad_opcode (first_on (reading_refusals code e) (rest has) tt (sym read_is ∙ a) ∙ by has n) (λ q. omega arith)
    where
      by : (b : Bool) → (b ≡ true → ⊥) → first (rest b) ≡ bad_opcode
      by true n = absurd (n refl)
      by false n = refl

pub checked-edits : CheckedEdits
checked-edits code s party e = record { plain = plain code s party e; unread = unread code s party e; other = other code s party e }
