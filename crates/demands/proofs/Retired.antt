-- New edits of retired forms end: each has a row, by a computed test of the nine, so 3 is no answer, and the list of refusals ends at 15.
-- Records of them stay: a record's test asks nothing else than before. Assumes nothing.
use mathlib.Core.Path.{◌≡◌, ◌∙◌}
use mathlib.Core.Bool.{true, false, not}
use mathlib.Core.List.{List, [], ◌∷◌, ◌++◌}
use Prim.Native.Nat.{ℕ}
use native.Mathlib.Omega.{arith}
use borrow.Author.Tests.{not-true}
use lib.Ieee.Bits.{is_true}
use Rattle.answer.specs.Answer.{Reason, first, accepted, bad_bundle, retired}
use Rattle.answer.proofs.Laws.{first_on, first-stop}
use Rattle.bundle.specs.Template.{unitless}
use Rattle.bundle.specs.Bundle.{number_at, units_in, find_refusals}
use Rattle.form.specs.declared.Edit.{Edit}
use Rattle.form.specs.declared.Form.{Form}
use Rattle.row.specs.Row.{is_none, row_of}
use Rattle.row.proofs.Among.{among-all}
use Rattle.records.specs.Journal.{view_of}
use Rattle.records.specs.Shared.{Shared, places_of, served_of}
use Rattle.retired.specs.Retired.{retired_forms, is_retired}
use Rattle.journal.specs.Change.{room_refusals}
use Rattle.journal.specs.Edit.{form_refusal, refusals_with, retired_refusal}
use Rattle.journal.proofs.Laws.{behind}
use Rattle.demands.specs.Checked.{refused_by}
use Rattle.demands.specs.Retired.{Both, NewEditsEnd, RecordsStay}
use Rattle.demands.proofs.Changes.{changes-stand}
use Rattle.demands.proofs.Checked.{new_by, new-refused}

has-row : (form : Form) → is_retired form ≡ true → is_none (row_of form) ≡ false
unfolding row_of
has-row form h = not-true _ (is_true _ (among-all (λ f. not (is_none (row_of f))) form retired_forms tt h))

module _ (code : List ℕ) (s : Shared) (party : ℕ) (e : Edit) (h : is_retired e.form ≡ true) where
  abbrev begin : List Reason
  begin = find_refusals code e.bundle ++ ((bad_bundle, unitless (units_in (number_at code e.bundle))) ∷ [])

  abbrev room : List Reason
  room = let places = places_of s.parties party in room_refusals places (view_of party places (served_of s party)) 1

  -- what a list of refusals of a new edit comes to, whatever more is asked
  answers : (late : List Reason) → first (refusals_with (retired_refusal e ∷ []) late code e ++ room) ≡ first (begin ++ ((retired, true) ∷ behind late code e ++ room))
  answers late = rw (h, has-row e.form h)

  both : (a : ℕ) → ((rest : List Reason) → first (begin ++ ((retired, true) ∷ rest)) ≡ a) → (a ≡ accepted → ⊥) → Both code s party e (refused_by code s a)
  both a q d = (by [], by (form_refusal code e ∷ []))
    where
      by : (late : List Reason) → new_by code s party (refusals_with (retired_refusal e ∷ []) late code e) e ≡ refused_by code s a
      by late = new-refused code s party (refusals_with (retired_refusal e ∷ []) late code e) e a (answers late ∙ q (behind late code e ++ room)) d

pub new-edits-end : NewEditsEnd
new-edits-end code s party e h =
    record {
      ends = λ a. both code s party e h retired (λ rest. first_on (begin code s party e h) ((retired, true) ∷ rest) tt a) (λ q. omega arith);
      before = λ d. both code s party e h _ (λ rest. first-stop (begin code s party e h) ((retired, true) ∷ rest) d) d;
    }

pub records-stay : RecordsStay
records-stay party n e = (changes-stand party).edits n e
