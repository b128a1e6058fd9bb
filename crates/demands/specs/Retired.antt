-- New edits of retired forms end, and records of them stay (02's #112). How a journal is tested, undone, written and loaded is said without a
-- word of which forms are retired. Proved in `proofs/Retired.antt`. Assumes nothing.
use Rattle.std.specs.Prelude.{ℕ, ◌<◌, ◌≤◌, ◌^◌, ◌≡◌, true, List, [], ◌∷◌, ◌++◌}
use Rattle.answer.specs.Answer.{first, accepted, bad_bundle, retired}
use Rattle.bundle.specs.Template.{unitless}
use Rattle.bundle.specs.Bundle.{number_at, units_in, find_refusals}
use Rattle.form.specs.declared.Edit.{Edit}
use Rattle.immediate.specs.Immediate.{change_refusals}
use Rattle.record.specs.Record.{highest, may_stand, edit_record}
use Rattle.records.specs.Shared.{Shared}
use Rattle.retired.specs.Retired.{is_retired}
use Rattle.journal.specs.Edit.{SharedOutcome, edit_by, checked_by}
use Rattle.demands.specs.Checked.{refused_by}

-- what comes before an edit's form is asked after: 0, or 10, 1 or 2
abbrev pub bundle_answer : List ℕ → Edit → ℕ
bundle_answer code e = first (find_refusals code e.bundle ++ (bad_bundle, unitless (units_in (number_at code e.bundle))) ∷ [])

-- both edits come to the same
abbrev pub Both : List ℕ → Shared → ℕ → Edit → SharedOutcome → Type 0
Both code s party e o = (edit_by code s party e ≡ o) × (checked_by code s party e ≡ o)

-- what is so of a new edit of a retired form, plain or checked, with any slot, value and journal
pub record Ends (code : List ℕ) (s : Shared) (party : ℕ) (e : Edit) : Type 0 where
  -- where the code has its bundle and that has units, it is refused by 15
  pub ends : bundle_answer code e ≡ accepted → Both code s party e (refused_by code s retired)
  -- and else by the refusal before
  pub before : (bundle_answer code e ≡ accepted → ⊥) → Both code s party e (refused_by code s (bundle_answer code e))

abbrev pub NewEditsEnd : Type 0
NewEditsEnd = (code : List ℕ) (s : Shared) (party : ℕ) (e : Edit) → is_retired e.form ≡ true → Ends code s party e

-- the record of an edit that its bundle takes by 01's table may stand, whatever the form: so a retired one's that was made before
abbrev pub RecordsStay : Type 0
RecordsStay = (party n : ℕ) (e : Edit) → n < 2 ^ 128 → e.bundle ≤ highest → first (change_refusals n e) ≡ accepted → may_stand party (edit_record party n e) ≡ true
