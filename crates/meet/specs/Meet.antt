-- Whether two edits meet: whether they set a bit in common, by the table alone. A tool asks it before it mixes two files of edits;
-- what holds of edits that don't meet is said in `demands/specs/Order.antt`. Assumes nothing.
use Rattle.std.specs.Prelude.{ℕ, Bool, false, not, ◌&&◌, List, [], ◌∷◌, ◌++◌, eqb, ltb, Result, Ok, Err}
use Rattle.answer.specs.Answer.{Reason, first, outcome, accepted, number_of, bad_form, bad_slot}
use Rattle.answer.specs.declared.Refusal.{Refusal}
use Rattle.bits.specs.Parts.{meet_not}
use Rattle.form.specs.declared.Edit.{Edit}
use Rattle.row.specs.Row.{is_none, row_of}
use Rattle.immediate.specs.Immediate.{parts_of}

-- two edits meet: they are of one bundle, and a part of the one has a bit in common with a part of the other
abbrev pub meets : Edit → Edit → Bool
meets one other = eqb one.bundle other.bundle && not (meet_not (parts_of one) (parts_of other))

-- when an edit has no bits, whatever its bundle: 3, then 5
abbrev pub bits_refusals : Edit → List Reason
bits_refusals e = (bad_form, is_none (row_of e.form)) ∷ (bad_slot, ltb 2 e.slot) ∷ []

-- what asking comes to: an answer, and whether they meet where it accepts
pub record Met : Type 0 where
  pub answer : ℕ
  pub meet : Bool

-- a refused asking
abbrev pub no_meeting : ℕ → Met
no_meeting answer = record { answer = answer; meet = false }

-- what `meet` hands back, as that
abbrev pub as_met : Result Bool Refusal → Met
as_met (Ok meet) = record { answer = accepted; meet = meet }
as_met (Err refusal) = no_meeting (number_of refusal)

-- what `meet` comes to: refused as the first of the two that has no bits
unfoldable pub meet_of : Edit → Edit → Met
meet_of one other =
    let answer = first (bits_refusals one ++ bits_refusals other) in
    outcome answer (record { answer = accepted; meet = meets one other }) (no_meeting answer)
