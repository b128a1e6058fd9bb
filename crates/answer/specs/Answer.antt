-- What a call answers: `accepted`, or the number of the refusal, by 01 and 02. Assumes nothing.
use Rattle.std.specs.Prelude.{ℕ, Bool, cond, List, [], ◌∷◌, eqb}
use Rattle.std.specs.declared.result.Result.{Result}
use Rattle.std.specs.declared.result.Result.TheVariants.{Ok, Err}
use Rattle.answer.specs.declared.Refusal.{Refusal}
use Rattle.answer.specs.declared.Refusal.TheVariants.{ExhaustedInput, BadBundle, BadForm, BadWord, BadSlot, BadValue, Full, Empty, Stale, TooLong, BadJournal, NoRoom, BadSheet, BadOpcode, Retired, BadScript}

abbrev pub accepted : ℕ
accepted = 0

abbrev pub exhausted_input : ℕ
exhausted_input = 1

abbrev pub bad_bundle : ℕ
bad_bundle = 2

abbrev pub bad_form : ℕ
bad_form = 3

abbrev pub bad_word : ℕ
bad_word = 4

abbrev pub bad_slot : ℕ
bad_slot = 5

abbrev pub bad_value : ℕ
bad_value = 6

abbrev pub full : ℕ
full = 7

abbrev pub empty : ℕ
empty = 8

abbrev pub stale : ℕ
stale = 9

abbrev pub too_long : ℕ
too_long = 10

abbrev pub bad_journal : ℕ
bad_journal = 11

abbrev pub no_room : ℕ
no_room = 12

abbrev pub bad_sheet : ℕ
bad_sheet = 13

abbrev pub bad_opcode : ℕ
bad_opcode = 14

abbrev pub retired : ℕ
retired = 15

abbrev pub bad_script : ℕ
bad_script = 16

-- a refusal's number
abbrev pub number_of : Refusal → ℕ
number_of ExhaustedInput = exhausted_input
number_of BadBundle = bad_bundle
number_of BadForm = bad_form
number_of BadWord = bad_word
number_of BadSlot = bad_slot
number_of BadValue = bad_value
number_of Full = full
number_of Empty = empty
number_of Stale = stale
number_of TooLong = too_long
number_of BadJournal = bad_journal
number_of NoRoom = no_room
number_of BadSheet = bad_sheet
number_of BadOpcode = bad_opcode
number_of Retired = retired
number_of BadScript = bad_script

-- what a call answers that came to this
abbrev pub answer_of : {A : Type 0} → Result A Refusal → ℕ
answer_of (Ok _) = accepted
answer_of (Err refusal) = number_of refusal

-- a refusal's number, with whether it applies
abbrev pub Reason : Type 0
Reason = ℕ × Bool

-- the number of the first refusal that applies, and `accepted` where none does
abbrev pub first : List Reason → ℕ
first [] = accepted
first (r ∷ rs) = cond r.1 r.0 (first rs)

-- what comes of a call that answers `a`: `done` where it accepts, `refused` where it does not
abbrev pub outcome {ℓ} : {A : Type ℓ} → ℕ → A → A → A
outcome a done refused = cond (eqb a accepted) done refused
