-- What a call that writes a whole text answers and leaves in its output. Assumes nothing.
use Rattle.std.specs.Prelude.{ℕ, List, [], ◌∷◌, ◌++◌, ltb, length, drop}
use Rattle.std.specs.declared.result.Result.{Result}
use Rattle.std.specs.declared.result.Result.TheVariants.{Ok, Err}
use Rattle.answer.specs.Answer.{Reason, number_of, first, outcome, accepted, no_room}
use Rattle.answer.specs.declared.Refusal.{Refusal}

-- what such a call answers: the length of the text, and 0 where it is refused
pub record Written : Type 0 where
  pub answer : ℕ
  pub length : ℕ

abbrev pub as_written : Result ℕ Refusal → Written
as_written (Ok length) = record { answer = accepted; length = length }
as_written (Err refusal) = record { answer = number_of refusal; length = 0 }

-- after the refusals given NoRoom, where the output is shorter than the text
abbrev pub whole_refusals : List Reason → List ℕ → List ℕ → List Reason
whole_refusals before text out = before ++ (no_room, ltb (length out) (length text)) ∷ []

-- the text and its length, with what stood past it; a refusal leaves the output as it was
unfoldable pub wrote_of : List Reason → List ℕ → List ℕ → Written × List ℕ
wrote_of before text out =
    let answer = first (whole_refusals before text out) in
    outcome answer (record { answer = answer; length = length text }, text ++ drop (length text) out) (record { answer = answer; length = 0 }, out)
