-- What the calls from C and Rust come to: an answer, and numbers that go through an output. Assumes nothing.
use Rattle.std.specs.Prelude.{ℕ, cond, List, ◌∷◌, ◌++◌, map}
use Rattle.bundle.specs.Bundle.{Cut, cut_of}
use Rattle.form.specs.declared.Form.{Form}
use Rattle.operand.specs.Pattern.{pattern_in}
use Rattle.immediate.specs.Immediate.{immediate_of, target_of}

-- an answer, and what the output then holds
pub record Filled : Type 0 where
  pub answer : ℕ
  pub out : List ℕ

-- a cut's ten numbers: the tag, the units, the slots, and 1 for each slot that a stop follows, else 0
abbrev pub cut_numbers : Cut → List ℕ
cut_numbers c = c.template.tag ∷ (c.template.units ++ c.slots ++ map (λ stop. cond stop 1 0) c.template.stops)

-- a cut, refused or not, fills the output
unfoldable pub cut_call : List ℕ → ℕ → Filled
cut_call code k = record { answer = (cut_of code k).answer; out = cut_numbers (cut_of code k) }

-- an answer, and the number that is then in the output
pub record Answered : Type 0 where
  pub answer : ℕ
  pub number : ℕ

unfoldable pub immediate_call : List ℕ → ℕ → ℕ → Form → Answered
immediate_call code k slot form =
    let read = immediate_of code k slot form in
    record { answer = read.answer; number = pattern_in read.value }

unfoldable pub target_call : List ℕ → ℕ → ℕ → Form → ℕ → Answered
target_call code k slot form address =
    let reached = target_of code k slot form address in
    record { answer = reached.answer; number = reached.address }
