-- Two outcomes that a contract allows for one input are equal: each contract is an equation with one definition. Assumes nothing.
use Rattle.std.proofs.Common.{◌≡◌, ℕ, List}
use Rattle.answer.proofs.Laws.{one-outcome}
use Rattle.form.specs.declared.Form.{Form}
use Rattle.operand.specs.declared.Operand.{Operand}
use Rattle.words.specs.Number.{as_number}
use Rattle.words.specs.Words.{as_value, as_place, as_form}
use Rattle.words.specs.declared.outcome.Given.{Given}
use Rattle.words.specs.declared.outcome.Place.{Place}
use Rattle.std.specs.Prelude.{Option}

pub number-unique : (word : List ℕ) {r s : Option Given} → r ≡ as_number word → s ≡ as_number word → r ≡ s
number-unique word = one-outcome

pub value-unique : (form : Form) (word : List ℕ) {r s : Operand} → r ≡ as_value form word → s ≡ as_value form word → r ≡ s
value-unique form word = one-outcome

pub place-unique : (word : List ℕ) {r s : Option Place} → r ≡ as_place word → s ≡ as_place word → r ≡ s
place-unique word = one-outcome

pub form-unique : (word : List ℕ) {r s : Option Form} → r ≡ as_form word → s ≡ as_form word → r ≡ s
form-unique word = one-outcome
