-- What else a word is, as a whole: a value of a form, a place in a code, a form. Assumes nothing.
use Rattle.std.specs.Prelude.{ℕ, ◌-◌, ◌%◌, ◌^◌, cond, List, [], ◌∷◌, length, pos, ◌==◌, nat_lt, Option, Some, None}
use Rattle.form.specs.declared.Form.{Form}
use Rattle.meaning.specs.Meaning.{has_sign}
use Rattle.name.specs.Name.{name_at, after_name}
use Rattle.operand.specs.Pattern.{integer_of}
use Rattle.operand.specs.declared.Operand.{Operand}
use Rattle.operand.specs.declared.Operand.TheVariants.{ImmI64, ImmU64}
use Rattle.operand.specs.declared.Operand.TheVariants.{None as NoValue}
use Rattle.row.specs.Row.{is_none, row_of}
use Rattle.table.specs.Ascii.{ascii}
use Rattle.table.specs.Table.{select}
use Rattle.text.specs.Ascii.{starts_with}
use Rattle.words.specs.Number.{as_number}
use Rattle.words.specs.declared.outcome.Given.{Given}
use Rattle.words.specs.declared.outcome.Given.TheVariants.{Unsigned, Negative}
use Rattle.words.specs.declared.outcome.Place.{Place}

-- a number as a value with a sign, where it is one of 64 bits; 2 ^ 64 - n is the pattern of -n
abbrev pub signed_by : Option Given → Operand
signed_by (Some (Unsigned n)) = cond (nat_lt n (2 ^ 63)) (ImmI64 (pos n)) NoValue
signed_by (Some (Negative n)) = ImmI64 (integer_of ((2 ^ 64 - n) % 2 ^ 64))
signed_by None = NoValue

-- a number as a value without one
abbrev pub unsigned_by : Option Given → Operand
unsigned_by (Some (Unsigned n)) = ImmU64 n
unsigned_by (Some (Negative n)) = NoValue
unsigned_by None = NoValue

-- the value that a word is for a form: with a sign where the values of its row have one; none without a row
unfoldable pub as_value : Form → List ℕ → Operand
as_value form word = cond (is_none (row_of form)) NoValue (cond (has_sign (row_of form).meaning) (signed_by (as_number word)) (unsigned_by (as_number word)))

-- what an address's low four bits tell of the slot: its number, or what objdump writes
abbrev pub slots : List (ℕ × Option ℕ)
slots = (0, Some 0) ∷ (1, Some 1) ∷ (2, Some 2) ∷ (6, Some 1) ∷ (12, Some 2) ∷ []

-- the slot
abbrev pub slot_by : ℕ → Option ℕ
slot_by low = select low slots None

-- an address with its slot, as the address of the bundle and the slot
abbrev pub place_at : ℕ → Option ℕ → Option Place
place_at address None = None
place_at address (Some slot) = Some (record { address = address; slot = slot })

abbrev pub place_of : ℕ → Option Place
place_of n = place_at (n - n % 16) (slot_by (n % 16))

abbrev pub place_by : Option Given → Option Place
place_by (Some (Unsigned n)) = place_of n
place_by (Some (Negative n)) = None
place_by None = None

-- the place that a word is
unfoldable pub as_place : List ℕ → Option Place
as_place word = place_by (as_number word)

-- the form that a word names, as `name` reads it; `-`, which is none, is refused
unfoldable pub as_form : List ℕ → Option Form
as_form word = cond (starts_with (ascii "-") word) None (after_name (name_at word 0) (λ form next. cond (next == length word) (Some form) None) None)
