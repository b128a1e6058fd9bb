-- Bytes as text: two hex digits each. Read, they are parted by one space or newline; written, by nothing. Assumes nothing.
use Rattle.std.specs.Prelude.{ℕ, zero, suc, ◌+◌, ◌-◌, ◌*◌, ◌/◌, ◌%◌, Bool, true, cond, ◌||◌, List, [], ◌∷◌, ltb, eqb, length, drop}
use Rattle.text.specs.Ascii.{within}
use Rattle.hex_text.specs.declared.Decoded.{Decoded}
use Rattle.hex_text.specs.declared.Ending.{Ending}
use Rattle.hex_text.specs.declared.Ending.TheVariants.{Whole, BadHex, TooLong}
use Rattle.std.specs.declared.result.Result.{Result}
use Rattle.std.specs.declared.result.Result.TheVariants.{Ok, Err}
use Rattle.text.specs.Put.{written}

-- the value of a hex digit: `0` to `9`, `A` to `F`, `a` to `f`; 16 for any other byte
unfoldable pub digit_value : ℕ → ℕ
digit_value c = cond (within 48 57 c) (c - 48) (cond (within 65 70 c) (c - 55) (cond (within 97 102 c) (c - 87) 16))

-- what may follow a byte: nothing, or a text that begins with a space or newline
abbrev pub is_separator : ℕ → Bool
is_separator c = eqb c 32 || eqb c 10

unfoldable pub parted : List ℕ → Bool
parted [] = true
parted (c ∷ rest) = is_separator c

-- two digits' values: a digit that is none, then no room, then no separator where `ends` is false; else their byte
unfoldable pub pair_of : ℕ → ℕ → ℕ → Bool → Result ℕ Ending
pair_of high low room ends =
    cond (ltb 15 high || ltb 15 low) (Err BadHex) (cond (eqb room 0) (Err TooLong) (cond ends (Ok (high * 16 + low)) (Err BadHex)))

-- what stands at the front of a text where `room` bytes may still come
unfoldable pub front : ℕ → List ℕ → Result ℕ Ending
front room [] = Err Whole
front room (a ∷ []) = Err BadHex
front room (a ∷ b ∷ rest) = pair_of (digit_value a) (digit_value b) room (parted rest)

-- the bytes read, and how reading ended
abbrev pub Bytes : Type 0
Bytes = List ℕ × Ending

-- a byte and those after it, or the end
abbrev pub go_on : Result ℕ Ending → Bytes → Bytes
go_on (Ok b) rest = (b ∷ rest.0, rest.1)
go_on (Err e) rest = ([], e)

-- the bytes that a text gives, of which there may be `room`, three characters for each
unfoldable pub hex_bytes : ℕ → List ℕ → Bytes
hex_bytes zero text = go_on (front zero text) ([], TooLong)
hex_bytes (suc room) text = go_on (front (suc room) text) (hex_bytes room (drop 3 text))

-- what decoding into `out` answers and leaves there: the bytes read, from its start on
abbrev pub decoded_as : Bytes → List ℕ → Decoded × List ℕ
decoded_as bytes out = (record { count = length bytes.0; ending = bytes.1 }, written out 0 bytes.0)

-- the same of a text, where `out` is the room
unfoldable pub decoded_of : List ℕ → List ℕ → Decoded × List ℕ
decoded_of text out = decoded_as (hex_bytes (length out) text) out

-- the digit of a value below 16, in lower case
abbrev pub digit_of : ℕ → ℕ
digit_of value = cond (ltb value 10) (48 + value) (87 + value)

-- the text of some bytes
abbrev pub hex_of : List ℕ → List ℕ
hex_of [] = []
hex_of (b ∷ bytes) = digit_of (b / 16) ∷ digit_of (b % 16) ∷ hex_of bytes
