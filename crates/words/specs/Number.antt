-- The number that a word is. A word is a whole text: a number has nothing before or after it. Assumes nothing.
use Rattle.std.specs.Prelude.{ℕ, ◌+◌, ◌*◌, ◌^◌, Bool, true, cond, ◌&&◌, ◌||◌, List, [], ◌∷◌, length, drop, ◌==◌, nat_le, nat_lt, Option, Some, None}
use Rattle.hex_text.specs.Hex.{digit_value}
use Rattle.table.specs.Ascii.{ascii}
use Rattle.text.specs.Ascii.{within, starts_with}
use Rattle.text.specs.Fields.{after_number}
use Rattle.text.specs.Number.{number_of}
use Rattle.words.specs.declared.outcome.Given.{Given}
use Rattle.words.specs.declared.outcome.Given.TheVariants.{Unsigned, Negative}

-- in decimal, as `text` reads it: no leading zero, below 2 ^ 64
unfoldable pub decimal_in : List ℕ → Option ℕ
decimal_in word = after_number (number_of word 0) (λ n next. cond (next == length word) (Some n) None) None

-- each byte is a hex digit, of either case
unfoldable pub are_hex : List ℕ → Bool
are_hex [] = true
are_hex (c ∷ cs) = nat_lt (digit_value c) 16 && are_hex cs

-- the number n with hex digits after it
unfoldable pub hex_worth : ℕ → List ℕ → ℕ
hex_worth n [] = n
hex_worth n (c ∷ cs) = hex_worth (n * 16 + digit_value c) cs

-- one to sixteen hex digits; leading zeros are taken
unfoldable pub hex_in : List ℕ → Option ℕ
hex_in word = cond (within 1 16 (length word) && are_hex word) (Some (hex_worth 0 word)) None

abbrev pub is_hex : List ℕ → Bool
is_hex word = starts_with (ascii "0x") word || starts_with (ascii "0X") word

-- without a sign
unfoldable pub unsigned_in : List ℕ → Option ℕ
unsigned_in word = cond (is_hex word) (hex_in (drop 2 word)) (decimal_in word)

-- so much below zero: at most 2 ^ 63, and `-0` is 0
abbrev pub negated : ℕ → Option Given
negated n = cond (n == 0) (Some (Unsigned 0)) (cond (nat_le n (2 ^ 63)) (Some (Negative n)) None)

-- what comes of a number without a sign
abbrev pub given_by : (ℕ → Option Given) → Option ℕ → Option Given
given_by f None = None
given_by f (Some n) = f n

-- the number that a word is: after one minus sign, or without
unfoldable pub as_number : List ℕ → Option Given
as_number word = cond (starts_with (ascii "-") word) (given_by negated (unsigned_in (drop 1 word))) (given_by (λ n. Some (Unsigned n)) (unsigned_in word))
