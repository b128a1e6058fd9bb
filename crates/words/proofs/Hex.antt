-- Hex digits read one at a time, from a place of a word on: a digit more is so much more worth, and as many as sixteen stay below 2 ^ 64.
-- Assumes nothing.
use Rattle.std.proofs.Common.{◌≡◌, ℕ, ◌+◌, ◌*◌, ◌^◌, ◌<◌, ◌≤◌, true, false, List, length, get_or, drop, pow-suc, add-one, arith, lit<, drop_of_length-le, drop-cons, le-ltb, lt-ltb}
use native.Mathlib.Nat.{pow-le-pow_right}
use Rattle.hex_text.specs.Hex.{digit_value}
use Rattle.words.specs.Number.{are_hex, hex_worth}

module _ (word : List ℕ) (i : ℕ) where
  -- past the end
  pub all-hex : length word ≤ i → are_hex (drop i word) ≡ true
  unfolding are_hex
  all-hex h = rw (drop_of_length-le word h)

  pub all-worth : (n : ℕ) → length word ≤ i → hex_worth n (drop i word) ≡ n
  unfolding hex_worth
  all-worth n h = rw (drop_of_length-le word h)

  -- a byte more
  module _ (h : i < length word) where
    abbrev digit : ℕ
    digit = digit_value (get_or word i 0)

    pub not-hex : 16 ≤ digit → are_hex (drop i word) ≡ false
    unfolding are_hex
    not-hex l = rw (drop-cons word i 0 h, le-ltb digit 16 l)

    pub more-hex : digit < 16 → are_hex (drop i word) ≡ are_hex (drop (i + 1) word)
    unfolding are_hex
    more-hex l = rw (add-one, drop-cons word i 0 h, lt-ltb digit 16 l)

    pub more-worth : (n : ℕ) → hex_worth n (drop i word) ≡ hex_worth (n * 16 + digit) (drop (i + 1) word)
    unfolding hex_worth
    more-worth n = rw (add-one, drop-cons word i 0 h)

-- what i digits are worth, and one more
pub next-lt : (n i digit : ℕ) → n < 16 ^ i → digit < 16 → n * 16 + digit < 16 ^ (i + 1)
next-lt n i digit h l = rw add-one (omega (arith, pow-suc 16 i))

pub few-lt : (n i : ℕ) → n < 16 ^ i → i < 16 → n < 2 ^ 60
few-lt n i h l = let few : i ≤ 15 = omega arith in omega (arith, pow-le-pow_right {n = 16} (lit< tt) few)
