-- How a word begins, and what is left of it then: one that begins with a text is as long as that, or longer. Assumes nothing.
use Rattle.std.proofs.Common.{◌≡◌, ℕ, ◌-◌, ◌≤◌, Bool, true, false, ◌||◌, List, length, take, drop, refl, ◌∙◌, arith, length-drop, take_all}
use mathlib.Core.Bool.{false≢true}
use native.Mathlib.Decide.{dec_lt}
use Rattle.table.specs.Ascii.{ascii}
use Rattle.text.specs.Ascii.{starts_with}
use Rattle.text.proofs.RoundTrip.{starts-short}
use Rattle.words.specs.Number.{is_hex}

-- what is left of a word behind its first k bytes
pub rest : (k : ℕ) (word : List ℕ) → take (length word - k) (drop k word) ≡ drop k word
rest k word = take_all (length word - k) (drop k word) (omega (arith, length-drop k word))

pub starts-long : (start text : List ℕ) → starts_with start text ≡ true → length start ≤ length text
starts-long start text e =
    elim (dec_lt (length text) (length start)) [
      | yes h ↦ absurd (false≢true (starts-short start text h ∙ e))
      | no h ↦ omega arith
    ]

pub hex-long : (word : List ℕ) → is_hex word ≡ true → 2 ≤ length word
hex-long word e = by (starts_with (ascii "0x") word) (starts_with (ascii "0X") word) refl refl e
  where
    by : (s t : Bool) → starts_with (ascii "0x") word ≡ s → starts_with (ascii "0X") word ≡ t → (s || t) ≡ true → 2 ≤ length word
    by true t p q e = starts-long (ascii "0x") word p
    by false true p q e = starts-long (ascii "0X") word q
    by false false p q e = absurd (false≢true e)
