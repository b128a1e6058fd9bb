-- A field grows by the byte below it, and eight bytes are a number below 2 ^ 64; where a header stands, case by case. Assumes nothing.
use mathlib.Core.Path.{◌≡◌, refl, ap, ◌∙◌}
use Rattle.std.proofs.lemmas.List.{drop_all, drop-replicate, length-append, length-replicate, length-take, length-drop}
use mathlib.Core.List.{List, [], ◌∷◌, ◌++◌}
use Prim.Native.Nat.{ℕ, zero, suc, ◌+◌, ◌-◌, ◌*◌, ◌≤◌, ◌<◌}
use native.Mathlib.Decide.{dec_lt}
use native.Mathlib.Omega.{arith}
use borrow.Author.Tests.{le-leb, lt-leb, le-ltb, lt-ltb}
use lib.ListN.{length, get_or, take, drop, replicate}
use Rattle.bundle.specs.Bytes.{number}
use Rattle.std.specs.Prelude.{Some, None}
use Rattle.std.specs.Int.{w64, from_le_bytes}
use Rattle.answer.specs.Answer.{accepted}
use Rattle.elf.specs.Elf.{field, number_of, header_place}
use Rattle.elf.specs.declared.Refusal.{Refusal}
use Rattle.elf.specs.declared.Refusal.TheVariants.{NotClass64, NotLittleEndian, NotItanium, Relocatable}
use Rattle.elf.specs.declared.Table.{Table}

-- a number as its first byte and the rest, and zeros after its bytes
number-first : (bs : List ℕ) → number bs ≡ get_or bs 0 0 + 256 * number (drop 1 bs)
unfolding number
number-first [] = refl
number-first (b ∷ bs) = refl

number-zeros : (k : ℕ) → number (replicate k 0) ≡ 0
unfolding number
number-zeros zero = refl
number-zeros (suc k) = omega (arith, number-zeros k)

pub number-padded : (bs : List ℕ) (k : ℕ) → number (bs ++ replicate k 0) ≡ number bs
unfolding number
number-padded [] k = number-zeros k
number-padded (b ∷ bs) k = omega (arith, number-padded bs k)

-- eight bytes are the number that they are summed to
from-byte : (bs : List ℕ) (i : ℕ) → number (drop i bs) ≡ get_or bs i 0 + 256 * number (drop (suc i) bs)
unfolding number
from-byte bs zero = number-first bs
from-byte [] (suc i) = refl
from-byte (b ∷ bs) (suc i) = from-byte bs i

number-of-eight : (bs : List ℕ) → length bs ≡ 8 → from_le_bytes w64 bs ≡ number bs
number-of-eight bs h =
    let none : number (drop 8 bs) ≡ 0 = ap number (drop_all 8 bs (omega arith)) ∙ number-zeros 0 in
    omega (arith, from-byte bs 0, from-byte bs 1, from-byte bs 2, from-byte bs 3, from-byte bs 4, from-byte bs 5, from-byte bs 6, from-byte bs 7, none)

-- eight bytes are a field that stands first in them, before zeros
pub read-of-eight : (bytes part : List ℕ) (at width result : ℕ) → width ≤ 8 → at + width ≤ length bytes → part ≡ take (at + width - at) (drop at bytes) → result ≡ from_le_bytes w64 (part ++ drop width (replicate {A = ℕ} 8 0)) → result ≡ field bytes at width
unfolding field
read-of-eight bytes part at width result w h p r =
    let rest : drop width (replicate {A = ℕ} 8 0) ≡ replicate (8 - width) 0 = drop-replicate width 8 0 in
    let same : at + width - at ≡ width = omega arith in
    let long : length part ≡ width = rw p (simp (length-take, length-drop) (omega arith)) in
    let all : length (part ++ replicate {A = ℕ} (8 - width) 0) ≡ 8 = simp (length-append, length-replicate) (omega arith) in
    r ∙ rw rest (number-of-eight (part ++ replicate (8 - width) 0) all ∙ number-padded part (8 - width) ∙ rw (p, same) refl)

-- a refusal's number isn't what is answered where there is none
pub no-acceptance : (refusal : Refusal) → number_of refusal ≡ accepted → ⊥
no-acceptance NotClass64 e = absurd (omega arith)
no-acceptance NotLittleEndian e = absurd (omega arith)
no-acceptance NotItanium e = absurd (omega arith)
no-acceptance Relocatable e = absurd (omega arith)

-- a header, by where it would stand
module _ (t : Table) (k need length : ℕ) where
  pub no-entry : t.count ≤ k → None ≡ header_place t k need length
  unfolding header_place
  no-entry h = rw (le-ltb k t.count h)

  pub entry_past : length < t.offset + t.size * k + need → None ≡ header_place t k need length
  unfolding header_place
  entry_past h =
      elim (dec_lt k t.count) [
        | yes l ↦ rw (lt-ltb k t.count l, lt-leb (t.offset + t.size * k + need) length h)
        | no l ↦ no-entry (omega arith)
      ]

  pub entry-is : k < t.count → t.offset + t.size * k + need ≤ length → Some (t.offset + t.size * k) ≡ header_place t k need length
  unfolding header_place
  entry-is l h = rw (lt-ltb k t.count l, le-leb (t.offset + t.size * k + need) length h)
