-- What reading on makes of what stands at the front of a text of hex bytes, and what decoding hands back. By the clauses of `front` and
-- `hex_bytes`. Assumes nothing.
use mathlib.Core.Path.{◌≡◌, refl, ap}
use mathlib.Core.Bool.{Bool, true, false, cond, ◌||◌}
use mathlib.Core.List.{List, [], ◌∷◌}
use Prim.Native.Nat.{ℕ, zero, suc, ◌≤◌, ◌<◌}
use native.Mathlib.Omega.{arith}
use lib.Dec.{ltb, lit≤}
use lib.ListN.{length, get_or, take, drop}
use lib.Seq.{take-append_seam}
use Rattle.hex_text.specs.declared.Decoded.{Decoded}
use Rattle.hex_text.specs.declared.Ending.{Ending}
use Rattle.hex_text.specs.declared.Ending.TheVariants.{Whole, BadHex, TooLong}
use Rattle.std.specs.declared.result.Result.{Result}
use Rattle.std.specs.declared.result.Result.TheVariants.{Ok, Err}
use Rattle.hex_text.specs.Hex.{digit_value, is_separator, parted, pair_of, front, Bytes, go_on, hex_bytes, decoded_of}
use Rattle.text.proofs.Writing.{written_start}

-- a byte has room and text
module _ {b : ℕ} where
  no_byte : (t : Bool) → cond t (Err BadHex) (Err TooLong) ≡ Ok b → ⊥
  no_byte true e = let z : ◌≡◌ {A = ℕ} 0 1 = cc in omega arith
  no_byte false e = let z : ◌≡◌ {A = ℕ} 0 1 = cc in omega arith

  pub byte-room : (room : ℕ) (t : List ℕ) → front room t ≡ Ok b → 0 < room
  unfolding front pair_of
  byte-room (suc room) t e = omega arith
  byte-room zero [] e = let z : ◌≡◌ {A = ℕ} 0 1 = cc in absurd (omega arith)
  byte-room zero (x ∷ []) e = let z : ◌≡◌ {A = ℕ} 0 1 = cc in absurd (omega arith)
  byte-room zero (x ∷ y ∷ t) e = absurd (no_byte (ltb 15 (digit_value x) || ltb 15 (digit_value y)) e)

-- what stands at the front of a text, by its length
module _ (room : ℕ) where
  pub front-empty : (t : List ℕ) → length t ≡ 0 → Err Whole ≡ front room t
  unfolding front
  front-empty [] h = refl
  front-empty (x ∷ t) h = absurd (omega arith)

  pub front-one : (t : List ℕ) → length t ≡ 1 → Err BadHex ≡ front room t
  unfolding front
  front-one [] h = absurd (omega arith)
  front-one (x ∷ []) h = refl
  front-one (x ∷ y ∷ t) h = absurd (omega arith)

  pub front-two : (t : List ℕ) → length t ≡ 2 → pair_of (digit_value (get_or t 0 0)) (digit_value (get_or t 1 0)) room true ≡ front room t
  unfolding front parted
  front-two [] h = absurd (omega arith)
  front-two (x ∷ []) h = absurd (omega arith)
  front-two (x ∷ y ∷ []) h = refl
  front-two (x ∷ y ∷ z ∷ t) h = absurd (omega arith)

  pub front-more : (t : List ℕ) → 3 ≤ length t → pair_of (digit_value (get_or t 0 0)) (digit_value (get_or t 1 0)) room (is_separator (get_or t 2 0)) ≡ front room t
  unfolding front parted
  front-more [] h = absurd (omega arith)
  front-more (x ∷ []) h = absurd (omega arith)
  front-more (x ∷ y ∷ []) h = absurd (omega arith)
  front-more (x ∷ y ∷ z ∷ t) h = refl

-- reading on
pub read-stop : (room : ℕ) (t : List ℕ) (e : Ending) → front room t ≡ Err e → hex_bytes room t ≡ ([], e)
unfolding hex_bytes
read-stop zero t e h = rw h
read-stop (suc room) t e h = rw h

pub read_byte : (room : ℕ) (t : List ℕ) (b : ℕ) → front (suc room) t ≡ Ok b → hex_bytes (suc room) t ≡ go_on (Ok b) (hex_bytes room (drop 3 t))
unfolding hex_bytes
read_byte room t b h = rw h

-- no more bytes are read than there is room for
none_read : (f : Result ℕ Ending) (r : Bytes) → ((b : ℕ) → f ≡ Ok b → ⊥) → length (go_on f r).0 ≤ 0
none_read (Ok b) r n = absurd (n b refl)
none_read (Err e) r n = lit≤ tt

one-read : (f : Result ℕ Ending) (r : Bytes) (room : ℕ) → length r.0 ≤ room → length (go_on f r).0 ≤ suc room
one-read (Ok b) r room h = omega arith
one-read (Err e) r room h = omega arith

pub hex-room : (room : ℕ) (t : List ℕ) → length (hex_bytes room t).0 ≤ room
unfolding hex_bytes
hex-room zero t = none_read (front zero t) ([], TooLong) (λ b e. omega (arith, byte-room zero t e))
hex-room (suc room) t = one-read (front (suc room) t) (hex_bytes room (drop 3 t)) room (hex-room room (drop 3 t))

-- what decoding hands back where there is so much room, and where its bytes stand
pub record Handed (text : List ℕ) (room : ℕ) (r : Decoded) (out : List ℕ) : Type 0 where
  pub ending : r.ending ≡ (hex_bytes room text).1
  pub within : r.count ≤ room
  pub bytes : take r.count out ≡ (hex_bytes room text).0

pub handed : (text out : List ℕ) {r : Decoded} {out' : List ℕ} → (r, out') ≡ decoded_of text out → Handed text (length out) r out'
unfolding decoded_of
handed text out {r} {out'} e =
    let bytes = (hex_bytes (length out) text).0 in
    let n : r.count ≡ length bytes = ap (λ (d : Decoded × List ℕ). d.0.count) e in
    record {
      ending = ap (λ (d : Decoded × List ℕ). d.0.ending) e;
      within = omega (arith, hex-room (length out) text);
      bytes = rw (n, ap (λ (d : Decoded × List ℕ). d.1) e, written_start out bytes (hex-room (length out) text)) (take-append_seam bytes _);
    }
