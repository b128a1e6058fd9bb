-- What decoding makes of a turn: it comes to what is left of the text gives in the room that is left, after the bytes in place already.
-- Assumes nothing.
use mathlib.Core.Path.{◌≡◌, refl, sym, ap, ◌∙◌}
use mathlib.Core.List.{List, [], ◌∷◌, ◌++◌, append-nil}
use Prim.Native.Nat.{ℕ, suc, ◌+◌, ◌-◌, ◌<◌, ◌≤◌, min}
use native.Mathlib.Nat.{add-zero, add-suc, suc-add}
use native.Mathlib.Numerals.{add-one}
use native.Mathlib.Omega.{arith}
use lib.ListN.{length, take, drop, set, length-append, drop_of_length-le}
use lib.Seq.{take_all, take-append_seam, drop_at}
use Rattle.hex_text.specs.declared.Decoded.{Decoded}
use Rattle.hex_text.specs.declared.Ending.{Ending}
use Rattle.hex_text.specs.declared.Ending.TheVariants.{Whole}
use Rattle.std.specs.declared.result.Result.TheVariants.{Ok, Err}
use Rattle.hex_text.specs.Hex.{Bytes, front, hex_bytes}
use Rattle.text.specs.Put.{written}
use Rattle.hex_text.proofs.Enough.{front-three}
use Rattle.hex_text.proofs.Fronts.{byte-room, read-stop, read_byte}

-- what is handed back where these bytes come after the first `count`, which stand in `out`
abbrev pub more : ℕ → List ℕ → Bytes → Decoded × List ℕ
more count out bytes = (record { count = count + length bytes.0; ending = bytes.1 }, written out count bytes.0)

-- the three characters at a text's front, or as many as there are, tell what stands there, and the others come after three
pub record Cut (text three rest : List ℕ) : Type 0 where
  pub alike : (room : ℕ) → front room three ≡ front room text
  pub others : rest ≡ drop 3 text

pieces : (three rest : List ℕ) → length three ≡ min 3 (length (three ++ rest)) → (three ≡ take 3 (three ++ rest)) × (rest ≡ drop 3 (three ++ rest))
pieces three [] n =
    let short : length three ≤ 3 = omega arith in
    rw (append-nil three) (sym (take_all 3 three short), sym (drop_of_length-le three short))
pieces three (c ∷ rest) n =
    let long : length three ≡ 3 = omega (arith, length-append three (c ∷ rest)) in
    (sym (take-append_seam three (c ∷ rest)) ∙ ap (λ (k : ℕ). take k (three ++ (c ∷ rest))) long, sym (drop_at three (c ∷ rest) 3 long))

pub cut : (text three rest : List ℕ) → text ≡ three ++ rest → length three ≡ min 3 (length text) → Cut text three rest
cut text three rest e n =
    let p = pieces three rest (n ∙ ap (λ (t : List ℕ). min 3 (length t)) e) in
    record { alike = λ room. ap (front room) (p.0 ∙ ap (take 3) (sym e)) ∙ front-three room 0 text; others = p.1 ∙ ap (drop 3) (sym e) }

no_more : (text : List ℕ) → length text ≡ 0 → text ≡ []
no_more [] e = refl
no_more (c ∷ text) e = absurd (omega arith)

-- a turn that reads the byte b: it has room, and what comes after it comes after one byte more
pub record Turn (out₀ out text : List ℕ) (count b : ℕ) : Type 0 where
  pub room : count < length out
  pub read : more count out (hex_bytes (length out₀ - count) text) ≡ more (count + 1) (set out count b) (hex_bytes (length out₀ - (count + 1)) (drop 3 text))

module _ (out₀ out text : List ℕ) (count : ℕ) (size : length out ≡ length out₀) where
  pub turn : (b : ℕ) → front (length out - count) text ≡ Ok b → Turn out₀ out text count b
  turn b f =
      let room : count < length out = omega (arith, byte-room (length out - count) text f) in
      let e : length out₀ - count ≡ suc (length out₀ - (count + 1)) = omega arith in
      record { room = room; read = rw (e, read_byte _ text b (rw (size, e) at f), add-suc count, add-one count, suc-add count) }

  pub stopped : (e : Ending) → front (length out - count) text ≡ Err e → (record { count = count; ending = e }, out) ≡ more count out (hex_bytes (length out₀ - count) text)
  stopped e f = rw (← size, read-stop _ text e f, add-zero)

  pub ended : length text ≡ 0 → (record { count = count; ending = Whole }, out) ≡ more count out (hex_bytes (length out₀ - count) text)
  unfolding front
  ended n = stopped Whole (rw (no_more text n))
