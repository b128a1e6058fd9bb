-- A byte written is its two digits written.
use Rattle.std.proofs.Common.{◌≡◌, ℕ, suc, zero, ◌/◌, ◌%◌, ◌<◌, List, [], ◌∷◌, ◌++◌, length, get_or, take, arith, refl, add-one}
use lib.Seq.{append_snoc}
use Rattle.hex_text.specs.Hex.{digit_of, hex_of}
use Rattle.text.proofs.Writing.{put_then}
use Rattle.hex_text.proofs.put_hex.Goals as goal

-- as far as the first i bytes
hex-next : (i : ℕ) (bytes : List ℕ) → i < length bytes → let b = get_or bytes i 0 in hex_of (take (suc i) bytes) ≡ hex_of (take i bytes) ++ (digit_of (b / 16) ∷ digit_of (b % 16) ∷ [])
hex-next i [] h = absurd (omega arith)
hex-next zero (b ∷ bytes) h = refl
hex-next (suc i) (b ∷ bytes) h = rw (hex-next i bytes (omega arith))

pub loop-byte-preserved : goal.loop-byte-preserved
loop-byte-preserved c =
    let l = c.loop-byte in
    let i = l.byte-index in
    let p = put_then (omega arith) (put_then (omega arith) l.invariant c.put_byte-next.ensures) c.put_byte-next-in-loop-byte.ensures in
    rw (add-one, hex-next i c.args.bytes.now (omega arith), ← c.digit.ensures, ← c.digit-in-loop-byte.ensures, ← append_snoc (hex_of (take i c.args.bytes.now))) p
