-- Decoding comes to what is left of the text gives in the room that is left, after the bytes in place already.
use Rattle.std.proofs.Common.{◌≡◌, ◌-◌, ◌≤◌, length}
use Rattle.std.specs.Slice.Iter.{chunks_rest, chunks_size}
use Rattle.hex_text.specs.Hex.{hex_bytes, decoded_of}
use Rattle.hex_text.proofs.Turns.{more}
use Rattle.hex_text.proofs.decode.Given as goal

abbrev pub invariant-loop-three : goal.invariant-loop-three
invariant-loop-three l =
    (chunks_size l.three-iterator ≡ 3)
    × (l.count ≤ length l.fn.out)
    × (length l.out ≡ length l.fn.out)
    × (decoded_of l.text l.fn.out ≡ more l.count l.out (hex_bytes (length l.fn.out - l.count) (chunks_rest l.three-iterator)))
