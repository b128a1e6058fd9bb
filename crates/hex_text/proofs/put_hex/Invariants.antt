-- The bytes so far are written.
use Rattle.std.proofs.Common.{take}
use Rattle.hex_text.specs.Hex.{hex_of}
use Rattle.text.specs.Put.{Put}
use Rattle.hex_text.proofs.put_hex.Given as goal

abbrev pub invariant-loop-byte : goal.invariant-loop-byte
invariant-loop-byte l = Put l.fn.out l.at (hex_of (take l.byte-index l.bytes)) l.out l.next
