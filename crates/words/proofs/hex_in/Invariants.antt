-- `n` is what the digits so far are worth, and what is left decides the rest.
use Rattle.std.proofs.Common.{◌≡◌, ◌^◌, ◌<◌, drop}
use Rattle.words.specs.Number.{are_hex, hex_worth}
use Rattle.words.proofs.hex_in.Given as goal

abbrev pub invariant-loop-c : goal.invariant-loop-c
invariant-loop-c l =
    let i = l.c-index in
    (l.n < 16 ^ i) × (are_hex l.word ≡ are_hex (drop i l.word)) × (hex_worth 0 l.word ≡ hex_worth l.n (drop i l.word))
