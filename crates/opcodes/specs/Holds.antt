-- What request #110 asks of the tables, beside that they are 000's. Proved in `proofs/Holds.antt`. Assumes nothing.
use Rattle.std.specs.Prelude.{ℕ, ◌<◌, ◌≡◌, false}
use Rattle.bits.specs.Part.{part}
use Rattle.table.specs.Entry.{answered, AtMostOne, AnyPlace}
use Rattle.opcodes.specs.Tables.{a_table, b_table, none}

-- at most one entry of each table answers a word
abbrev pub OneAnswers : Type 0
OneAnswers = AtMostOne a_table × AtMostOne b_table

-- so it does not matter where in its table an entry stands: one that answers is the one that is chosen
abbrev pub OrderIsFree : Type 0
OrderIsFree = AnyPlace a_table none × AnyPlace b_table none

-- no entry of A's table answers a word whose major opcode is below 8
abbrev pub FromEight : Type 0
FromEight = (word : ℕ) → part word 37 4 < 8 → answered a_table word ≡ false
