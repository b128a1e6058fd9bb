-- In a `match` on some bits of a word, of which some fields are known, an arm's opcode is the table's. Assumes nothing.
use mathlib.Core.Path.{◌≡◌, ap}
use mathlib.Core.List.{List}
use Prim.Native.Nat.{ℕ}
use lib.Dec.{T}
use Rattle.bits.specs.Part.{part}
use Rattle.table.specs.Entry.{Field, Entry, holds, chosen}
use Rattle.table.proofs.Narrow.{left, in-arm}
use Rattle.form.specs.declared.Form.{Form}
use Rattle.opcodes.specs.declared.Opcode.{Opcode}
use Rattle.opcodes.specs.Tables.{none, short}

pub arm : (table : List (Entry (Opcode × Form))) (fs : List Field) (place width word : ℕ) → T (holds fs word) → (n : ℕ) → n ≡ part word place width → {k : ℕ} → n ≡ k
    → short (left fs (place, width, k) table word none) ≡ short (chosen table word none)
arm table fs place width word known n is q = ap short (in-arm word fs known place width n is table none q)
