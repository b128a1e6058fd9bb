-- A reading: the last-written position and five operands, `None` where one is not used. Assumes nothing.
use Rattle.std.specs.Prelude.{ℕ, zero, suc, Bool, cond, List, [], ◌∷◌, Option, Some, None}
use Rattle.operand.specs.declared.Operand.{Operand}
use Rattle.operand.specs.declared.Operand.TheVariants.{None as NoOperand}
use Rattle.operand.specs.declared.Shown.{Shown}
use Rattle.operand.specs.declared.Reading.{Reading}

abbrev pub shown : Operand → Shown
shown o = record { 0 = o }

-- the first `n` operands of a list, `None` past its end
abbrev pub padded : ℕ → List Operand → List Shown
padded zero os = []
padded (suc n) [] = shown NoOperand ∷ padded n []
padded (suc n) (o ∷ os) = shown o ∷ padded n os

-- the reading with that position, none or an operand's number, and those operands
abbrev pub listed : Option ℕ → List Operand → Reading
listed p os = record { position = p; operands = padded 5 os }

-- no position, five `None`
abbrev pub unread : Reading
unread = listed None []

-- 000's `one_op`: position 0, or none
abbrev pub one : Bool → Operand → Reading
one dest o = listed (cond dest (Some 0) None) (o ∷ [])
