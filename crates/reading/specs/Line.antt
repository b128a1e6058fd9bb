-- The words of the readers' tables: a line has a form's number, the last-written position, and for each operand what it is and from
-- which bits. Assumes nothing.
use Rattle.std.specs.Prelude.{ℕ, zero, suc, ◌+◌, ◌-◌, ◌*◌, ◌^◌, List, [], ◌∷◌, Some, None, ℤ, pos, negsuc, ◌+ℤ◌}
use Rattle.table.specs.Table.{select}
use Rattle.bits.specs.Part.{part, above, bit}
use Rattle.operand.specs.Reading.{listed, unread}
use Rattle.operand.specs.declared.Operand.{Operand}
use Rattle.operand.specs.declared.Operand.TheVariants as op
use Rattle.operand.specs.declared.IndirectionReg.{IndirectionReg}
use Rattle.operand.specs.declared.Reading.{Reading}
use Rattle.reading.specs.declared.Difference.{Difference}

-- what is worked out of the form's word and the L word
abbrev pub Of : Type 0 → Type 0
Of A = ℕ → ℕ → A

-- some bits: how many, and the number that they are
abbrev pub Bits : Type 0
Bits = ℕ × Of ℕ

infix 80 ◌‥◌ ◌‥ᴸ◌
-- 000's `word[from..end]`: bits `from` to `end - 1` of the form's word
abbrev pub ◌‥◌ : ℕ → ℕ → Bits
from ‥ end = (end - from, λ word l. part word from (end - from))

-- the same of the L word
abbrev pub ◌‥ᴸ◌ : ℕ → ℕ → Bits
from ‥ᴸ end = (end - from, λ word l. part l from (end - from))

-- the bits of a list as one number, lowest first
abbrev pub together : List Bits → Of ℕ
together [] word l = 0
together (b ∷ []) word l = b.1 word l
together (b ∷ c ∷ bs) word l = above b.0 (b.1 word l) (together (c ∷ bs) word l)

-- how many they are
abbrev pub width : List Bits → ℕ
width [] = 0
width (b ∷ bs) = b.0 + width bs

-- x less y, as an integer
abbrev pub less : ℕ → ℕ → ℤ
less x zero = pos x
less x (suc y) = pos x +ℤ negsuc y

-- an immediate with a sign: the number of the bits below the sign, less what the sign counts
abbrev pub difference : Difference → Operand
difference d = op.ImmI64 (less d.0 d.1)

abbrev pub gp : Bits → Of Operand
gp b word l = op.GPRegister (record { 0 = b.1 word l })

abbrev pub fp : Bits → Of Operand
fp b word l = op.FloatRegister (record { 0 = b.1 word l })

abbrev pub pr : Bits → Of Operand
pr b word l = op.PredicateRegister (record { 0 = b.1 word l })

abbrev pub br : Bits → Of Operand
br b word l = op.BranchRegister (record { 0 = b.1 word l })

abbrev pub ar : Bits → Of Operand
ar b word l = op.ApplicationRegister (record { 0 = b.1 word l })

abbrev pub cr : Bits → Of Operand
cr b word l = op.ControlRegister (record { 0 = b.1 word l })

-- memory at the address in a general register
abbrev pub mem : Bits → Of Operand
mem b word l = op.Memory (record { 0 = b.1 word l })

-- a register that is given by a general register's contents
abbrev pub ind : IndirectionReg → Bits → Of Operand
ind i b word l = op.Indirection i (record { 0 = b.1 word l })

-- an `ImmU64`
abbrev pub u64 : List Bits → Of Operand
u64 bs word l = op.ImmU64 (together bs word l)

-- an `ImmI64` that is never negative
abbrev pub i64 : List Bits → Of Operand
i64 bs word l = difference (record { 0 = together bs word l; 1 = 0 })

-- an `ImmI64` with its sign at a place of the word
abbrev pub s64 : List Bits → ℕ → Of Operand
s64 bs sign word l = difference (record { 0 = together bs word l; 1 = 2 ^ width bs * bit word sign })

-- the same times 16
abbrev pub s64×16 : List Bits → ℕ → Of Operand
s64×16 bs sign word l = difference (record { 0 = 2 ^ 4 * together bs word l; 1 = 2 ^ (4 + width bs) * bit word sign })

-- an `ImmU64` in which every bit above is the sign, at a place of the word
abbrev pub extended : List Bits → ℕ → Of Operand
extended bs sign word l = op.ImmU64 (above (width bs) (together bs word l) ((2 ^ (64 - width bs) - 1) * bit word sign))

-- an `ImmU64` that is one more than the bits
abbrev pub count : Bits → Of Operand
count b word l = op.ImmU64 (b.1 word l + 1)

-- an `ImmU64` that is as much less than 63 as the bits are
abbrev pub cpos : Bits → Of Operand
cpos b word l = op.ImmU64 (63 - b.1 word l)

-- an `ImmU64` that is 16 where the bit is set and 8 where it is not
abbrev pub size : ℕ → Of Operand
size place word l = op.ImmU64 (8 + 8 * bit word place)

-- an operand that no bit decides; a general or an application register that none decides
abbrev pub is : Operand → Of Operand
is o word l = o

abbrev pub gp-is : ℕ → Of Operand
gp-is n = is (op.GPRegister (record { 0 = n }))

abbrev pub ar-is : ℕ → Of Operand
ar-is n = is (op.ApplicationRegister (record { 0 = n }))

abbrev pub each : {A B : Type 0} → (A → B) → List (ℕ × A) → List (ℕ × B)
each f [] = []
each f (e ∷ es) = (e.0, f e.1) ∷ each f es

-- by what the bits are: `f` of the entry that has that key, and `other` where none has
abbrev pub by : {A B : Type 0} → Bits → List (ℕ × A) → (A → Of B) → Of B → Of B
by b cases f other word l = select (b.1 word l) (each f cases) other word l

abbrev pub operands_read : List (Of Operand) → Of (List Operand)
operands_read [] word l = []
operands_read (f ∷ fs) word l = f word l ∷ operands_read fs word l

-- those operands, of which the last that is written stands at a position; or none is written
abbrev pub dest : ℕ → List (Of Operand) → Of Reading
dest n fs word l = listed (Some n) (operands_read fs word l)

abbrev pub no-dest : List (Of Operand) → Of Reading
no-dest fs word l = listed None (operands_read fs word l)

-- a family's table: its lines
abbrev pub Forms : Type 0
Forms = List (ℕ × Of Reading)

infix 70 ◌⇒◌
abbrev pub ◌⇒◌ {ℓ} : {A : Type ℓ} → ℕ → A → ℕ × A
n ⇒ a = (n, a)

-- the reading that a table has for a number, and none where it has no line
abbrev pub reading_of : Forms → ℕ → Of Reading
reading_of forms number = select number forms (λ word l. unread)
