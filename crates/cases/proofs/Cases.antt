-- Document 01's cases that are marked P, M17's eight words, and a word for each I form that 000 reads otherwise than the manual, all
-- together by one computed check: what 000 shows of a word, and beside it the immediate that the manual reads from it in a bundle. M10
-- shows what the given 000 reads, an increment of 0 as in the manual, and not 01's 1: see the line "M10" of docs/DIFFERENCES.md.
-- Assumes nothing.
use mathlib.Core.Path.{◌≡◌, refl}
use mathlib.Core.List.{List, [], ◌∷◌}
use Rattle.std.specs.Prelude.{Some, None as Nowhere}
use Prim.Native.Nat.{ℕ, ◌-◌, ◌^◌}
use lib.IntN.{pos, negsuc}
use Rattle.answer.specs.Answer.{accepted, bad_form}
use Rattle.bits.specs.Parts.{gather}
use Rattle.bundle.specs.Bytes.{number, bytes}
use Rattle.bundle.specs.Template.{units_of}
use Rattle.bundle.specs.Bundle.{joined, find_answer}
use Rattle.operand.specs.Reading.{listed}
use Rattle.operand.specs.declared.Operand.{Operand}
use Rattle.operand.specs.declared.Operand.TheVariants.{None, GPRegister, FloatRegister, PredicateRegister, BranchRegister, ImmI64, ImmU64, Memory, PR}
use Rattle.operand.specs.declared.Reading.{Reading}
use Rattle.form.specs.Form.{a, b, m, x, is_form}
use Rattle.form.specs.Form.{i as i_form}
use Rattle.form.specs.declared.Form.{Form}
use Rattle.readers.specs.Call.{operands_of, is_bad}
use Rattle.row.specs.Row.{lines, row_of}
use Rattle.immediate.specs.Immediate.{Immediate, immediate_in, immediate_of, Target, target_in, target_of}

abbrev each : {A B : Type 0} → (A → B) → List A → List B
each f [] = []
each f (c ∷ cs) = f c ∷ each f cs

-- what 000 shows, and what the manual reads
pub record Case : Type 0 where
  pub shown : Reading
  pub read : Immediate

-- a bundle that has the word in slots 0 and 2, and L in slot 1
abbrev bundle : ℕ → ℕ → ℕ → List ℕ
bundle tag word l = bytes 16 (joined tag (word ∷ l ∷ word ∷ []))

abbrev at : ℕ → ℕ → Form → ℕ → ℕ → Case
at tag slot form word l =
    record { shown = (operands_of form word l).reading; read = immediate_of (bundle tag word l) 0 slot form }

-- in slot 2 of an MII, an MIB and an MLX, and in slot 0 of an MMI
abbrev in_i : Form → ℕ → Case
in_i form word = at 0 2 form word 0

abbrev in_b : Form → ℕ → Case
in_b form word = at 16 2 form word 0

abbrev in_x : Form → ℕ → ℕ → Case
in_x = at 4 2

abbrev in_m : Form → ℕ → Case
in_m form word = at 8 0 form word 0

-- operands and values
abbrev writes : List Operand → Reading
writes = listed (Some 0)

abbrev shows : List Operand → Reading
shows = listed Nowhere

abbrev r0 : Operand
r0 = GPRegister (record { 0 = 0 })

abbrev f1 : Operand
f1 = FloatRegister (record { 0 = 1 })

abbrev p : ℕ → Operand
p n = PredicateRegister (record { 0 = n })

abbrev b0 : Operand
b0 = BranchRegister (record { 0 = 0 })

abbrev memory : Operand
memory = Memory (record { 0 = 0 })

abbrev i : ℕ → Operand
i n = ImmI64 (pos n)

abbrev below : ℕ → Operand
below n = ImmI64 (negsuc (n - 1))

abbrev u : ℕ → Operand
u n = ImmU64 n

infix 75 ◌beside◌ ◌alone
abbrev ◌beside◌ : Reading → Operand → Case
shown beside value = record { shown = shown; read = record { answer = accepted; value = value } }

-- of a form that has no row
abbrev ◌alone : Reading → Case
shown alone = record { shown = shown; read = record { answer = bad_form; value = None } }

infix 70 ◌is◌
abbrev ◌is◌ : Case → Case → Case × Case
found is stated = (found, stated)

abbrev pub stated : List (Case × Case)
stated =
    in_i (a 4) (2 ^ 36) is writes (r0 ∷ below 8192 ∷ r0 ∷ []) beside below 8192
    ∷ in_i (a 4) 8456757248 is writes (r0 ∷ i 8191 ∷ r0 ∷ []) beside i 8191
    ∷ in_i (a 2) 0 is writes (r0 ∷ r0 ∷ u 1 ∷ r0 ∷ []) beside u 1
    ∷ in_i (a 2) 402653184 is writes (r0 ∷ r0 ∷ u 4 ∷ r0 ∷ []) beside u 4
    ∷ in_i (a 5) (2 ^ 36) is writes (r0 ∷ below 2097152 ∷ r0 ∷ []) beside below 2097152
    ∷ in_b (b 1) (2 ^ 36) is shows (below 16777216 ∷ u 0 ∷ u 0 ∷ u 0 ∷ []) beside below 16777216
    ∷ in_b (b 1) 8589926400 is shows (i 16777200 ∷ u 0 ∷ u 0 ∷ u 0 ∷ []) beside i 16777200
    ∷ in_b (b 9) (2 ^ 20) is shows (u 1064960 ∷ []) beside u 16384
    ∷ in_m (m 15) (2 ^ 36) is shows (memory ∷ i 256 ∷ []) beside below 256
    ∷ in_m (m 10) (2 ^ 13) is writes (memory ∷ f1 ∷ i 0 ∷ []) beside i 0
    ∷ in_m (m 17) 0 is writes (r0 ∷ memory ∷ i 0 ∷ []) beside i 16
    ∷ in_m (m 17) (2 ^ 13) is writes (r0 ∷ memory ∷ i 1 ∷ []) beside i 8
    ∷ in_m (m 17) (2 ^ 14) is writes (r0 ∷ memory ∷ i 2 ∷ []) beside i 4
    ∷ in_m (m 17) 24576 is writes (r0 ∷ memory ∷ i 3 ∷ []) beside i 1
    ∷ in_m (m 17) (2 ^ 15) is writes (r0 ∷ memory ∷ below 4 ∷ []) beside below 16
    ∷ in_m (m 17) 40960 is writes (r0 ∷ memory ∷ below 3 ∷ []) beside below 8
    ∷ in_m (m 17) 49152 is writes (r0 ∷ memory ∷ below 2 ∷ []) beside below 4
    ∷ in_m (m 17) 57344 is writes (r0 ∷ memory ∷ below 1 ∷ []) beside below 1
    ∷ in_i (i_form 1) (2 ^ 30) is writes (r0 ∷ r0 ∷ r0 ∷ u 1 ∷ []) beside u 7
    ∷ in_i (i_form 8) 0 is writes (r0 ∷ r0 ∷ u 0 ∷ []) beside u 31
    ∷ in_i (i_form 13) (2 ^ 36) is writes (r0 ∷ u 18446744073709551488 ∷ u 63 ∷ u 1 ∷ []) alone
    ∷ in_i (i_form 14) (2 ^ 36) is writes (r0 ∷ u 1 ∷ r0 ∷ u 63 ∷ u 1 ∷ []) alone
    ∷ in_i (i_form 20) (2 ^ 6) is shows (p 1 ∷ p 0 ∷ r0 ∷ []) beside i 16
    ∷ in_i (i_form 21) (2 ^ 32) is writes (b0 ∷ r0 ∷ u 256 ∷ u 0 ∷ u 0 ∷ []) beside below 4096
    ∷ in_i (i_form 23) (2 ^ 36) is writes (PR ∷ r0 ∷ u 0 ∷ []) beside below 65536
    ∷ in_i (i_form 24) (2 ^ 6) is writes (PR ∷ u 1 ∷ []) beside i 65536
    ∷ in_i (i_form 30) (2 ^ 12) is listed (Some 1) (p 64 ∷ p 0 ∷ u 0 ∷ []) beside u 32
    ∷ in_m (m 42) 939524096 is shows (None ∷ []) alone
    ∷ in_x (x 2) (2 ^ 36) 0 is writes (r0 ∷ u (2 ^ 63) ∷ []) beside u (2 ^ 63)
    ∷ in_x (x 3) 0 4 is shows (u 2097152 ∷ []) beside i 16777216
    ∷ []

-- the displacement 32 is B1's with 2 in bits 13 to 32
abbrev pub wrapped : Target
wrapped = target_of (bundle 16 (2 ^ 14) 0) 0 2 (b 1) (2 ^ 64 - 16)

pub cases : ◌≡◌ {A = List Case × Target} (each (λ c. c.0) stated, wrapped) (each (λ c. c.1) stated, record { answer = accepted; address = 16 })
unfolding operands_of is_form is_bad find_answer immediate_of immediate_in target_of target_in row_of lines units_of number bytes gather
cases = refl
