-- `compare` meets its contract: at every value of the bits that decide, the code has what the table has left there. Assumes nothing.
use mathlib.Core.Path.{◌≡◌, refl, sym, ap, ◌∙◌}
use mathlib.Core.Bool.{cond}
use mathlib.Core.List.{List, [], ◌∷◌}
use Prim.Native.Nat.{ℕ, zero, suc, ◌+◌, ◌-◌, ◌*◌, ◌/◌, ◌%◌, ◌<◌}
use native.Mathlib.Nat.{not-suc-le-zero, le_of_suc-le-suc}
use native.Mathlib.Decide.{ℕ_discrete}
use native.Mathlib.Omega.{arith}
use lib.Arith.{lt_of_le-ne}
use lib.Dec.{ltb}
use borrow.Author.Rules.{rules}
use lib.ListN.{drop, get_or}
use Rattle.std.specs.declared.option.Option.{Option}
use Rattle.std.specs.declared.option.Option.TheVariants.{None, Some}
use Rattle.bits.specs.Part.{part}
use Rattle.opcodes.specs.Tables.{a_table, none, short, compare}
use Rattle.opcodes.specs.declared.Named.{Named}
use Rattle.opcodes.specs.declared.Opcode.{Opcode}
use Rattle.opcodes.specs.declared.Opcode.TheVariants.{No}
use Rattle.table.specs.Entry.{Field, Entry, chosen}
use Rattle.table.proofs.Known.{Has}
use Rattle.table.proofs.Narrow.{narrow, narrowed, in-arm}
use Rattle.choice_a.proofs.compare.Goals as goal

-- a function's values below a bound; two functions that have the same ones are equal at each number below it
values {ℓ} : {A : Type ℓ} → (ℕ → A) → ℕ → List A
values f zero = []
values f (suc n) = f n ∷ values f n

agree {ℓ} : {A : Type ℓ} (f g : ℕ → A) (n k : ℕ) → values f n ≡ values g n → k < n → f k ≡ g k
unfolding values
agree f g zero k e h = absurd (not-suc-le-zero h)
agree f g (suc n) k e h =
    elim (ℕ_discrete k n) [
      | yes p ↦ rw p (ap (λ l. get_or l 0 (f n)) e)
      | no d ↦ agree f g n k (ap (drop 1) e) (lt_of_le-ne (le_of_suc-le-suc h) d)
    ]

-- fields that a word has, and a table narrowed by them
abbrev Have : ℕ → List Field → Type 0
Have word [] = Unit {0}
Have word (f ∷ fs) = Has word f × Have word fs

settle {ℓ} : {A : Type ℓ} (word : ℕ) (fs : List Field) → Have word fs → (es : List (Entry A)) (other : A) → chosen (narrowed fs es) word other ≡ chosen es word other
settle word [] known es other = refl
settle word (f ∷ fs) known es other = settle word fs known.1 (narrow f es) other ∙ in-arm word [] tt f.0 f.1 f.2 (sym known.0) es other refl

-- what the table has left; its opcodes in the code's order; and what the code has by them
abbrev left : ℕ → ℕ → ℕ → ℕ → ℕ → ℕ → Option Named
left word row x2 tb ta c = short (chosen (narrowed (compare (12 + row) x2 tb ta c) a_table) word none)

opcode : Option Named → Opcode
opcode (Some named) = named.0
opcode None = No

opcodes : ℕ → List Opcode
opcodes word = values (λ j. let i = 47 - j in opcode (left word (i / 16) (i / 8 % 2) (i / 4 % 2) (i / 2 % 2) (i % 2))) 48

abbrev listed : ℕ → ℕ → ℕ → ℕ → ℕ → ℕ → Option Named
listed word row x2 tb ta c =
    let form = cond (ltb 1 x2) 8 (tb + 6) in
    Some (record { 0 = get_or (opcodes word) (row * 16 + x2 % 2 * 8 + form % 2 * 4 + ta * 2 + c) No; 1 = form })

-- both at every value of the bits that decide, which are the same by computing
abbrev everywhere : (ℕ → ℕ → ℕ → ℕ → ℕ → Option Named) → List (List (List (List (List (Option Named)))))
everywhere f = values (λ row. values (λ x2. values (λ tb. values (λ ta. values (f row x2 tb ta) 2) 2) 2) 4) 3

same : (word : ℕ) → everywhere (listed word) ≡ everywhere (left word)
unfolding a_table values opcode opcodes
same word = refl

met : (word row x2 tb ta c : ℕ) → row < 3 → Have word (compare (12 + row) x2 tb ta c) → listed word row x2 tb ta c ≡ short (chosen a_table word none)
met word row x2 tb ta c small known =
    agree _ _ 2 c (agree _ _ 2 ta (agree _ _ 2 tb (agree _ _ 4 x2 (agree _ _ 3 row (same word) small) (omega arith)) (omega arith)) (omega arith)) (omega arith)
    ∙ ap short (settle word (compare (12 + row) x2 tb ta c) known a_table none)

pub returns : goal.returns
unfolding a_table values opcode opcodes
returns c =
    rw c.compare_form-form.ensures
    (met c.args.word c.args.row c.get-x2.result (part c.args.word 36 1) c.get-ta.result c.get-c.result (search rules) (search rules))
