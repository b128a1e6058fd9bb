-- `choose` meets its contract: a unit has its table, and one that no arm names has none. Assumes nothing.
use Rattle.std.proofs.Common.{rules, refl, ◌∙◌, ap, sym, [], ◌∷◌, ⊎_elim}
use borrow.Author.Tests.{le-leb, lt-leb}
use Rattle.form.specs.Form.{A, B, I, M}
use Rattle.table.proofs.Match.{otherwise}
use Rattle.opcodes.specs.Tables.{a_table, b_table}
use Rattle.opcodes.proofs.Forms.{told-a, told-b, family-a, family-b}
use Rattle.choice.specs.Choice.{opcode_tables, opcode_table, choice_of}
use Rattle.choice.specs.inner.Whole.{in_family}
use Rattle.choice.proofs.Whole.{by-table}
use Rattle.choice.proofs.choose.Goals as goal

pub returns-then-word-ge-WORD : goal.returns-then-word-ge-WORD
unfolding choice_of
returns-then-word-ge-WORD c = rw (le-leb _ _ c.if-word-ge-WORD.true) refl

pub returns-in-77 : goal.returns-in-77
unfolding opcode_table
returns-in-77 c =
    c.with_family.ensures ∙ ap (in_family A) c.named_a.ensures
    ∙ by-table _ _ A a_table (⊎_elim (ap opcode_table) (ap opcode_table) c.in-77.is) (lt-leb _ _ c.if-word-ge-WORD.false) (told-a _) (family-a _)

pub returns-in-66 : goal.returns-in-66
unfolding opcode_table
returns-in-66 c =
    c.with_family-in-66.ensures ∙ ap (in_family B) c.named_b.ensures
    ∙ by-table _ _ B b_table (ap opcode_table c.in-66.is) (lt-leb _ _ c.if-word-ge-WORD.false) (told-b _) (family-b _)

pub returns-in_default : goal.returns-in_default
unfolding opcode_table
returns-in_default c =
    by-table _ _ A [] (sym (otherwise ((B ∷ []) ∷ (I ∷ M ∷ []) ∷ []) c.args.unit opcode_tables [] tt (search rules))) (lt-leb _ _ c.if-word-ge-WORD.false) refl tt
