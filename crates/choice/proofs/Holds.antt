-- A word's form is one of A or B: a test that is computed over the tables, which tells whether an entry answers too. Assumes nothing.
use mathlib.Core.Path.{◌≡◌, refl, sym, ap, ◌∙◌, subst}
use mathlib.Core.Bool.{Bool, ◌||◌}
use mathlib.Core.List.{[]}
use Prim.Native.Nat.{ℕ}
use borrow.Author.Tests.{not-false}
use lib.Dec.{T, eqb, eqb→eq}
use mir.Facts.{and_yes}
use Rattle.answer.specs.Answer.{accepted, first}
use Rattle.answer.proofs.Laws.{none-applies, accepts, answered as answer-is}
use Rattle.bundle.specs.Bundle.{unit_at, word_at}
use Rattle.form.specs.Form.{A, B, same_form}
use Rattle.form.specs.declared.Form.{Form}
use Rattle.opcodes.specs.Tables.{a_table, b_table, none}
use Rattle.opcodes.specs.declared.Opcode.{Opcode}
use Rattle.table.specs.Entry.{answered, chosen}
use Rattle.table.proofs.Held.{all, held, told}
use Rattle.choice.specs.Choice.{opcode_tables, opcode_table, refusals, Choice, choice_of, has_form}
use Rattle.choice.specs.Holds.{OnlyAOrB}

abbrev in_a_or_b : Form → Bool
in_a_or_b form = eqb form.family A || eqb form.family B

abbrev test : Opcode × Form → Bool
test named = in_a_or_b named.1

tells : (unit word : ℕ) → test (chosen (opcode_table unit) word none) ≡ answered (opcode_table unit) word
unfolding opcode_table a_table b_table
tells unit word = told test (opcode_table unit) word none (held (λ _ es. all test es) unit opcode_tables [] tt tt) refl

pub only-a-or-b : OnlyAOrB
unfolding has_form choice_of
only-a-or-b n slot form h =
    let unit = unit_at n slot in
    let word = word_at n slot in
    let c = choice_of unit word in
    let has = and_yes (eqb c.answer accepted) (same_form c.form form) (subst T (sym h) tt) in
    let taken = sym (answer-is (λ (x : Choice). x.answer) (first (refusals unit word)) _ _ refl refl) ∙ eqb→eq c.answer accepted has.0 in
    let chose = ap (λ (x : Choice). x.form) (accepts (first (refusals unit word)) _ _ taken) in
    let same = eqb→eq c.form.family form.family (and_yes (eqb c.form.family form.family) _ has.1).0 in
    ap (λ (k : ℕ). eqb k A || eqb k B) (sym same)
    ∙ ap in_a_or_b chose
    ∙ tells unit word
    ∙ not-false _ (none-applies (refusals unit word) tt taken).1.0
