-- `has_form` meets its contract: a slot above 2 has no unit, and so no choice. Assumes nothing.
use Rattle.std.proofs.Common.{◌∙◌, ap₂, List, ℕ, arith, get_or}
use lib.ListN.{get_or-eq_default}
use Rattle.bundle.specs.Bundle.{whole, tag_of, units_in, slots_of}
use Rattle.bundle.proofs.Templates.{three-units}
use Rattle.choice.specs.Choice.{opcode_table, choice_of, word_has, has_form}
use Rattle.choice.proofs.has_form.Goals as goal

pub returns-then-slot-gt2 : goal.returns-then-slot-gt2
unfolding has_form choice_of opcode_table
returns-then-slot-gt2 c =
    let a = c.args in
    let n = whole a.bundle in
    rw (get_or-eq_default (units_in n) 0 {n = a.slot} (omega (arith, three-units (tag_of n), c.if-slot-gt2.true)), get_or-eq_default (slots_of n) 0 {n = a.slot} (omega (arith, c.if-slot-gt2.true)))

pub returns : goal.returns
unfolding has_form
returns c =
    let a = c.args in
    c.word_has.ensures ∙ ap₂ (λ (us ws : List ℕ). word_has (get_or us a.slot 0) (get_or ws a.slot 0) a.form) c.units_of-units.ensures c.slots-words.ensures
