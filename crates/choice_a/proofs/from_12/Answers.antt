-- `from_12` meets its contract: an arm's value is what the table has left there. Assumes nothing.
use Rattle.std.proofs.Common.{rules, [], ◌∷◌, ap}
use Rattle.opcodes.specs.Tables.{a_table, none, short}
use Rattle.table.proofs.Narrow.{in_rest}
use Rattle.choice_a.proofs.from_12.Goals as goal

pub returns-in_default : goal.returns-in_default
unfolding a_table
returns-in_default c =
    ap short (in_rest c.args.word ((39, 2, 3) ∷ []) c.requires 37 4 c.get-key.result c.get-key.ensures a_table none (14 ∷ 13 ∷ 12 ∷ []) tt (search rules))
