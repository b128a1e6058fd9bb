-- `from_8` meets its contract: an arm's value is what the table has left there. Assumes nothing.
use Rattle.std.proofs.Common.{rules, [], ◌∷◌, ap}
use Rattle.opcodes.specs.Tables.{a_table, none, short}
use Rattle.opcodes.proofs.Arms.{arm}
use Rattle.table.proofs.Narrow.{in_rest}
use Rattle.choice_a.proofs.from_8.Goals as goal

pub returns-in-9 : goal.returns-in-9
unfolding a_table
returns-in-9 c = arm a_table ((39, 2, 2) ∷ []) 37 4 c.args.word c.requires c.get-key.result c.get-key.ensures c.in-9.is

pub returns-in_default : goal.returns-in_default
unfolding a_table
returns-in_default c =
    ap short (in_rest c.args.word ((39, 2, 2) ∷ []) c.requires 37 4 c.get-key.result c.get-key.ensures a_table none (9 ∷ 8 ∷ []) tt (search rules))
