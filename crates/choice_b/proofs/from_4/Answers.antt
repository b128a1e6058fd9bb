-- `from_4` meets its contract: an arm's value is what the table has left there. Assumes nothing.
use Rattle.std.proofs.Common.{rules, [], ◌∷◌, ap}
use Rattle.opcodes.specs.Tables.{b_table, none, short}
use Rattle.opcodes.proofs.Arms.{arm}
use Rattle.table.proofs.Narrow.{in_rest}
use Rattle.choice_b.proofs.from_4.Goals as goal

pub returns-in-5 : goal.returns-in-5
unfolding b_table
returns-in-5 c = arm b_table ((39, 2, 1) ∷ []) 37 4 c.args.word c.requires c.get-key.result c.get-key.ensures c.in-5.is

pub returns-in-7 : goal.returns-in-7
unfolding b_table
returns-in-7 c = arm b_table ((39, 2, 1) ∷ []) 37 4 c.args.word c.requires c.get-key.result c.get-key.ensures c.in-7.is

pub returns-in_default : goal.returns-in_default
unfolding b_table
returns-in_default c =
    ap short (in_rest c.args.word ((39, 2, 1) ∷ []) c.requires 37 4 c.get-key.result c.get-key.ensures b_table none (7 ∷ 5 ∷ 4 ∷ []) tt (search rules))
