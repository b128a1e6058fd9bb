-- `from_0` meets its contract: an arm's value is what the table has left there. Assumes nothing.
use Rattle.std.proofs.Common.{rules, [], ◌∷◌, ap}
use Rattle.opcodes.specs.Tables.{b_table, none, short}
use Rattle.opcodes.proofs.Arms.{arm}
use Rattle.table.proofs.Narrow.{in_rest}
use Rattle.choice_b.proofs.from_0.Goals as goal

pub returns-in-1 : goal.returns-in-1
unfolding b_table
returns-in-1 c = arm b_table ((39, 2, 0) ∷ []) 37 4 c.args.word c.requires c.get-key.result c.get-key.ensures c.in-1.is

pub returns-in_default : goal.returns-in_default
unfolding b_table
returns-in_default c =
    ap short (in_rest c.args.word ((39, 2, 0) ∷ []) c.requires 37 4 c.get-key.result c.get-key.ensures b_table none (2 ∷ 1 ∷ 0 ∷ []) tt (search rules))
