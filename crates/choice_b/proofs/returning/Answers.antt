-- `returning` meets its contract: an arm's value is what the table has left there. Assumes nothing.
use Rattle.std.proofs.Common.{rules, [], ◌∷◌, ap}
use Rattle.opcodes.specs.Tables.{b_table, none, short, opcode, x6}
use Rattle.opcodes.proofs.Arms.{arm}
use Rattle.table.proofs.Narrow.{in_rest}
use Rattle.choice_b.proofs.returning.Goals as goal

pub returns-in-4 : goal.returns-in-4
unfolding b_table
returns-in-4 c = arm b_table (opcode 0 ∷ x6 33 ∷ []) 6 3 c.args.word c.requires c.get-key.result c.get-key.ensures c.in-4.is

pub returns-in_default : goal.returns-in_default
unfolding b_table
returns-in_default c =
    ap short (in_rest c.args.word (opcode 0 ∷ x6 33 ∷ []) c.requires 6 3 c.get-key.result c.get-key.ensures b_table none (4 ∷ []) tt (search rules))
