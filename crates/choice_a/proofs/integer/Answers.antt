-- `integer` meets its contract: an arm's value is what the table has left there. Assumes nothing.
use Rattle.std.proofs.Common.{rules, [], ◌∷◌, ap}
use Rattle.opcodes.specs.Tables.{a_table, none, short, opcode}
use Rattle.opcodes.proofs.Arms.{arm}
use Rattle.table.proofs.Narrow.{in_rest}
use Rattle.choice_a.proofs.integer.Goals as goal

pub returns-in-4 : goal.returns-in-4
unfolding a_table
returns-in-4 c = arm a_table (opcode 8 ∷ []) 33 4 c.args.word c.requires c.get-key.result c.get-key.ensures c.in-4.is

pub returns-in-6 : goal.returns-in-6
unfolding a_table
returns-in-6 c = arm a_table (opcode 8 ∷ []) 33 4 c.args.word c.requires c.get-key.result c.get-key.ensures c.in-6.is

pub returns-in-12 : goal.returns-in-12
unfolding a_table
returns-in-12 c = arm a_table (opcode 8 ∷ []) 33 4 c.args.word c.requires c.get-key.result c.get-key.ensures c.in-12.is

pub returns-in-14 : goal.returns-in-14
unfolding a_table
returns-in-14 c = arm a_table (opcode 8 ∷ []) 33 4 c.args.word c.requires c.get-key.result c.get-key.ensures c.in-14.is

pub returns-in_default : goal.returns-in_default
unfolding a_table
returns-in_default c =
    ap short (in_rest c.args.word (opcode 8 ∷ []) c.requires 33 4 c.get-key.result c.get-key.ensures a_table none (14 ∷ 12 ∷ 10 ∷ 8 ∷ 6 ∷ 4 ∷ 3 ∷ 2 ∷ 0 ∷ []) tt (search rules))
