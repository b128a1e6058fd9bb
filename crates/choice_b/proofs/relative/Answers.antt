-- `relative` meets its contract: an arm's value is what the table has left there. Assumes nothing.
use Rattle.std.proofs.Common.{rules, [], ◌∷◌, ap}
use Rattle.opcodes.specs.Tables.{b_table, none, short, opcode}
use Rattle.opcodes.proofs.Arms.{arm}
use Rattle.table.proofs.Narrow.{in_rest}
use Rattle.choice_b.proofs.relative.Goals as goal

pub returns-in-0 : goal.returns-in-0
unfolding b_table
returns-in-0 c = arm b_table (opcode 4 ∷ []) 6 3 c.args.word c.requires c.get-key.result c.get-key.ensures c.in-0.is

pub returns-in-2 : goal.returns-in-2
unfolding b_table
returns-in-2 c = arm b_table (opcode 4 ∷ []) 6 3 c.args.word c.requires c.get-key.result c.get-key.ensures c.in-2.is

pub returns-in-3 : goal.returns-in-3
unfolding b_table
returns-in-3 c = arm b_table (opcode 4 ∷ []) 6 3 c.args.word c.requires c.get-key.result c.get-key.ensures c.in-3.is

pub returns-in-5 : goal.returns-in-5
unfolding b_table
returns-in-5 c = arm b_table (opcode 4 ∷ []) 6 3 c.args.word c.requires c.get-key.result c.get-key.ensures c.in-5.is

pub returns-in-6 : goal.returns-in-6
unfolding b_table
returns-in-6 c = arm b_table (opcode 4 ∷ []) 6 3 c.args.word c.requires c.get-key.result c.get-key.ensures c.in-6.is

pub returns-in-7 : goal.returns-in-7
unfolding b_table
returns-in-7 c = arm b_table (opcode 4 ∷ []) 6 3 c.args.word c.requires c.get-key.result c.get-key.ensures c.in-7.is

pub returns-in_default : goal.returns-in_default
unfolding b_table
returns-in_default c =
    ap short (in_rest c.args.word (opcode 4 ∷ []) c.requires 6 3 c.get-key.result c.get-key.ensures b_table none (7 ∷ 6 ∷ 5 ∷ 3 ∷ 2 ∷ 0 ∷ []) tt (search rules))
