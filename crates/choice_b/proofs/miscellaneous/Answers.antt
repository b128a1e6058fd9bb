-- `miscellaneous` meets its contract: an arm's value is what the table has left there. Assumes nothing.
use Rattle.std.proofs.Common.{rules, [], ◌∷◌, ap}
use Rattle.opcodes.specs.Tables.{b_table, none, short, opcode}
use Rattle.opcodes.proofs.Arms.{arm}
use Rattle.table.proofs.Narrow.{in_rest}
use Rattle.choice_b.proofs.miscellaneous.Goals as goal

pub returns-in-0 : goal.returns-in-0
unfolding b_table
returns-in-0 c = arm b_table (opcode 0 ∷ []) 27 6 c.args.word c.requires c.get-key.result c.get-key.ensures c.in-0.is

pub returns-in-2 : goal.returns-in-2
unfolding b_table
returns-in-2 c = arm b_table (opcode 0 ∷ []) 27 6 c.args.word c.requires c.get-key.result c.get-key.ensures c.in-2.is

pub returns-in-4 : goal.returns-in-4
unfolding b_table
returns-in-4 c = arm b_table (opcode 0 ∷ []) 27 6 c.args.word c.requires c.get-key.result c.get-key.ensures c.in-4.is

pub returns-in-5 : goal.returns-in-5
unfolding b_table
returns-in-5 c = arm b_table (opcode 0 ∷ []) 27 6 c.args.word c.requires c.get-key.result c.get-key.ensures c.in-5.is

pub returns-in-8 : goal.returns-in-8
unfolding b_table
returns-in-8 c = arm b_table (opcode 0 ∷ []) 27 6 c.args.word c.requires c.get-key.result c.get-key.ensures c.in-8.is

pub returns-in-12 : goal.returns-in-12
unfolding b_table
returns-in-12 c = arm b_table (opcode 0 ∷ []) 27 6 c.args.word c.requires c.get-key.result c.get-key.ensures c.in-12.is

pub returns-in-13 : goal.returns-in-13
unfolding b_table
returns-in-13 c = arm b_table (opcode 0 ∷ []) 27 6 c.args.word c.requires c.get-key.result c.get-key.ensures c.in-13.is

pub returns-in-16 : goal.returns-in-16
unfolding b_table
returns-in-16 c = arm b_table (opcode 0 ∷ []) 27 6 c.args.word c.requires c.get-key.result c.get-key.ensures c.in-16.is

pub returns-in-24 : goal.returns-in-24
unfolding b_table
returns-in-24 c = arm b_table (opcode 0 ∷ []) 27 6 c.args.word c.requires c.get-key.result c.get-key.ensures c.in-24.is

pub returns-in-25 : goal.returns-in-25
unfolding b_table
returns-in-25 c = arm b_table (opcode 0 ∷ []) 27 6 c.args.word c.requires c.get-key.result c.get-key.ensures c.in-25.is

pub returns-in_default : goal.returns-in_default
unfolding b_table
returns-in_default c =
    ap short (in_rest c.args.word (opcode 0 ∷ []) c.requires 27 6 c.get-key.result c.get-key.ensures b_table none (33 ∷ 32 ∷ 25 ∷ 24 ∷ 16 ∷ 13 ∷ 12 ∷ 8 ∷ 5 ∷ 4 ∷ 2 ∷ 0 ∷ []) tt (search rules))
