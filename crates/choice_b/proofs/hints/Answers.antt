-- `hints` meets its contract: an arm's value is what the table has left there. Assumes nothing.
use Rattle.std.proofs.Common.{rules, [], ◌∷◌, ap}
use Rattle.opcodes.specs.Tables.{b_table, none, short, opcode}
use Rattle.opcodes.proofs.Arms.{arm}
use Rattle.table.proofs.Narrow.{in_rest}
use Rattle.choice_b.proofs.hints.Goals as goal

pub returns-in-0 : goal.returns-in-0
unfolding b_table
returns-in-0 c = arm b_table (opcode 2 ∷ []) 27 6 c.args.word c.requires c.get-key.result c.get-key.ensures c.in-0.is

pub returns-in-1 : goal.returns-in-1
unfolding b_table
returns-in-1 c = arm b_table (opcode 2 ∷ []) 27 6 c.args.word c.requires c.get-key.result c.get-key.ensures c.in-1.is

pub returns-in-16 : goal.returns-in-16
unfolding b_table
returns-in-16 c = arm b_table (opcode 2 ∷ []) 27 6 c.args.word c.requires c.get-key.result c.get-key.ensures c.in-16.is

pub returns-in-17 : goal.returns-in-17
unfolding b_table
returns-in-17 c = arm b_table (opcode 2 ∷ []) 27 6 c.args.word c.requires c.get-key.result c.get-key.ensures c.in-17.is

pub returns-in_default : goal.returns-in_default
unfolding b_table
returns-in_default c =
    ap short (in_rest c.args.word (opcode 2 ∷ []) c.requires 27 6 c.get-key.result c.get-key.ensures b_table none (17 ∷ 16 ∷ 1 ∷ 0 ∷ []) tt (search rules))
