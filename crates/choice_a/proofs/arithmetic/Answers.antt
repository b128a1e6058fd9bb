-- `arithmetic` meets its contract: an arm's value is what the table has left there. Assumes nothing.
use Rattle.std.proofs.Common.{rules, [], ◌∷◌, ap}
use Rattle.opcodes.specs.Tables.{a_table, none, short, alu}
use Rattle.opcodes.proofs.Arms.{arm}
use Rattle.table.proofs.Narrow.{in_rest}
use Rattle.choice_a.proofs.arithmetic.Goals as goal

pub returns-in-0 : goal.returns-in-0
unfolding a_table
returns-in-0 c = arm a_table (alu []) 27 6 c.args.word c.requires c.get-key.result c.get-key.ensures c.in-0.is

pub returns-in-1 : goal.returns-in-1
unfolding a_table
returns-in-1 c = arm a_table (alu []) 27 6 c.args.word c.requires c.get-key.result c.get-key.ensures c.in-1.is

pub returns-in-4 : goal.returns-in-4
unfolding a_table
returns-in-4 c = arm a_table (alu []) 27 6 c.args.word c.requires c.get-key.result c.get-key.ensures c.in-4.is

pub returns-in-5 : goal.returns-in-5
unfolding a_table
returns-in-5 c = arm a_table (alu []) 27 6 c.args.word c.requires c.get-key.result c.get-key.ensures c.in-5.is

pub returns-in-8 : goal.returns-in-8
unfolding a_table
returns-in-8 c = arm a_table (alu []) 27 6 c.args.word c.requires c.get-key.result c.get-key.ensures c.in-8.is

pub returns-in-12 : goal.returns-in-12
unfolding a_table
returns-in-12 c = arm a_table (alu []) 27 6 c.args.word c.requires c.get-key.result c.get-key.ensures c.in-12.is

pub returns-in-13 : goal.returns-in-13
unfolding a_table
returns-in-13 c = arm a_table (alu []) 27 6 c.args.word c.requires c.get-key.result c.get-key.ensures c.in-13.is

pub returns-in-14 : goal.returns-in-14
unfolding a_table
returns-in-14 c = arm a_table (alu []) 27 6 c.args.word c.requires c.get-key.result c.get-key.ensures c.in-14.is

pub returns-in-15 : goal.returns-in-15
unfolding a_table
returns-in-15 c = arm a_table (alu []) 27 6 c.args.word c.requires c.get-key.result c.get-key.ensures c.in-15.is

pub returns-in-16 : goal.returns-in-16
unfolding a_table
returns-in-16 c = arm a_table (alu []) 27 6 c.args.word c.requires c.get-key.result c.get-key.ensures c.in-16.is

pub returns-in-17 : goal.returns-in-17
unfolding a_table
returns-in-17 c = arm a_table (alu []) 27 6 c.args.word c.requires c.get-key.result c.get-key.ensures c.in-17.is

pub returns-in-18 : goal.returns-in-18
unfolding a_table
returns-in-18 c = arm a_table (alu []) 27 6 c.args.word c.requires c.get-key.result c.get-key.ensures c.in-18.is

pub returns-in-19 : goal.returns-in-19
unfolding a_table
returns-in-19 c = arm a_table (alu []) 27 6 c.args.word c.requires c.get-key.result c.get-key.ensures c.in-19.is

pub returns-in-24 : goal.returns-in-24
unfolding a_table
returns-in-24 c = arm a_table (alu []) 27 6 c.args.word c.requires c.get-key.result c.get-key.ensures c.in-24.is

pub returns-in-25 : goal.returns-in-25
unfolding a_table
returns-in-25 c = arm a_table (alu []) 27 6 c.args.word c.requires c.get-key.result c.get-key.ensures c.in-25.is

pub returns-in-26 : goal.returns-in-26
unfolding a_table
returns-in-26 c = arm a_table (alu []) 27 6 c.args.word c.requires c.get-key.result c.get-key.ensures c.in-26.is

pub returns-in-27 : goal.returns-in-27
unfolding a_table
returns-in-27 c = arm a_table (alu []) 27 6 c.args.word c.requires c.get-key.result c.get-key.ensures c.in-27.is

pub returns-in-37 : goal.returns-in-37
unfolding a_table
returns-in-37 c = arm a_table (alu []) 27 6 c.args.word c.requires c.get-key.result c.get-key.ensures c.in-37.is

pub returns-in-44 : goal.returns-in-44
unfolding a_table
returns-in-44 c = arm a_table (alu []) 27 6 c.args.word c.requires c.get-key.result c.get-key.ensures c.in-44.is

pub returns-in-45 : goal.returns-in-45
unfolding a_table
returns-in-45 c = arm a_table (alu []) 27 6 c.args.word c.requires c.get-key.result c.get-key.ensures c.in-45.is

pub returns-in-46 : goal.returns-in-46
unfolding a_table
returns-in-46 c = arm a_table (alu []) 27 6 c.args.word c.requires c.get-key.result c.get-key.ensures c.in-46.is

pub returns-in-47 : goal.returns-in-47
unfolding a_table
returns-in-47 c = arm a_table (alu []) 27 6 c.args.word c.requires c.get-key.result c.get-key.ensures c.in-47.is

pub returns-in_default : goal.returns-in_default
unfolding a_table
returns-in_default c =
    ap short (in_rest c.args.word (alu []) c.requires 27 6 c.get-key.result c.get-key.ensures a_table none (47 ∷ 46 ∷ 45 ∷ 44 ∷ 37 ∷ 27 ∷ 26 ∷ 25 ∷ 24 ∷ 19 ∷ 18 ∷ 17 ∷ 16 ∷ 15 ∷ 14 ∷ 13 ∷ 12 ∷ 8 ∷ 5 ∷ 4 ∷ 1 ∷ 0 ∷ []) tt (search rules))
