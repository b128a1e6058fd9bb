-- `multimedia_1` meets its contract: an arm's value is what the table has left there. Assumes nothing.
use Rattle.std.proofs.Common.{rules, [], ◌∷◌, ap}
use Rattle.opcodes.specs.Tables.{a_table, none, short, multimedia}
use Rattle.opcodes.proofs.Arms.{arm}
use Rattle.table.proofs.Narrow.{in_rest}
use Rattle.choice_a.proofs.multimedia_1.Goals as goal

pub returns-in-0 : goal.returns-in-0
unfolding a_table
returns-in-0 c = arm a_table (multimedia 0 0 []) 27 6 c.args.word c.requires c.get-key.result c.get-key.ensures c.in-0.is

pub returns-in-1 : goal.returns-in-1
unfolding a_table
returns-in-1 c = arm a_table (multimedia 0 0 []) 27 6 c.args.word c.requires c.get-key.result c.get-key.ensures c.in-1.is

pub returns-in-2 : goal.returns-in-2
unfolding a_table
returns-in-2 c = arm a_table (multimedia 0 0 []) 27 6 c.args.word c.requires c.get-key.result c.get-key.ensures c.in-2.is

pub returns-in-3 : goal.returns-in-3
unfolding a_table
returns-in-3 c = arm a_table (multimedia 0 0 []) 27 6 c.args.word c.requires c.get-key.result c.get-key.ensures c.in-3.is

pub returns-in-4 : goal.returns-in-4
unfolding a_table
returns-in-4 c = arm a_table (multimedia 0 0 []) 27 6 c.args.word c.requires c.get-key.result c.get-key.ensures c.in-4.is

pub returns-in-5 : goal.returns-in-5
unfolding a_table
returns-in-5 c = arm a_table (multimedia 0 0 []) 27 6 c.args.word c.requires c.get-key.result c.get-key.ensures c.in-5.is

pub returns-in-6 : goal.returns-in-6
unfolding a_table
returns-in-6 c = arm a_table (multimedia 0 0 []) 27 6 c.args.word c.requires c.get-key.result c.get-key.ensures c.in-6.is

pub returns-in-7 : goal.returns-in-7
unfolding a_table
returns-in-7 c = arm a_table (multimedia 0 0 []) 27 6 c.args.word c.requires c.get-key.result c.get-key.ensures c.in-7.is

pub returns-in-10 : goal.returns-in-10
unfolding a_table
returns-in-10 c = arm a_table (multimedia 0 0 []) 27 6 c.args.word c.requires c.get-key.result c.get-key.ensures c.in-10.is

pub returns-in-11 : goal.returns-in-11
unfolding a_table
returns-in-11 c = arm a_table (multimedia 0 0 []) 27 6 c.args.word c.requires c.get-key.result c.get-key.ensures c.in-11.is

pub returns-in-14 : goal.returns-in-14
unfolding a_table
returns-in-14 c = arm a_table (multimedia 0 0 []) 27 6 c.args.word c.requires c.get-key.result c.get-key.ensures c.in-14.is

pub returns-in-36 : goal.returns-in-36
unfolding a_table
returns-in-36 c = arm a_table (multimedia 0 0 []) 27 6 c.args.word c.requires c.get-key.result c.get-key.ensures c.in-36.is

pub returns-in-37 : goal.returns-in-37
unfolding a_table
returns-in-37 c = arm a_table (multimedia 0 0 []) 27 6 c.args.word c.requires c.get-key.result c.get-key.ensures c.in-37.is

pub returns-in_default : goal.returns-in_default
unfolding a_table
returns-in_default c =
    ap short (in_rest c.args.word (multimedia 0 0 []) c.requires 27 6 c.get-key.result c.get-key.ensures a_table none (37 ∷ 36 ∷ 14 ∷ 11 ∷ 10 ∷ 7 ∷ 6 ∷ 5 ∷ 4 ∷ 3 ∷ 2 ∷ 1 ∷ 0 ∷ []) tt (search rules))
