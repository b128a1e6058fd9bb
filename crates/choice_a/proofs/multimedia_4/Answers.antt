-- `multimedia_4` meets its contract: an arm's value is what the table has left there. Assumes nothing.
use Rattle.std.proofs.Common.{rules, [], ◌∷◌, ap}
use Rattle.opcodes.specs.Tables.{a_table, none, short, multimedia}
use Rattle.opcodes.proofs.Arms.{arm}
use Rattle.table.proofs.Narrow.{in_rest}
use Rattle.choice_a.proofs.multimedia_4.Goals as goal

pub returns-in-0 : goal.returns-in-0
unfolding a_table
returns-in-0 c = arm a_table (multimedia 1 0 []) 27 6 c.args.word c.requires c.get-key.result c.get-key.ensures c.in-0.is

pub returns-in-4 : goal.returns-in-4
unfolding a_table
returns-in-4 c = arm a_table (multimedia 1 0 []) 27 6 c.args.word c.requires c.get-key.result c.get-key.ensures c.in-4.is

pub returns-in-36 : goal.returns-in-36
unfolding a_table
returns-in-36 c = arm a_table (multimedia 1 0 []) 27 6 c.args.word c.requires c.get-key.result c.get-key.ensures c.in-36.is

pub returns-in-37 : goal.returns-in-37
unfolding a_table
returns-in-37 c = arm a_table (multimedia 1 0 []) 27 6 c.args.word c.requires c.get-key.result c.get-key.ensures c.in-37.is

pub returns-in_default : goal.returns-in_default
unfolding a_table
returns-in_default c =
    ap short (in_rest c.args.word (multimedia 1 0 []) c.requires 27 6 c.get-key.result c.get-key.ensures a_table none (37 ∷ 36 ∷ 4 ∷ 0 ∷ []) tt (search rules))
