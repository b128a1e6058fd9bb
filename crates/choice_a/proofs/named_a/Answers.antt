-- `named_a` meets its contract: an arm's value is what the table has left there. Assumes nothing.
use Rattle.std.proofs.Common.{rules, [], ◌∷◌, ap}
use Rattle.opcodes.specs.Tables.{a_table, none, short}
use Rattle.table.proofs.Narrow.{in_rest}
use Rattle.choice_a.proofs.named_a.Goals as goal

pub returns-in_default : goal.returns-in_default
unfolding a_table
returns-in_default c =
    ap short (in_rest c.args.word [] tt 39 2 c.get-key.result c.get-key.ensures a_table none (3 ∷ 2 ∷ []) tt (search rules))
