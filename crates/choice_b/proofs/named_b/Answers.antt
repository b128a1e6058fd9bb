-- `named_b` meets its contract: an arm's value is what the table has left there. Assumes nothing.
use Rattle.std.proofs.Common.{rules, [], ◌∷◌, ap}
use Rattle.opcodes.specs.Tables.{b_table, none, short}
use Rattle.table.proofs.Narrow.{in_rest}
use Rattle.choice_b.proofs.named_b.Goals as goal

pub returns-in_default : goal.returns-in_default
unfolding b_table
returns-in_default c =
    ap short (in_rest c.args.word [] tt 39 2 c.get-key.result c.get-key.ensures b_table none (1 ∷ 0 ∷ []) tt (search rules))
