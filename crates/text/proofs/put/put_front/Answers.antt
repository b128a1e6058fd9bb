-- As much of the text is copied as there is room for.
use Rattle.text.proofs.Writing.{written-most}
use Rattle.text.proofs.put.put_front.Goals as goal

pub returns : goal.returns
returns c = written-most c.args.out.now c.args.text.now c.copy_from_slice.new.self c.min-n.result c.min-n.ensures c.copy_from_slice.ensures.after
