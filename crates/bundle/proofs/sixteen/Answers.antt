-- `sixteen` meets its contract: the sixteen bytes of a bundle that was found lie in the code.
use Rattle.std.proofs.Common.{arith}
use Rattle.bundle.proofs.Lies.{lies}
use Rattle.bundle.proofs.sixteen.Goals as goal

pub overflow_mul-at : goal.overflow_mul-at
overflow_mul-at c = let h = lies c.args.code.now c.args.bundle c.requires in omega arith

pub overflow_add-result : goal.overflow_add-result
overflow_add-result c = let h = lies c.args.code.now c.args.bundle c.requires in omega arith

pub slice_bounds-result-end : goal.slice_bounds-result-end
slice_bounds-result-end c = let h = lies c.args.code.now c.args.bundle c.requires in omega arith
