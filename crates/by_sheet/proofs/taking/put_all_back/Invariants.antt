-- To put all back is to put those left back in what there is. Assumes nothing.
use mathlib.Core.Path.{◌≡◌}
use Prim.Native.Nat.{◌-◌}
use lib.ListN.{length}
use Rattle.by_sheet.specs.inner.Back.{all_back}
use Rattle.by_sheet.proofs.taking.put_all_back.Given as goal

abbrev pub invariant-loop-one : goal.invariant-loop-one
invariant-loop-one l = all_back l.records (length l.records) l.fn.code ≡ all_back l.records (length l.records - length l.yielded) l.code
