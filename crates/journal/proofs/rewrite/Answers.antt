-- The part that is lent is the bundle's, and comes back as its bytes. Assumes nothing.
use mathlib.Core.Path.{◌≡◌}
use Prim.Native.Nat.{◌+◌, ◌-◌, ◌*◌}
use native.Mathlib.Omega.{arith}
use lib.Seq.{drop-drop}
use Rattle.bundle.proofs.Lies.{lies}
use Rattle.journal.specs.Change.{rewritten}
use Rattle.journal.proofs.rewrite.Goals as goal

pub overflow_mul-at : goal.overflow_mul-at
overflow_mul-at c = let l = lies _ _ c.requires in omega arith

pub overflow_add-at : goal.overflow_add-at
overflow_add-at c = let l = lies _ _ c.requires in omega arith

pub slice_bounds-write-end : goal.slice_bounds-write-end
slice_bounds-write-end c = let l = lies _ _ c.requires in omega arith

pub returns : goal.returns
unfolding rewritten
returns c =
    let a = c.args in
    let at : a.bundle * 16 ≡ 16 * a.bundle = omega arith in
    let size : a.bundle * 16 + 16 - a.bundle * 16 ≡ 16 = omega arith in
    rw (size, at, c.write.ensures, drop-drop)
