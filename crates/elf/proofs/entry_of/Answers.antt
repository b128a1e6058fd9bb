-- A case of where the header stands at each return.
use Rattle.std.proofs.Common.{◌*◌, ◌≤◌, ◌<◌, arith, sym}
use borrow.Author.Tests.{leb-true, leb-false}
use Rattle.elf.proofs.Laws.{no-entry, entry_past, entry-is}
use Rattle.elf.proofs.entry_of.Goals as goal

pub returns-then-table-k : goal.returns-then-table-k
returns-then-table-k c = no-entry _ _ _ _ (omega arith)

pub returns-in_err-last : goal.returns-in_err-last
returns-in_err-last c = rw c.from_residual.ensures (entry_past _ _ _ _ (omega (arith, c.in_err-last.ensures)))

pub returns-in_err-room : goal.returns-in_err-room
returns-in_err-room c = rw c.from_residual-in_err-room.ensures (entry_past _ _ _ _ (omega (arith, c.in_ok-last.ensures, c.in_err-room.ensures)))

pub returns-then-not-is_within : goal.returns-then-not-is_within
returns-then-not-is_within c =
    let a = c.args in
    let o : c.in_ok-room.room < a.table.size * a.k = leb-false _ _ (sym c.if-not-is_within.ensures) in
    entry_past _ _ _ _ (omega (arith, c.in_ok-last.ensures, c.in_ok-room.ensures, o))

pub returns : goal.returns
returns c =
    let a = c.args in
    let i : a.table.size * a.k ≤ c.in_ok-room.room = leb-true _ _ (sym c.if-not-is_within.ensures) in
    entry-is _ _ _ _ (omega arith) (omega (arith, c.in_ok-last.ensures, c.in_ok-room.ensures))
