-- A line read is one less to read.
use Rattle.std.proofs.Common.{◌<◌, length, ap, sym, arith}
use Rattle.layout.proofs.Lines.{windows-more, windows-none, windows-end}
use Rattle.layout.proofs.walk.WindowsIterator.next.Goals as goal

pub returns-then-self-eq0-clause-steps : goal.returns-then-self-eq0-clause-steps
returns-then-self-eq0-clause-steps c =
    let none = windows-end c.args.self.now.text.now c.args.self.now.at c.args.self.now.left c.if-self-eq0.true in
    (none, none)

pub returns-in_err-window-clause-steps : goal.returns-in_err-window-clause-steps
returns-in_err-window-clause-steps c =
    let some : 0 < c.args.self.now.left = omega arith in
    let none = windows-none c.args.self.now.text.now c.args.self.now.at c.args.self.now.left some (sym c.in_err-window.ensures) in
    rw c.from_residual.ensures (none, none)

pub returns-clause-steps : goal.returns-clause-steps
returns-clause-steps c =
    let some : 0 < c.args.self.now.left = omega arith in
    windows-more c.args.self.now.text.now c.args.self.now.at c.args.self.now.left some (sym c.in_ok-window.ensures)

pub returns-clause-goes : goal.returns-clause-goes
returns-clause-goes c =
    let some : 0 < c.args.self.now.left = omega arith in
    let more = ap length (windows-more c.args.self.now.text.now c.args.self.now.at c.args.self.now.left some (sym c.in_ok-window.ensures)) in
    record { on = λ _. (tt, tt, omega (arith, more)); keeps = tt; rests = λ _. tt }
