-- The line at the place is the first of those left. Assumes nothing.
use mathlib.Core.Path.{◌≡◌, refl, sym, ◌∙◌}
use Prim.Native.Nat.{ℕ, ◌+◌}
use native.Mathlib.Omega.{arith}
use Rattle.std.specs.Prelude.{Option, Some}
use Rattle.record.specs.declared.Record.{Record}
use Rattle.text.proofs.Numbers.{no_number, some-parts}
use Rattle.sheet.proofs.Reading.{left, done, records-end, more}
use Rattle.sheet.proofs.look.next_line.Goals as goal

pub returns-in-Some : goal.returns-in-Some
returns-in-Some c rs e =
    let a = c.args in
    let m = more a.party a.found.kind a.text.now a.at _ rs (rw (left a.place a.found.count c.if-place-found.true) at e) in
    let same : ◌≡◌ {A = Option (Record × ℕ)} (Some (c.in-Some.one, c.in-Some.next)) (Some (m.one, m.next)) = sym c.in-Some.is ∙ c.read_line-line.ensures ∙ m.line-is in
    let parts = some-parts same in
    rw (← m.is) (parts.0, rw parts.1 m.others-are)

pub returns-in_default : goal.returns-in_default
returns-in_default c rs e =
    let a = c.args in
    let m = more a.party a.found.kind a.text.now a.at _ rs (rw (left a.place a.found.count c.if-place-found.true) at e) in
    absurd (no_number (sym c.in_default.is ∙ c.read_line-line.ensures ∙ m.line-is))

pub returns-else-place-found : goal.returns-else-place-found
returns-else-place-found c rs e =
    let a = c.args in
    let now = done a.place a.found.count c.if-place-found.false in
    let then = done (a.place + 1) a.found.count (omega (arith, c.if-place-found.false)) in
    let end = records-end a.party a.found.kind a.text.now a.at rs (rw now at e) in
    rw (← end.0) (refl, rw then (rw (now, ← end.0) at e))
