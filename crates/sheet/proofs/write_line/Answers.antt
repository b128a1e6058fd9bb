-- The line of that number, by the place before it in the party's part. Assumes nothing.
use mathlib.Core.Path.{ap, ◌∙◌}
use mathlib.Core.List.{List, []}
use Prim.Native.Nat.{ℕ, ◌+◌, ◌-◌}
use borrow.Rule.Slice.PartMut.{mid_of}
use Rattle.records.specs.Journal.{Journal, lent, valid_of, record_at}
use Rattle.records.specs.Shared.{places_of}
use Rattle.text.specs.Whole.{wrote_of}
use Rattle.sheet.specs.Sheet.{numbered, sheet_line}
use Rattle.sheet.proofs.ByNumber.{line-numbered}
use Rattle.sheet.proofs.Writing.{wrote-valid, wrote-invalid}
use Rattle.sheet.proofs.write_line.Goals as goal

pub returns-in_default : goal.returns-in_default
returns-in_default c = wrote-invalid c.own_of-own.ensures _ (λ (j : Journal). sheet_line j c.args.i) (rw c.in_default.is)

pub returns : goal.returns
returns c =
    let a = c.args in
    let own = c.own_of-own.result in
    let shown = c.in-Some.is in
    let part = c.own_of-own.ensures.part (rw shown) in
    let j = lent c.in-Some.view.count (mid_of own.first (own.first + own.places - own.first) a.records.now) in
    let one = c.get-one.ensures ∙ ap (record_at j) c.place_before.ensures in
    let valid = ap (valid_of a.party (places_of a.counts.parties a.party)) (rw shown at part.is-lent) ∙ part.valid in
    c.write_numbered.ensures
    ∙ ap (λ (t : List ℕ). wrote_of [] t a.out.now) (ap (numbered a.i c.in-Some.view.count) one ∙ line-numbered a.party _ j a.i valid)
    ∙ (rw shown at (wrote-valid c.own_of-own.ensures a.out.now (λ (j : Journal). sheet_line j a.i) (rw shown)))
