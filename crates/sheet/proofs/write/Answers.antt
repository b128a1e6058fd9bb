-- The party's part, lent, is its journal, whose sheet is written. Assumes nothing.
use mathlib.Core.Path.{◌≡◌, ◌∙◌}
use mathlib.Core.List.{List}
use Prim.Native.Nat.{ℕ, ◌≤◌}
use native.Mathlib.Omega.{arith}
use lib.ListN.{length}
use Rattle.record.specs.declared.Record.{Record}
use Rattle.records.specs.Journal.{Journal, standing}
use Rattle.records.specs.Shared.{sharing, places_of, served_of}
use Rattle.records.specs.inner.Shows.{OwnView, Lent}
use Rattle.records.specs.declared.Counts.{Counts}
use Rattle.records.proofs.Sharing.{places-within}
use Rattle.records.proofs.Standing.{valid-counts, valid-few, valid-places}
use Rattle.sheet.specs.Sheet.{sheet_of, capacity}
use Rattle.sheet.proofs.Lengths.{sheet-most, all_told}
use Rattle.sheet.proofs.Writing.{wrote-valid, wrote-invalid}
use Rattle.sheet.proofs.write.Goals as goal

pub returns-in_default : goal.returns-in_default
returns-in_default c = wrote-invalid c.own_of-own.ensures _ sheet_of (rw c.in_default.is)

-- the party's journal has places for its records, and its sheet isn't too long
fits : {c : Counts} {rs : List Record} {party : ℕ} {o : OwnView} → Lent c rs party o → (j : Journal) → j ≡ served_of (sharing c rs) party → (j.count ≤ length j.records) × (length (sheet_of j) ≤ capacity)
fits {c} {rs} {party} s j e =
    let places = places_of c.parties party in
    rw e (
      omega (arith, valid-counts party places _ s.valid, valid-few party places _ s.valid, valid-places party places _ s.valid),
      sheet-most party places _ (places-within c.parties party) (record { valid = s.valid; held = s.held; told = all_told (standing _) }),
    )

pub write_own-requires : goal.write_own-requires
write_own-requires c =
    let shown = c.in-Some.is in
    let s = c.own_of-own.ensures.part (rw shown) in
    fits s _ (rw shown at s.is-lent)

pub returns : goal.returns
returns c =
    let shown = c.in-Some.is in
    c.write_own.ensures ∙ (rw shown at (wrote-valid c.own_of-own.ensures c.args.out.now sheet_of (rw shown)))
