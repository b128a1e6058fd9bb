-- What is shown is the last record of the party's part. Assumes nothing.
use mathlib.Core.Path.{◌≡◌, ◌∙◌, ap, sym}
use mathlib.Core.Bool.{Bool, true}
use mathlib.Core.List.{List}
use Prim.Native.Nat.{ℕ, ◌+◌, ◌-◌, ◌≤◌, ◌<◌}
use native.Mathlib.Omega.{arith}
use lib.ListN.{get_or}
use Rattle.record.specs.Record.{no_record}
use Rattle.record.specs.declared.Record.{Record}
use Rattle.records.specs.Journal.{Journal, view_if, view_of, record_at}
use Rattle.records.specs.Shared.{Shared, sharing, first_of, places_of, count_of, own_of, serves, served_of}
use Rattle.records.specs.declared.Counts.{Counts}
use Rattle.records.specs.declared.Share.{Share}
use Rattle.records.proofs.Sharing.{Serving, serving, served-own, own-valid, own-within, own-some, own-count, own-reads}
use Rattle.records.proofs.Standing.{valid-counts, valid-few, view-shown}
use Rattle.records.proofs.own_served.Goals as goal

-- the journal serves the party
module _ (counts : Counts) (rs : List Record) (party : ℕ) (served : serves (sharing counts rs) party ≡ true) where
  abbrev given : Shared
  given = sharing counts rs

  it-serves : Serving given party
  it-serves = serving given party served

  abbrev own : Journal
  own = own_of given party

  abbrev places : ℕ
  places = places_of counts.parties party

  -- as many records stand as there are places, at most
  few : count_of counts party ≤ places
  few =
      let ok = own-valid given party it-serves in
      omega (arith, own-count counts rs party it-serves, valid-counts party places own ok, valid-few party places own ok)

  within : count_of counts party - 1 < places
  within = omega (arith, few, own-some counts rs party it-serves)

  -- the record before as many as stand is the last one of the party's journal
  last-is : get_or rs (first_of counts.parties party + (count_of counts party - 1)) no_record ≡ record_at own (own.count - 1)
  last-is =
      own-reads counts rs party it-serves (count_of counts party - 1) within
      ∙ ap (λ (n : ℕ). record_at own (n - 1)) (sym (own-count counts rs party it-serves))

  view-is : view_if true (count_of counts party) (get_or rs (first_of counts.parties party + (count_of counts party - 1)) no_record) ≡ view_of party places (served_of given party)
  view-is =
      (let count = sym (own-count counts rs party it-serves) in λ i. view_if true (count i) (last-is i))
      ∙ sym
      (ap (view_of party places) (served-own given party served)
      ∙ view-shown party places own
      ∙ ap (λ (t : Bool). view_if t own.count (record_at own (own.count - 1))) (own-valid given party it-serves))

pub overflow_add-share : goal.overflow_add-share
overflow_add-share c =
    let a = c.args in
    let share = c.share_of-share.ensures in
    omega (
      arith,
      c.place_before.ensures,
      ap (λ (h : Share). h.first) share,
      ap (λ (h : Share). h.count) share,
      few a.counts a.records.now a.party c.requires,
      own-within a.counts a.records.now a.party (it-serves a.counts a.records.now a.party c.requires),
    )

pub returns : goal.returns
returns c =
    let a = c.args in
    let share = c.share_of-share.ensures in
    let place : c.place_before.result ≡ count_of a.counts a.party - 1 = c.place_before.ensures ∙ ap (λ (h : Share). h.count - 1) share in
    let last = c.get-last.ensures ∙ (λ i. get_or a.records.now ((share i).first + place i) no_record) in
    let view = (λ i. view_if true (share i).count (last i)) ∙ view-is a.counts a.records.now a.party c.requires in
    λ i. record { first = (share i).first; places = (share i).places; view = view i }
