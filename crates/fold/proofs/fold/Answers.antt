-- The party's part, lent, is its journal, and what is left of it is put in its place. Assumes nothing.
use mathlib.Core.Path.{◌≡◌, sym, ap, ap₂, ◌∙◌}
use mathlib.Core.Bool.{true}
use mathlib.Core.List.{List, []}
use Prim.Native.Nat.{ℕ, ◌+◌, ◌-◌, ◌≤◌}
use native.Mathlib.Omega.{arith}
use borrow.Rule.Slice.PartMut.{mid_of, put_mid}
use lib.ListN.{length}
use Rattle.std.proofs.Common.{Option, None, Some, Ok, Err}
use Rattle.answer.specs.Answer.{accepted}
use Rattle.answer.specs.declared.Refusal.TheVariants.{BadJournal}
use Rattle.record.specs.declared.Record.{Record}
use Rattle.records.specs.Journal.{Journal, lent, standing, journal_of, valid_of}
use Rattle.records.specs.Shared.{sharing, places_of, with_own, served_of}
use Rattle.records.specs.inner.Shows.{as_shown, as_own_view, with_count, Lent, Shows}
use Rattle.records.specs.declared.Counts.{Counts}
use Rattle.records.specs.declared.Own.{Own}
use Rattle.records.specs.declared.View.{View}
use Rattle.records.proofs.Sharing.{part-put}
use Rattle.records.proofs.Standing.{journal-places, valid-places, valid-few}
use Rattle.fold.proofs.Laws.{fewer}
use Rattle.journal.specs.Edit.{journal_outcome_of}
use Rattle.fold.specs.Fold.{folded, fold_of, fold_by}
use Rattle.fold.proofs.fold.Goals as goal

-- what is shown of the party's part
module _ {c : Counts} {rs : List Record} {party : ℕ} (o : Own) (shows : Shows c rs party (as_own_view o)) where
  abbrev places : ℕ
  places = places_of c.parties party

  abbrev journal : Journal
  journal = served_of (sharing c rs) party

  refused : o.view ≡ None → journal_outcome_of (Err BadJournal) c rs ≡ fold_by (sharing c rs) party
  unfolding fold_of
  refused d = rw (sym shows.valid-is ∙ ap (λ (v : Option View). (as_shown v).valid) d)

  module _ (view : View) (v : o.view ≡ Some view) where
    part : Lent c rs party (as_own_view o)
    part = shows.part (ap (λ (v : Option View). (as_shown v).valid) v)

    lent-is : lent view.count (mid_of o.first (o.first + o.places - o.first) rs) ≡ journal
    lent-is = ap (λ (v : Option View). lent (as_shown v).count (mid_of o.first (o.first + o.places - o.first) rs)) (sym v) ∙ part.is-lent

    -- the part, lent
    abbrev own : List Record
    own = mid_of o.first (o.first + o.places - o.first) rs

    many : length own ≡ places
    many = ap (λ (j : Journal). length j.records) lent-is ∙ valid-places party places journal part.valid

    own-valid : valid_of party (length own) (lent view.count own) ≡ true
    own-valid = ap₂ (valid_of party) many lent-is ∙ part.valid

    taken : (counts : Counts) (left : ℕ) (out : List Record) → counts ≡ with_count c party left → lent left out ≡ journal_of (length own) (folded (standing (lent view.count own)))
        → journal_outcome_of (Ok counts) c (put_mid o.first (o.first + o.places - o.first) rs out) ≡ fold_by (sharing c rs) party
    unfolding fold_of
    taken counts left out count is =
        let qs = folded (standing journal) in
        let now : lent left out ≡ journal_of places qs = is ∙ (λ i. journal_of (many i) (folded (standing (lent-is i)))) in
        let few : length qs ≤ places = omega (arith, fewer [] (standing journal), valid-few party places journal part.valid) in
        let long = ap (λ (j : Journal). length j.records) now ∙ journal-places places qs few in
        let put =
        ap (λ (d : Counts). sharing d (put_mid o.first (o.first + o.places - o.first) rs out)) count
        ∙ part-put c rs party (as_own_view o) shows.is part.served left out long
        ∙ ap (with_own (sharing c rs) party) now in
        (λ i. record { answer = accepted; journal = put i }) ∙ rw part.valid

pub returns-in_default : goal.returns-in_default
returns-in_default c = refused _ c.own_of-own.ensures c.in_default.is

pub fold_own-left-requires : goal.fold_own-left-requires
fold_own-left-requires c =
    let o = c.own_of-own.result in
    let shows = c.own_of-own.ensures in
    (own-valid o shows _ c.in-Some.is, omega (arith, many o shows _ c.in-Some.is, (part o shows _ c.in-Some.is).short))

pub returns : goal.returns
returns c = taken _ c.own_of-own.ensures _ c.in-Some.is _ _ _ c.with_count.ensures c.fold_own-left.ensures
