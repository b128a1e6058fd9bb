-- What `own_of` shows a call of its party's part, and how the counts are kept. Assumes nothing.
use Rattle.std.specs.Prelude.{ℕ, ◌+◌, ◌-◌, ◌≤◌, ◌≡◌, true, false, cond, List, Option, None, Some, T, eqb, length}
use borrow.Rule.Slice.PartMut.{mid_of}
use Rattle.record.specs.Record.{no_record, fits64}
use Rattle.record.specs.declared.Record.{Record}
use Rattle.records.specs.Journal.{Shown, limit, lent, all, standing, valid_of, view_if, view_of}
use Rattle.records.specs.Shared.{Shared, sharing, first_of, places_of, count_of, serves, served_of}
use Rattle.records.specs.declared.Counts.{Counts}
use Rattle.records.specs.declared.Own.{Own}
use Rattle.records.specs.declared.Share.{Share}
use Rattle.records.specs.declared.View.{View}

-- the code's view, which only a valid journal has, as what is shown
abbrev pub as_shown : Option View → Shown
as_shown None = view_if false 0 no_record
as_shown (Some v) = view_if true v.count v.last

-- a party's part, and what is shown of the journal there
pub record OwnView : Type 0 where
  pub first : ℕ
  pub places : ℕ
  pub view : Shown

abbrev pub as_own_view : Own → OwnView
as_own_view o = record { first = o.first; places = o.places; view = as_shown o.view }

-- what a party is shown of its part
abbrev pub own_view : Shared → ℕ → OwnView
own_view s party =
    record { first = first_of s.parties party; places = places_of s.parties party; view = view_of party (places_of s.parties party) (served_of s party) }

-- a party's part, where the journal serves the party: it lies in the slice, and lent it is the party's journal
pub record Lent (c : Counts) (rs : List Record) (party : ℕ) (o : OwnView) : Type 0 where
  pub served : serves (sharing c rs) party ≡ true
  pub valid : valid_of party (places_of c.parties party) (served_of (sharing c rs) party) ≡ true
  pub held : T (all fits64 (standing (served_of (sharing c rs) party)))
  pub within : o.first + o.places ≤ length rs
  pub short : o.first + o.places ≤ limit
  pub is-lent : lent o.view.count (mid_of o.first (o.first + o.places - o.first) rs) ≡ served_of (sharing c rs) party

-- what a call is shown of its party's part
pub record Shows (c : Counts) (rs : List Record) (party : ℕ) (o : OwnView) : Type 0 where
  pub is : o ≡ own_view (sharing c rs) party
  pub valid-is : o.view.valid ≡ valid_of party (places_of c.parties party) (served_of (sharing c rs) party)
  pub part : o.view.valid ≡ true → Lent c rs party o

-- both without what is said of the numbers that stand there
pub record PartLent (c : Counts) (rs : List Record) (party : ℕ) (o : OwnView) : Type 0 where
  pub served : serves (sharing c rs) party ≡ true
  pub valid : valid_of party (places_of c.parties party) (served_of (sharing c rs) party) ≡ true
  pub within : o.first + o.places ≤ length rs
  pub short : o.first + o.places ≤ limit
  pub is-lent : lent o.view.count (mid_of o.first (o.first + o.places - o.first) rs) ≡ served_of (sharing c rs) party

pub record ShowsPart (c : Counts) (rs : List Record) (party : ℕ) (o : OwnView) : Type 0 where
  pub is : o ≡ own_view (sharing c rs) party
  pub valid-is : o.view.valid ≡ valid_of party (places_of c.parties party) (served_of (sharing c rs) party)
  pub part : o.view.valid ≡ true → PartLent c rs party o

-- where a party's part begins, how many places it has, and how many of its records stand
abbrev pub share_of : Counts → ℕ → Share
share_of c party = record { first = first_of c.parties party; places = places_of c.parties party; count = count_of c party }

-- the counts with another count for a party
abbrev pub with_count : Counts → ℕ → ℕ → Counts
with_count c party count =
    cond (eqb party 0) (record { parties = c.parties; lower = count; upper = c.upper }) (record { parties = c.parties; lower = c.lower; upper = count })
