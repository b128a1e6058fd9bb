-- How far a text has been read as a sheet of a kind: it gives the records that were read, and then those of the lines left. Assumes nothing.
use mathlib.Core.Path.{◌≡◌, refl, sym, ap}
use mathlib.Core.List.{List, [], ◌∷◌, ◌++◌}
use mathlib.Core.Option.{Option, none, some, map}
use Prim.Native.Nat.{ℕ, ◌-◌, ◌≤◌}
use lib.ListN.{length}
use lib.Seq.{append_snoc}
use Rattle.record.specs.declared.Record.{Record}
use Rattle.records.specs.Journal.{limit}
use Rattle.sheet.specs.Load.{records_at, records_as}
use Rattle.sheet.specs.declared.line.Kind.{Kind}

-- records, and then those of the lines that are left
abbrev pub joined : List Record → Option (List Record) → Option (List Record)
joined qs o = map (λ (rs : List Record). qs ++ rs) o

-- none, and one more
pub none-joined : (o : Option (List Record)) → o ≡ joined [] o
none-joined none = refl
none-joined (some rs) = refl

pub more-joined : (qs : List Record) (r : Record) (o : Option (List Record)) → joined qs (map (λ (rs : List Record). r ∷ rs) o) ≡ joined (qs ++ (r ∷ [])) o
more-joined qs r none = refl
more-joined qs r (some rs) = ap some (sym (append_snoc qs r rs))

pub record Seen (party : ℕ) (text : List ℕ) (kind : Kind) (count at place : ℕ) : Type 0 where
  pub within : place ≤ count
  pub records : List Record
  pub long : length records ≡ place
  pub gives : records_as limit party kind text ≡ joined records (records_at party kind text at (count - place))
