-- A party's journal: the records that stand, the oldest first. How they are kept (a count, and places of which those past the count are
-- free) is said in this file alone: above it a journal is `journal_of` a list, and `standing` gives that list back. Its laws are proved in
-- `proofs/Standing.antt`. Assumes nothing.
use Rattle.std.specs.Prelude.{ℕ, ◌+◌, ◌-◌, ◌≤◌, ◌<◌, ◌≡◌, Bool, true, false, cond, ◌&&◌, eqb, leb, length, get_or, set, take, drop, replicate}
use mathlib.Core.List.{List, [], ◌∷◌, ◌++◌, drop_last, get_last_d}
use Rattle.record.specs.Record.{no_record, is_free, may_stand}
use Rattle.record.specs.declared.Record.{Record}

-- so many places has the slice that the code works on
abbrev pub limit : ℕ
limit = 1024

-- a count, and the records at the places
pub record Journal : Type 0 where
  pub count : ℕ
  pub records : List Record

-- the journal of a count and the records of a slice
abbrev pub lent : ℕ → List Record → Journal
lent count records = record { count = count; records = records }

-- each of some records passes a test
abbrev pub all : (Record → Bool) → List Record → Bool
all test [] = true
all test (r ∷ rs) = test r && all test rs

-- the records that stand
unfoldable pub standing : Journal → List Record
standing j = take j.count j.records

-- the journal of so many places in which exactly these stand
unfoldable pub journal_of : ℕ → List Record → Journal
journal_of places rs = record { count = length rs; records = rs ++ replicate (places - length rs) no_record }

-- a party's valid journal of so many places: the count is at most these, those that stand may, and the places past the count are free
unfoldable pub valid_of : ℕ → ℕ → Journal → Bool
valid_of party places j = eqb (length j.records) places && leb j.count places && all (may_stand party) (standing j) && all is_free (drop j.count j.records)

-- what is shown of a journal: whether it is valid, how many records stand and the last of them
pub record Shown : Type 0 where
  pub valid : Bool
  pub count : ℕ
  pub last : Record

-- nothing of one that isn't valid
abbrev pub view_if : Bool → ℕ → Record → Shown
view_if valid count last = cond valid (record { valid = true; count = count; last = last }) (record { valid = false; count = 0; last = no_record })

unfoldable pub view_of : ℕ → ℕ → Journal → Shown
view_of party places j = view_if (valid_of party places j) (length (standing j)) (get_last_d (standing j) no_record)

-- the record at a place
abbrev pub record_at : Journal → ℕ → Record
record_at j place = get_or j.records place no_record

-- a journal with a record at a place, and so many standing
abbrev pub with_record : Journal → ℕ → Record → ℕ → Journal
with_record j place r count = record { count = count; records = set j.records place r }

-- in the journal of some records just these stand
abbrev pub JournalStands : Type 0
JournalStands = (places : ℕ) (rs : List Record) → standing (journal_of places rs) ≡ rs

-- it is valid just where there are places for them and they may stand
abbrev pub JournalValid : Type 0
JournalValid = (party places : ℕ) (rs : List Record) → valid_of party places (journal_of places rs) ≡ leb (length rs) places && all (may_stand party) rs

-- a valid journal is the one of the records that stand in it
abbrev pub ValidIsJournal : Type 0
ValidIsJournal = (party places : ℕ) (j : Journal) → valid_of party places j ≡ true → journal_of places (standing j) ≡ j

-- record i of them stands at place i
abbrev pub JournalReads : Type 0
JournalReads = (places : ℕ) (rs : List Record) (i : ℕ) → record_at (journal_of places rs) i ≡ get_or rs i no_record

-- one record more, at the first free place
abbrev pub JournalPushes : Type 0
JournalPushes =
    (places : ℕ) (rs : List Record) (r : Record) → length rs < places → with_record (journal_of places rs) (length rs) r (length rs + 1) ≡ journal_of places (rs ++ (r ∷ []))

-- one record less: the last one's place is freed
abbrev pub JournalPops : Type 0
JournalPops =
    (places : ℕ) (rs : List Record) → length rs ≤ places → with_record (journal_of places rs) (length rs - 1) no_record (length rs - 1) ≡ journal_of places (drop_last rs)
