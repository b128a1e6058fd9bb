-- A journal that one or two parties share: the slice is in two parts, and each party has a journal of its own in its part. A call of a party
-- is one made with that party's journal, once all of the slice is found valid. Its laws are proved in `proofs/Sharing.antt`. Assumes nothing.
use Rattle.std.specs.Prelude.{ℕ, ◌-◌, ◌<◌, ◌≡◌, Bool, true, cond, ◌&&◌, ◌||◌, List, [], T, eqb, ltb, take, drop, replicate}
use Rattle.answer.specs.Answer.{outcome}
use Rattle.record.specs.Record.{no_record, fits64}
use Rattle.record.specs.declared.Record.{Record}
use Rattle.records.specs.Journal.{Journal, limit, lent, all, standing, journal_of, valid_of}
use Rattle.records.specs.declared.Counts.{Counts}

-- how many parties there are, the journal of party 0, and that of party 1
pub record Shared : Type 0 where
  pub parties : ℕ
  pub lower : Journal
  pub upper : Journal

-- where party 1's places begin: past the last place where there is one party, and half way where there are two
abbrev pub seam : ℕ → ℕ
seam parties = cond (eqb parties 2) 512 limit

-- what counts and the records of a slice are
abbrev pub sharing : Counts → List Record → Shared
sharing c rs = record { parties = c.parties; lower = lent c.lower (take (seam c.parties) rs); upper = lent c.upper (drop (seam c.parties) rs) }

-- a party's first place, and how many it has
abbrev pub first_of : ℕ → ℕ → ℕ
first_of parties party = cond (eqb party 0) 0 (seam parties)

abbrev pub places_of : ℕ → ℕ → ℕ
places_of parties party = cond (eqb party 0) (seam parties) (limit - seam parties)

-- how many records of a party stand
abbrev pub count_of : Counts → ℕ → ℕ
count_of c party = cond (eqb party 0) c.lower c.upper

-- a party's own journal
abbrev pub own_of : Shared → ℕ → Journal
own_of s party = cond (eqb party 0) s.lower s.upper

abbrev pub with_own : Shared → ℕ → Journal → Shared
with_own s party j = cond (eqb party 0) (record { parties = s.parties; lower = j; upper = s.upper }) (record { parties = s.parties; lower = s.lower; upper = j })

-- a journal is opened for one party or for two
abbrev pub is_opened : ℕ → Bool
is_opened parties = eqb parties 1 || eqb parties 2

-- a fresh one: no record stands
abbrev pub opened_for : ℕ → Counts
opened_for parties = record { parties = parties; lower = 0; upper = 0 }

unfoldable pub fresh : ℕ → Shared
fresh parties = record { parties = parties; lower = journal_of (places_of parties 0) []; upper = journal_of (places_of parties 1) [] }

-- each part is valid, and its records are of its party
unfoldable pub shared_valid : Shared → Bool
shared_valid s = is_opened s.parties && valid_of 0 (places_of s.parties 0) s.lower && valid_of 1 (places_of s.parties 1) s.upper

-- it is valid, and the party is one of those that it was opened for
unfoldable pub serves : Shared → ℕ → Bool
serves s party = shared_valid s && ltb party s.parties

-- the journal that a party's call is made with: its own, or one that is not valid, with a record and no place for it
unfoldable pub served_of : Shared → ℕ → Journal
served_of s party = cond (serves s party) (own_of s party) (lent 1 [])

-- what there is after a call that leaves this journal to the party: nothing changes where it is refused
abbrev pub after_by : Shared → ℕ → ℕ → Journal → Shared
after_by s party answer j = outcome answer (with_own s party j) s

-- records of the code stand in it
pub record SharedFits64 (s : Shared) : Type 0 where
  pub lower : T (all fits64 (standing s.lower))
  pub upper : T (all fits64 (standing s.upper))

-- free places and the counts of a fresh journal are one
abbrev pub OpenedIsFresh : Type 0
OpenedIsFresh = (parties : ℕ) → is_opened parties ≡ true → sharing (opened_for parties) (replicate limit no_record) ≡ fresh parties

-- a fresh journal serves the parties that it was opened for
abbrev pub FreshServes : Type 0
FreshServes = (parties party : ℕ) → is_opened parties ≡ true → party < parties → serves (fresh parties) party ≡ true

-- what counts and records are says what they are
abbrev pub SharingInjective : Type 0
SharingInjective = (c d : Counts) (rs qs : List Record) → sharing c rs ≡ sharing d qs → (c ≡ d) × (rs ≡ qs)
