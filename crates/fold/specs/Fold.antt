-- Folding records: for each bundle touched one record of the whole bundle, in order of first touch, with the oldest old and the newest new
-- bundle. Assumes nothing.
use Rattle.std.specs.Prelude.{ℕ, Bool, false, cond, ◌||◌, List, [], ◌∷◌, ◌++◌, map, eqb}
use Rattle.answer.specs.Answer.{accepted, bad_journal}
use Rattle.record.specs.Record.{whole_record}
use Rattle.record.specs.declared.Record.{Record}
use Rattle.records.specs.Journal.{Journal, standing, journal_of, valid_of}
use Rattle.records.specs.Shared.{Shared, places_of, served_of}
use Rattle.journal.specs.Change.{JournalOutcome}
use Rattle.journal.specs.Edit.{SharedJournalOutcome, journal_by_party}

-- a number is among some
abbrev pub has : ℕ → List ℕ → Bool
has k [] = false
has k (j ∷ js) = eqb j k || has k js

abbrev pub bundles_in : List Record → List ℕ
bundles_in rs = map (λ (r : Record). r.bundle) rs

-- a record as one of its whole bundle
abbrev pub as_whole : Record → Record
as_whole r = whole_record r.party r.bundle r.old r.new

-- a record of r's bundle, with r's new bundle; any other as it is
abbrev pub renewed : Record → Record → Record
renewed r q = cond (eqb q.bundle r.bundle) (whole_record q.party q.bundle q.old r.new) q

-- a record folded into others: it renews the one of its bundle, or stands after them, as one of a whole bundle
abbrev pub folded_in : List Record → Record → List Record
folded_in qs r = cond (has r.bundle (bundles_in qs)) (map (renewed r) qs) (qs ++ (as_whole r ∷ []))

-- one after the other, the oldest first
abbrev pub folded_on : List Record → List Record → List Record
folded_on qs [] = qs
folded_on qs (r ∷ rs) = folded_on (folded_in qs r) rs

abbrev pub folded : List Record → List Record
folded rs = folded_on [] rs

-- what a party's fold comes to with its journal of so many places: it is refused only where the journal isn't valid
unfoldable pub fold_of : ℕ → ℕ → Journal → JournalOutcome
fold_of party places journal =
    cond (valid_of party places journal)
    (record { answer = accepted; journal = journal_of places (folded (standing journal)) })
    (record { answer = bad_journal; journal = journal })

-- what `fold` comes to
abbrev pub fold_by : Shared → ℕ → SharedJournalOutcome
fold_by s party = journal_by_party s party (fold_of party (places_of s.parties party) (served_of s party))
