-- Loading accepts exactly what a writer of either kind of line can write, and gives that journal. Proved in `proofs/Inverse.antt` and
-- `Lengths.antt`. Assumes nothing.
use Rattle.std.specs.Prelude.{ℕ, ◌-◌, ◌^◌, ◌≤◌, ◌<◌, ◌≡◌, true, false, List, T, length, replicate}
use Rattle.answer.specs.Answer.{accepted, full, bad_journal, bad_sheet}
use Rattle.bundle.specs.declared.half.Halves.{Halves}
use Rattle.form.specs.Form.{m}
use Rattle.records.specs.Journal.{Journal, limit, all, standing, journal_of, valid_of}
use Rattle.record.specs.Record.{highest, fits64}
use Rattle.record.specs.declared.Record.{Record}
use Rattle.sheet.specs.Sheet.{tells, sheet_as, sheet_of, capacity}
use Rattle.sheet.specs.Load.{load_of}
use Rattle.sheet.specs.declared.line.Kind.{Kind}
use Rattle.sheet.specs.declared.line.Kind.TheVariants.{Full}

-- a party's journal of so many places that has a sheet of a kind: a valid one of the code, of whose records such lines tell all
pub record HasSheet (party places : ℕ) (kind : Kind) (j : Journal) : Type 0 where
  pub valid : valid_of party places j ≡ true
  pub held : T (all fits64 (standing j))
  pub told : T (all (tells kind) (standing j))

-- its sheet loads as that journal, whatever the valid one to be replaced
abbrev pub LoadsWritten : Type 0
LoadsWritten =
    (most party places : ℕ) (kind : Kind) (given j : Journal) → most < 2 ^ 64 → places ≤ most → valid_of party places given ≡ true → HasSheet party places kind j
    → load_of most party places given (sheet_as kind j) ≡ record { answer = accepted; journal = j }

-- what loads is byte for byte a sheet, of one of the kinds, of the journal that it gives
abbrev pub LoadsOnlyWritten : Type 0
LoadsOnlyWritten =
    (most party places : ℕ) (given : Journal) (text : List ℕ) → (load_of most party places given text).answer ≡ accepted
    → (kind : Kind) × HasSheet party places kind (load_of most party places given text).journal × (text ≡ sheet_as kind (load_of most party places given text).journal)

-- a text that is the sheet of no journal of `most` places is none, and the journal stays as it was given
abbrev pub RefusesOther : Type 0
RefusesOther =
    (most party places : ℕ) (given : Journal) (text : List ℕ) → valid_of party places given ≡ true → ((kind : Kind) (j : Journal) → HasSheet party most kind j → text ≡ sheet_as kind j → ⊥)
    → load_of most party places given text ≡ record { answer = bad_sheet; journal = given }

-- so is the sheet of more records than that: no part of it is loaded
abbrev pub RefusesMore : Type 0
RefusesMore =
    (most party places : ℕ) (kind : Kind) (given j : Journal) → valid_of party places given ≡ true → most < length (standing j) → length (standing j) < 2 ^ 64
    → load_of most party places given (sheet_as kind j) ≡ record { answer = bad_sheet; journal = given }

-- one of more records than the party has places is refused as a full journal is
abbrev pub RefusesFull : Type 0
RefusesFull =
    (most party places : ℕ) (kind : Kind) (given j : Journal) → most < 2 ^ 64 → valid_of party places given ≡ true → HasSheet party most kind j → places < length (standing j)
    → load_of most party places given (sheet_as kind j) ≡ record { answer = full; journal = given }

-- nothing is loaded over a journal that isn't valid
abbrev pub RefusesInvalid : Type 0
RefusesInvalid =
    (most party places : ℕ) (given : Journal) (text : List ℕ) → valid_of party places given ≡ false → load_of most party places given text ≡ record { answer = bad_journal; journal = given }

-- no sheet that is written is longer than 118,797 bytes
abbrev pub AtMost : Type 0
AtMost = (party places : ℕ) (j : Journal) → places ≤ limit → HasSheet party places Full j → length (sheet_of j) ≤ capacity

-- a full journal of longest records: an edit of M22 to -16 in a bundle with tag 0 whose other bits are all ones
abbrev pub ones : Halves
ones = record { low = 2 ^ 64 - 32; high = 2 ^ 64 - 1 }

abbrev pub longest_record : Record
longest_record = record { party = 0; bundle = highest; slot = 0; form = m 22; value = 2 ^ 64 - 16; old = ones; new = ones }

abbrev pub longest : Journal
longest = journal_of limit (replicate limit longest_record)

-- its sheet has so many
abbrev pub LongestHas : Type 0
LongestHas = HasSheet 0 limit Full longest × (length (sheet_of longest) ≡ capacity)
