-- Journals from before records had a slot, a form and a value. A sheet of one loads, and undoing all of it gives the bytes that the tool of
-- that time gave, which goes by bundle, old and new alone. Proved in `proofs/Old.antt`. Assumes nothing.
use Rattle.std.specs.Prelude.{ℕ, zero, suc, ◌+◌, ◌*◌, ◌≤◌, ◌≡◌, Bool, true, cond, ◌&&◌, List, [], ◌∷◌, ◌++◌, T, leb, ltb, length}
use Rattle.answer.specs.Answer.{accepted}
use Rattle.bundle.specs.Bundle.{longest_code, number_at, halves_of, whole}
use Rattle.bundle.specs.declared.half.Halves.{Halves}
use Rattle.journal.specs.Change.{Outcome, rewritten}
use Rattle.demands.specs.Demand3.{undo, step}
use Rattle.record.specs.Record.{highest, whole_record, same_halves, fits64}
use Rattle.record.specs.declared.Record.{Record}
use Rattle.records.specs.Journal.{Journal, limit, all, journal_of, valid_of}
use Rattle.sheet.specs.Load.{load_of}
use Rattle.sheet.specs.Sheet.{sheet_as}
use Rattle.sheet.specs.declared.line.Kind.TheVariants.{Old}

-- a record of that time: a bundle, what it was and what it is
pub record OldRecord : Type 0 where
  pub bundle : ℕ
  pub old : Halves
  pub new : Halves

-- such records, of which the newest stands first, as a party's records of whole bundles, the oldest first
abbrev pub wholes : ℕ → List OldRecord → List Record
wholes party [] = []
wholes party (r ∷ rs) = wholes party rs ++ (whole_record party r.bundle r.old r.new ∷ [])

-- the code after undoing all of them: an old bundle is written where the new one stands, and where it doesn't undoing has an end
abbrev pub undone : List ℕ → List OldRecord → List ℕ
undone code [] = code
undone code (r ∷ rs) =
    cond (ltb (length code) (16 * r.bundle + 16)) code
    (cond (same_halves (halves_of (number_at code r.bundle)) r.new) (undone (rewritten code r.bundle (whole r.old)) rs) code)

-- n undos, one after the other
abbrev pub undos : ℕ → ℕ → ℕ → Outcome → Outcome
undos party places zero o = o
undos party places (suc n) o = undos party places n (step party places o undo)

-- a record that could stand: of a bundle up to the highest, in numbers of 64 bits
abbrev pub could_stand : Record → Bool
could_stand r = leb r.bundle highest && fits64 r

-- what is so of a journal of that time that a party with this number of places loads
pub record LoadsOld (party places : ℕ) (given : Journal) (rs : List OldRecord) : Type 0 where
  -- its sheet, in old lines, is taken and gives its records
  pub loads : load_of limit party places given (sheet_as Old (journal_of places (wholes party rs))) ≡ record { answer = accepted; journal = journal_of places (wholes party rs) }
  -- and as many undos as records give the bytes that the tool of that time gave
  pub undoes : (code : List ℕ) → length code ≤ longest_code
      → (undos party places (length rs) (record { answer = accepted; journal = journal_of places (wholes party rs); code = code })).code ≡ undone code rs

-- of every such journal of records that could stand, at most as many as the party has places, over any valid one
abbrev pub OldLoads : Type 0
OldLoads =
    (party places : ℕ) (given : Journal) (rs : List OldRecord) → places ≤ limit → valid_of party places given ≡ true → length rs ≤ places → T (all could_stand (wholes party rs))
    → LoadsOld party places given rs
