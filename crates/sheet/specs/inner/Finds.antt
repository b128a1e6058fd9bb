-- What the two goes through a text promise each other: looking finds where the lines of a sheet are, and filling writes their records. What
-- loading comes to is said in `Load.antt`. Assumes nothing.
use Rattle.std.specs.Prelude.{ℕ, ◌+◌, ◌-◌, ◌≤◌, ◌≡◌, Bool, List, length, get_or, drop}
use Rattle.std.proofs.Math.Option.{Option, none, some}
use Rattle.std.specs.declared.result.Result.{Result}
use Rattle.std.specs.declared.result.Result.TheVariants.{Err}
use Rattle.std.specs.Prelude.{IfOk, IsOkAnd}
use Rattle.answer.specs.Answer.{answer_of}
use Rattle.answer.specs.declared.Refusal.{Refusal}
use Rattle.answer.specs.declared.Refusal.TheVariants.{BadSheet}
use Rattle.record.specs.Record.{no_record}
use Rattle.record.specs.declared.Record.{Record}
use Rattle.records.specs.Journal.{Journal, limit, journal_of, valid_of}
use Rattle.sheet.specs.Load.{records_at, records_in, load_of}
use Rattle.sheet.specs.declared.look.Found.{Found}
use Rattle.sheet.specs.declared.look.Next.{Next}

-- the records of the lines that were found but for the first so many, where the others begin at a place of the text
abbrev pub lines_from : ℕ → List ℕ → Found → ℕ → ℕ → Option (List Record)
lines_from party text found at place = records_at party found.kind text at (found.count - place)

-- the lines that were found give these records
pub record Gives (party : ℕ) (text : List ℕ) (found : Found) (rs : List Record) : Type 0 where
  pub counts : found.count ≡ length rs
  pub lines : lines_from party text found found.first 0 ≡ some rs

-- what is found in a text that gives records, or none
abbrev pub Finds : ℕ → List ℕ → Option (List Record) → Result Found Refusal → Type 0
Finds party text none found = found ≡ Err BadSheet
Finds party text (some rs) found = IsOkAnd found (λ f. Gives party text f rs)

-- what is found for a journal of so many places: what loading over it answers, and where it accepts, the records of the text
pub record FindsFor (party : ℕ) (valid : Bool) (places : ℕ) (text : List ℕ) (found : Result Found Refusal) : Type 0 where
  pub answers : (given : Journal) → valid_of party places given ≡ valid → answer_of found ≡ (load_of limit party places given text).answer
  pub gives : (rs : List Record) → records_in limit party text ≡ some rs → IfOk found (λ f. Gives party text f rs)

-- what comes next: the first record of the lines that are left, or nothing past the last, and where the others begin
abbrev pub Nexts : ℕ → List ℕ → Found → ℕ → ℕ → Next → Type 0
Nexts party text found at place next =
    (rs : List Record) → lines_from party text found at place ≡ some rs → (next.one ≡ get_or rs 0 no_record) × (lines_from party text found next.at (place + 1) ≡ some (drop 1 rs))

-- the places hold the records of the lines that were found, and the others are free
abbrev pub Fills : ℕ → List ℕ → Found → List Record → List Record → Type 0
Fills party text found before after = (rs : List Record) → Gives party text found rs → length rs ≤ length before → after ≡ (journal_of (length before) rs).records
