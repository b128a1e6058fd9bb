-- How far a sheet's records are written to places: those so far are the places of the journal of the records that were found, and the
-- lines left give the others. Assumes nothing.
use mathlib.Core.Path.{◌≡◌, sym, ap₂, ◌∙◌}
use mathlib.Core.List.{List, [], ◌∷◌, ◌++◌}
use mathlib.Core.Option.{some}
use Prim.Native.Nat.{ℕ, ◌+◌, ◌≤◌, ◌<◌}
use native.Mathlib.Numerals.{add-one}
use native.Mathlib.Omega.{arith}
use lib.ListN.{length, get_or, set, take, drop}
use lib.Seq.{take-suc, take-suc-set, get_or-drop}
use Rattle.record.specs.Record.{no_record}
use Rattle.record.specs.declared.Record.{Record}
use Rattle.records.specs.Journal.{journal_of}
use Rattle.records.proofs.Standing.{journal-places, journal-reads}
use Rattle.sheet.specs.inner.Finds.{lines_from, Gives}
use Rattle.sheet.specs.declared.look.Found.{Found}

pub record Filled (party : ℕ) (text : List ℕ) (found : Found) (before records : List Record) (at place : ℕ) : Type 0 where
  pub within : place ≤ length records
  pub long : length records ≡ length before
  pub lines : (rs : List Record) → Gives party text found rs → lines_from party text found at place ≡ some (drop place rs)
  pub full : (rs : List Record) → Gives party text found rs → length rs ≤ length before → take place records ≡ take place (journal_of (length before) rs).records

-- one place more
pub turn : (places place : ℕ) (records out rs : List Record) (one : Record) → place < length records → length records ≡ places → length rs ≤ places → out ≡ set records place one → one ≡ get_or (drop place rs) 0 no_record
    → take place records ≡ take place (journal_of places rs).records → take (place + 1) out ≡ take (place + 1) (journal_of places rs).records
turn places place records out rs one h long few put is so_far =
    let whole = (journal_of places rs).records in
    let here : place + 0 ≡ place = omega arith in
    let at : one ≡ get_or whole place no_record = is ∙ get_or-drop place rs 0 no_record ∙ rw here (sym (journal-reads places rs place)) in
    let fits : place < length whole = omega (arith, journal-places places rs few) in
    rw (add-one, put, take-suc-set records place one h, take-suc whole place no_record fits) (ap₂ (λ (l : List Record) (r : Record). l ++ (r ∷ [])) so_far at)
