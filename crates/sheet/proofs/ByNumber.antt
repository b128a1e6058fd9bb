-- The lines of a sheet by their number: one after the other they are the sheet, by induction on how many there are; past the last there is
-- nothing. Assumes nothing.
use mathlib.Core.Path.{◌≡◌, sym, ap, ap₂, ◌∙◌}
use mathlib.Core.Bool.{true, false}
use mathlib.Core.List.{List, ◌++◌, append_assoc, append-nil}
use Prim.Native.Nat.{ℕ, zero, suc, ◌-◌, ◌≤◌}
use native.Mathlib.Decide.{dec_lt}
use native.Mathlib.Numerals.{add-one}
use native.Mathlib.Omega.{arith}
use lib.Dec.{eqb}
use lib.ListN.{length, get_or, take}
use lib.Seq.{take-length}
use borrow.Author.Tests.{le-leb, lt-leb, ne_eqb}
use Rattle.record.specs.Record.{no_record}
use Rattle.record.specs.declared.Record.{Record}
use Rattle.records.specs.Journal.{Journal, standing, valid_of, record_at}
use Rattle.records.proofs.Standing.{valid-counts, valid-reads}
use Rattle.sheet.specs.Sheet.{lines_as, header_of, sheet_as, numbered, sheet_line, first_lines, LinesAreSheet}
use Rattle.sheet.specs.declared.line.Kind.TheVariants.{Full}
use Rattle.sheet.proofs.Sheets.{lines_more}

-- a line of a valid journal, by its count and its places
pub line-numbered : (party places : ℕ) (j : Journal) (i : ℕ) → valid_of party places j ≡ true → numbered i j.count (record_at j (i - 1)) ≡ sheet_line j i
line-numbered party places j i v = ap₂ (λ (n : ℕ) (r : Record). numbered i n r) (valid-counts party places j v) (valid-reads party places j v (i - 1))

not_first : (n : ℕ) → eqb (suc n) 0 ≡ false
not_first n = ne_eqb (suc n) 0 (λ e. omega (arith, e))

module _ (j : Journal) where
  abbrev rs : List Record
  rs = standing j

  -- the first line and those of the first n records
  lines-within : (n : ℕ) → n ≤ length rs → first_lines j (suc n) ≡ header_of (length rs) ++ lines_as Full (take n rs)
  lines-within zero h = sym (append-nil (header_of (length rs)))
  lines-within (suc n) h =
      let one : get_or rs (suc n - 1) no_record ≡ get_or rs n no_record = ap (λ (k : ℕ). get_or rs k no_record) (omega arith) in
      let more : lines_as Full (take (suc n) rs) ≡ _ = ap (λ (k : ℕ). lines_as Full (take k rs)) (sym (add-one n)) ∙ lines_more Full rs n (omega arith) in
      rw (not_first n, le-leb (suc n) (length rs) h, lines-within n (omega arith), more, one) (append_assoc (header_of (length rs)) (lines_as Full (take n rs)) _)

  lines-all : (n : ℕ) → n ≡ length rs → first_lines j (suc n) ≡ sheet_as Full j
  unfolding sheet_as
  lines-all n e = lines-within n (omega arith) ∙ ap (λ (qs : List Record). header_of (length rs) ++ lines_as Full qs) (ap (λ (k : ℕ). take k rs) e ∙ take-length rs)

  lines-past : (n : ℕ) → length rs ≤ n → first_lines j (suc n) ≡ sheet_as Full j
  lines-past zero h = lines-all zero (omega arith)
  lines-past (suc n) h =
      elim (dec_lt n (length rs)) [
        | yes l ↦ lines-all (suc n) (omega arith)
        | no l ↦ rw (not_first n, lt-leb (suc n) (length rs) (omega arith), lines-past n (omega arith)) (append-nil (sheet_as Full j))
      ]

pub lines-are-sheet : LinesAreSheet
lines-are-sheet j (suc n) h = lines-past j n (omega arith)
lines-are-sheet j zero h = absurd (omega arith)
