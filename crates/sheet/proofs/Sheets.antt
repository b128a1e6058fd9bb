-- How long the lines of a sheet are, and that they come one after the other. By the definitions. Assumes nothing.
use mathlib.Core.Path.{◌≡◌, refl, sym, ap, ◌∙◌}
use mathlib.Core.List.{List, [], ◌∷◌, ◌++◌, append_assoc, append-nil}
use Prim.Native.Nat.{ℕ, suc, ◌+◌, ◌<◌}
use native.Mathlib.Numerals.{add-one}
use native.Mathlib.Omega.{arith}
use lib.ListN.{length, get_or, take, length-append}
use lib.Seq.{take-suc}
use Rattle.records.specs.Journal.{Journal, standing}
use Rattle.name.specs.Name.{name_of}
use Rattle.record.specs.Record.{no_record}
use Rattle.record.specs.declared.Record.{Record}
use Rattle.text.specs.Decimal.{decimal}
use Rattle.sheet.specs.Sheet.{line_as, lines_as, header_of, sheet_as}
use Rattle.sheet.specs.declared.line.Kind.{Kind}
use Rattle.sheet.specs.declared.line.Kind.TheVariants.{Full}

pub line-length : (r : Record) → length (line_as Full r) ≡ length (decimal r.bundle) + suc (length (decimal r.slot) + suc (length (name_of r.form) + suc (length (decimal r.value) + suc (length (decimal r.old.low) + suc (length (decimal r.old.high) + suc (length (decimal r.new.low) + suc (length (decimal r.new.high) + 1)))))))
unfolding line_as
line-length r = simp length-append

module _ (kind : Kind) where
  lines-append : (rs qs : List Record) → lines_as kind (rs ++ qs) ≡ lines_as kind rs ++ lines_as kind qs
  lines-append [] qs = refl
  lines-append (r ∷ rs) qs = ap (λ (l : List ℕ). line_as kind r ++ l) (lines-append rs qs) ∙ sym (append_assoc (line_as kind r) (lines_as kind rs) (lines_as kind qs))

  -- one record more
  pub lines_more : (rs : List Record) (i : ℕ) → i < length rs → lines_as kind (take (i + 1) rs) ≡ lines_as kind (take i rs) ++ line_as kind (get_or rs i no_record)
  lines_more rs i h = rw (add-one, take-suc rs i no_record h, lines-append (take i rs) (get_or rs i no_record ∷ []), append-nil (line_as kind (get_or rs i no_record)))

  pub sheet-length : (j : Journal) → length (sheet_as kind j) ≡ length (decimal (length (standing j))) + 9 + length (lines_as kind (standing j))
  unfolding sheet_as
  sheet-length j = length-append (header_of (length (standing j))) (lines_as kind (standing j)) ∙ omega (arith, length-append (decimal (length (standing j))) (10 ∷ []))
