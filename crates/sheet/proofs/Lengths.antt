-- How long a sheet can be: a bundle number has at most 4 digits, a slot 1, a form's name 3 characters, a value and a half at most 20
-- digits, so a line has at most 116 bytes, and a valid journal has at most `limit` of them. Assumes nothing.
use mathlib.Core.Path.{◌≡◌, refl, sym, ap, ◌∙◌, subst}
use mathlib.Core.Bool.{Bool, true, ◌&&◌}
use mathlib.Core.List.{List, [], ◌∷◌}
use mathlib.Core.Logic.{inl, inr}
use Prim.Native.Nat.{ℕ, zero, suc, ◌+◌, ◌-◌, ◌*◌, ◌/◌, ◌^◌, ◌≤◌, ◌<◌}
use native.Mathlib.Omega.{arith}
use lib.Dec.{T, leb, leb→le}
use lib.Ieee.Bits.{is_true}
use lib.ListN.{length, replicate, length-append, length-replicate}
use borrow.Author.Tests.{le-leb}
use mir.Facts.{and_yes, yes_and}
use Rattle.bits.specs.Part.{put}
use Rattle.bits.specs.Parts.{gather, scatter}
use Rattle.bundle.specs.Bundle.{whole}
use Rattle.bundle.specs.Bytes.{number}
use Rattle.bundle.specs.Template.{units_of}
use Rattle.form.specs.Form.{no_form, m}
use Rattle.form.specs.declared.Form.{Form}
use Rattle.immediate.specs.Immediate.{changed_of}
use Rattle.records.specs.Journal.{limit, all, standing}
use Rattle.records.proofs.Standing.{journal-stands, journal-valid, valid-few, valid-stand}
use Rattle.name.specs.Name.{name_of}
use Rattle.name.proofs.Names.{letter-name, other_name}
use Rattle.record.specs.Record.{highest, recorded_edit, passes, may_stand, fits64, line_numbers}
use Rattle.record.specs.declared.Record.{Record}
use Rattle.record.proofs.Laws.{may-passes, may-near, whole_is, passes-by, passes-form, edit-slot}
use Rattle.row.specs.Row.{lines, row_of}
use Rattle.text.specs.Decimal.{digits, decimal}
use Rattle.text.proofs.Numerals.{length-four, decimal-length}
use Rattle.sheet.specs.declared.line.Kind.TheVariants.{Full}
use Rattle.sheet.specs.RoundTrip.{AtMost, longest_record, longest, LongestHas}
use Rattle.sheet.specs.Sheet.{line_as, tells, lines_as}
use Rattle.sheet.proofs.Held.{words}
use Rattle.sheet.proofs.Sheets.{line-length, sheet-length}

-- a record that may stand has a slot of one digit, and its form's name is short
may-slot : (party : ℕ) (r : Record) → T (may_stand party r) → r.slot < 10
may-slot party r m =
    elim (passes-by r (is_true (passes r) (may-passes party r m))) [
      | inl w ↦ omega (arith, ap (λ (q : Record). q.slot) (whole_is r (subst T (sym w) tt)))
      | inr t ↦ omega (arith, edit-slot (whole r.old) (recorded_edit r) t)
    ]

may-name : (party : ℕ) (r : Record) → T (may_stand party r) → length (name_of r.form) ≤ 3
may-name party r m =
    elim (passes-form r (is_true (passes r) (may-passes party r m))) [
      | inl e ↦ omega (arith, ap (λ (f : Form). length (name_of f)) e, ap length (other_name no_form refl))
      | inr b ↦
          let l = letter-name r.form (rw (le-leb 65 r.form.family b.0, le-leb r.form.family 90 b.1)) in
          omega (arith, ap length l, decimal-length 1 r.form.number (omega (arith, b.2)))
    ]

line-most : (party : ℕ) (r : Record) → T (may_stand party r) → T (fits64 r) → length (line_as Full r) ≤ 116
line-most party r m h =
    let near = leb→le r.bundle highest (may-near party r m) in
    let w = (words (line_numbers r) h).1.1.1 in
    omega (
      arith,
      line-length r,
      decimal-length 3 r.bundle (omega (arith, near)),
      decimal-length 0 r.slot (may-slot party r m),
      may-name party r m,
      decimal-length 19 r.value (omega (arith, w.0)),
      decimal-length 19 r.old.low (omega (arith, w.1.0)),
      decimal-length 19 r.old.high (omega (arith, w.1.1.0)),
      decimal-length 19 r.new.low (omega (arith, w.1.1.1.0)),
      decimal-length 19 r.new.high (omega (arith, w.1.1.1.1.0)),
    )

lines-most : (party : ℕ) (rs : List Record) → T (all (may_stand party) rs) → T (all fits64 rs) → length (lines_as Full rs) ≤ 116 * length rs
lines-most party [] m h = omega arith
lines-most party (r ∷ rs) m h =
    let a = and_yes (may_stand party r) (all (may_stand party) rs) m in
    let b = and_yes (fits64 r) (all fits64 rs) h in
    omega (arith, length-append (line_as Full r) (lines_as Full rs), line-most party r a.0 b.0, lines-most party rs a.1 b.1)

-- full lines tell all of every record
pub all_told : (rs : List Record) → T (all (tells Full) rs)
all_told [] = tt
all_told (r ∷ rs) = all_told rs

pub sheet-most : AtMost
sheet-most party places j within s =
    let few : length (standing j) ≤ limit = omega (arith, within, valid-few party places j s.valid) in
    omega (arith, few, sheet-length Full j, decimal-length 3 (length (standing j)) (omega (arith, few)), lines-most party (standing j) (valid-stand party places j s.valid) s.held)

lines-copies : (n : ℕ) (r : Record) → length (lines_as Full (replicate n r)) ≡ n * length (line_as Full r)
lines-copies zero r = omega arith
lines-copies (suc n) r = length-append (line_as Full r) (lines_as Full (replicate n r)) ∙ omega (arith, lines-copies n r)

all-copies : (test : Record → Bool) (n : ℕ) (r : Record) → T (test r) → T (all test (replicate n r))
all-copies test zero r t = tt
all-copies test (suc n) r t = yes_and (test r) (all test (replicate n r)) t (all-copies test n r t)

-- the longest sheet's texts: its count and bundle number have 4 digits, its forms' names 3 characters, its values and halves 20 digits
short-texts : (length (decimal limit) ≡ 4) × (length (decimal highest) ≡ 4) × (length (decimal 0) ≡ 1) × (length (name_of (m 22)) ≡ 3) × (length (decimal 1844) ≡ 4)
unfolding name_of decimal digits
short-texts = (refl, refl, refl, refl, refl)

long-text : (n : ℕ) → n / 10000 / 10000 / 10000 / 10000 ≡ 1844 → length (decimal n) ≡ 20
long-text n e =
    omega (arith, length-four n (omega arith), length-four (n / 10000) (omega arith), length-four (n / 10000 / 10000) (omega arith), length-four (n / 10000 / 10000 / 10000) (omega arith), ap (λ (k : ℕ). length (decimal k)) e, short-texts.4)

longest-line : length (line_as Full longest_record) ≡ 116
longest-line =
    omega (arith, line-length longest_record, short-texts.1, short-texts.2, short-texts.3, long-text (2 ^ 64 - 16) refl, long-text (2 ^ 64 - 32) refl, long-text (2 ^ 64 - 1) refl)

-- the longest record passes: its edit is made
longest-passes : passes longest_record ≡ true
unfolding passes changed_of row_of lines units_of number put gather scatter
longest-passes = refl

longest-stands : T (may_stand 0 longest_record)
longest-stands = yes_and (leb highest highest) (passes longest_record && true) tt (yes_and (passes longest_record) true (subst T (sym longest-passes) tt) tt)

-- and so many it can be
pub longest-has : LongestHas
longest-has =
    let stand = journal-stands limit (replicate limit longest_record) in
    let all_so : (test : Record → Bool) → T (test longest_record) → T (all test (standing longest)) =
    λ test t. subst (λ (rs : List Record). T (all test rs)) (sym stand) (all-copies test limit longest_record t) in
    let may = is_true (all (may_stand 0) (replicate limit longest_record)) (all-copies (may_stand 0) limit longest_record longest-stands) in
    let few : leb (length (replicate limit longest_record)) limit ≡ true = le-leb (length (replicate limit longest_record)) limit (omega (arith, length-replicate limit longest_record)) in (
      record {
        valid = journal-valid 0 limit (replicate limit longest_record) ∙ rw (few, may);
        held = all_so fits64 tt;
        told = all_so (tells Full) tt;
      },
      sheet-length Full longest
          ∙ ap (λ (rs : List Record). length (decimal (length rs)) + 9 + length (lines_as Full rs)) stand
          ∙ omega (arith, ap (λ (n : ℕ). length (decimal n)) (length-replicate limit longest_record), short-texts.0, lines-copies limit longest_record, longest-line),
    )
