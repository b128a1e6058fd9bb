-- No line is of both kinds: after two numbers a full one goes on with a form, and an old one with a number. So a text that is a sheet of
-- both kinds has no lines. Assumes nothing.
use mathlib.Core.Path.{◌≡◌, refl, sym, ap, ◌∙◌}
use mathlib.Core.List.{List}
use mathlib.Core.Option.{none, some, some-injective, none-ne-some}
use mathlib.Core.Option as maybe
use Rattle.std.specs.Prelude.{Some, None}
use Prim.Native.Nat.{ℕ, zero, suc}
use Rattle.name.proofs.Names.{named-read, no_decimal}
use Rattle.record.specs.declared.Record.{Record}
use Rattle.table.specs.Ascii.{ascii}
use Rattle.text.specs.Ascii.{tab}
use Rattle.text.specs.Fields.{field_at, fields_at}
use Rattle.text.proofs.RoundTrip.{field-none, fields_split}
use Rattle.sheet.specs.declared.line.Kind.TheVariants.{Full, Old}
use Rattle.text.proofs.Numbers.{no_number}
use Rattle.sheet.specs.Load.{front_ends, ends, read_as, records_at}
use Rattle.sheet.proofs.Lines.{FullRead, full-read, line_taken}
use Rattle.sheet.proofs.Reading.{more}

-- the ends of an old line after the first two
abbrev more_ends : List ℕ
more_ends = ascii "\t\t\n"

module _ (text : List ℕ) (at : ℕ) where
  no-numbers : (middle : ℕ) → None ≡ field_at text middle tab → fields_at text middle more_ends ≡ none
  unfolding fields_at
  no-numbers middle e = rw (← e)

  not-both : (party : ℕ) {r : Record} {next : ℕ} → FullRead party text at r next → (o : maybe.Option (List ℕ × ℕ)) → fields_at text at ends ≡ o → {q : Record} {last : ℕ} → read_as party Old text at ≡ Some (q, last) → ⊥
  unfolding read_as
  not-both party f none e g = no_number (rw e at g)
  not-both party f (some p) e g =
      let s = fields_split text more_ends p.1 front_ends at p.0 e in
      let same : s.middle ≡ f.second = ap (λ (q : List ℕ × ℕ). q.1) (some-injective _ _ (sym s.first ∙ f.first)) in
      let n = named-read text f.second tab f.form f.third f.named in
      let no = no-numbers f.second (field-none text f.second tab (no_decimal text f.second n.name)) in
      none-ne-some (s.back, p.1) (sym no ∙ ap (λ (k : ℕ). fields_at text k more_ends) (sym same) ∙ s.rest)

-- so a text gives the same records by both kinds of line, where it gives some
pub one-kind : (party : ℕ) (text : List ℕ) (at left : ℕ) (rs qs : List Record) → records_at party Full text at left ≡ some rs → records_at party Old text at left ≡ some qs → rs ≡ qs
unfolding records_at
one-kind party text at zero rs qs f g = some-injective rs qs (sym f ∙ g)
one-kind party text at (suc left) rs qs f g =
    let m = more party Full text at left rs f in
    let n = more party Old text at left qs g in
    absurd (not-both text at party (full-read party text at _ _ (line_taken party text at _ _ Full m.line-is).1) (fields_at text at ends) refl (line_taken party text at _ _ Old n.line-is).1)
