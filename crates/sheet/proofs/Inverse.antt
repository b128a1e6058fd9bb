-- Loading is the inverse of writing: a journal's sheet loads as that journal, and what loads is the sheet of the journal that it gives.
-- Both by induction on the lines, of which each is read where it stands. Assumes nothing.
use mathlib.Core.Path.{◌≡◌, refl, sym, ap, ◌∙◌, subst}
use mathlib.Core.Bool.{Bool, true, false, decide_iff}
use mathlib.Core.List.{List, [], ◌∷◌, ◌++◌, append-nil, List-discrete}
use mathlib.Core.Option.{none, some, none-ne-some}
use mathlib.Core.Option as maybe
use Rattle.std.specs.Prelude.{Option, Some, None}
use Prim.Native.Nat.{ℕ, zero, suc, ◌+◌, ◌≤◌, ◌<◌, ◌^◌}
use native.Mathlib.Omega.{arith}
use native.Mathlib.Decide.{dec_lt, ℕ_discrete}
use lib.Dec.{T}
use lib.Ieee.Bits.{is_true}
use lib.ListN.{length, drop}
use lib.Seq.{drop-length}
use mir.Facts.{and_yes, yes_and}
use borrow.Author.Tests.{eq-eqb, le-leb, lt-leb}
use Rattle.answer.specs.Answer.{accepted, full, bad_sheet}
use Rattle.records.specs.Journal.{Journal, all, standing, journal_of, valid_of}
use Rattle.records.proofs.Standing.{journal-stands, journal-valid, valid-is-journal, valid-few, valid-stand}
use Rattle.record.specs.Record.{may_stand, fits64}
use Rattle.record.specs.declared.Record.{Record}
use Rattle.table.specs.Ascii.{ascii}
use Rattle.text.specs.Ascii.{newline, starts_with}
use Rattle.text.specs.Decimal.{decimal}
use Rattle.text.proofs.Numbers.{no_number, some-parts}
use Rattle.text.proofs.RoundTrip.{starts_is, field-read, field_back}
use Rattle.text.proofs.Stands.{Stands, whole-stands, stands-then, stands_parts}
use Rattle.sheet.specs.RoundTrip.{HasSheet, LoadsWritten, LoadsOnlyWritten, RefusesOther, RefusesMore, RefusesFull, RefusesInvalid}
use Rattle.sheet.specs.Load.{records_at, head_of, records_as, or_else, records_in, loaded_with, load_of}
use Rattle.sheet.specs.Sheet.{line_as, tells, lines_as, header_of, sheet_as}
use Rattle.sheet.specs.declared.line.Kind.{Kind}
use Rattle.sheet.specs.declared.line.Kind.TheVariants.{Full, Old}
use Rattle.sheet.proofs.Lines.{line-back, line_read}
use Rattle.sheet.proofs.OneKind.{one-kind}
use Rattle.sheet.proofs.Reading.{records-end, more}

-- the lines of some records are read as those records
records-back : (party : ℕ) (kind : Kind) (text : List ℕ) (rs : List Record) (at : ℕ) → T (all (may_stand party) rs) → T (all fits64 rs) → T (all (tells kind) rs) → Stands text at (lines_as kind rs) (length text) → records_at party kind text at (length rs) ≡ some rs
unfolding records_at
records-back party kind text [] at m h t s = rw (eq-eqb at (length text) (omega (arith, s.place)))
records-back party kind text (r ∷ rs) at m h t s =
    let a = and_yes (may_stand party r) (all (may_stand party) rs) m in
    let b = and_yes (fits64 r) (all fits64 rs) h in
    let c = and_yes (tells kind r) (all (tells kind) rs) t in
    let p = stands_parts (line_as kind r) s in
    rw (line-back party text at r _ kind a.0 b.0 c.0 p.0, records-back party kind text rs (at + length (line_as kind r)) a.1 b.1 c.1 p.1)

-- the count in the first line, with its end
abbrev counted : ℕ → List ℕ
counted count = decimal count ++ (newline ∷ [])

-- a text that begins with the first line and goes on with the lines
record Begun (text : List ℕ) (count : ℕ) (rest : List ℕ) : Type 0 where
  at : ℕ
  head : head_of text ≡ Some (count, at)
  lines : Stands text at rest (length text)

begun : (text : List ℕ) (count : ℕ) (rest : List ℕ) → count < 2 ^ 64 → text ≡ header_of count ++ rest → Begun text count rest
unfolding head_of
begun text count rest few e =
    let s : Stands text 0 (header_of count ++ rest) (length text) = subst (λ (l : List ℕ). Stands text 0 l (length text)) e (whole-stands text) in
    let p = stands_parts (ascii "patches\t") {b = counted count ++ rest} s in
    let q = stands_parts (counted count) p.1 in
    let starts : starts_with (ascii "patches\t") text ≡ true = ap (starts_with (ascii "patches\t")) e ∙ (decide_iff (List-discrete ℕ_discrete (ascii "patches\t") (ascii "patches\t"))).1 refl in
    record { at = 8 + length (counted count); head = rw starts (field_back text 8 10 count _ refl few q.0); lines = q.1 }

-- what was read from a place on
record RecordsRead (party : ℕ) (kind : Kind) (text : List ℕ) (at left : ℕ) (rs : List Record) : Type 0 where
  long : length rs ≡ left
  stand : T (all (may_stand party) rs)
  held : T (all fits64 rs)
  told : T (all (tells kind) rs)
  lines : Stands text at (lines_as kind rs) (length text)

records-read : (party : ℕ) (kind : Kind) (text : List ℕ) (left at : ℕ) (rs : List Record) → records_at party kind text at left ≡ some rs → RecordsRead party kind text at left rs
records-read party kind text zero at rs f =
    let e = records-end party kind text at rs f in
    rw (← e.0) (record { long = refl; stand = tt; held = tt; told = tt; lines = record { found = ap (λ (k : ℕ). drop k text) e.1; place = omega arith } })
records-read party kind text (suc left) at rs f =
    let m = more party kind text at left rs f in
    let on = records-read party kind text left m.next m.others m.others-are in
    let read = line_read party text at m.one m.next kind m.line-is in
    rw (← m.is)
    (record {
      long = ap suc on.long;
      stand = yes_and (may_stand party m.one) (all (may_stand party) m.others) read.0 on.stand;
      held = yes_and (fits64 m.one) (all fits64 m.others) read.1.held on.held;
      told = yes_and (tells kind m.one) (all (tells kind) m.others) read.1.told on.told;
      lines = stands-then read.1.stands on.lines;
    })

-- the first line that was read
record Headed (text : List ℕ) (count at : ℕ) : Type 0 where
  starts : text ≡ ascii "patches\t" ++ drop 8 text
  counts : Stands text 8 (counted count) at

headed : (text : List ℕ) (count at : ℕ) → head_of text ≡ Some (count, at) → Headed text count at
unfolding head_of
headed text count at e = go (starts_with (ascii "patches\t") text) refl
  where
    go : (t : Bool) → starts_with (ascii "patches\t") text ≡ t → Headed text count at
    go false s = absurd (no_number (rw s at e))
    go true s = record { starts = starts_is (ascii "patches\t") text s; counts = (field-read text 8 10 count at (rw s at e)).piece }

-- sheets of at most so many records, and a party's
module _ (most party : ℕ) where
  sheet-back : (places : ℕ) (kind : Kind) (j : Journal) → most < 2 ^ 64 → places ≤ most → HasSheet party places kind j → records_as most party kind (sheet_as kind j) ≡ some (standing j)
  unfolding records_as sheet_as
  sheet-back places kind j short within s =
      let rs = standing j in
      let few = valid-few party places j s.valid in
      let b = begun (sheet_as kind j) (length rs) (lines_as kind rs) (omega arith) refl in
      rw (b.head, le-leb (length rs) most (omega arith), records-back party kind (sheet_as kind j) rs b.at (valid-stand party places j s.valid) s.held s.told b.lines)

  -- the sheet of more records is none
  sheet-more : (kind other : Kind) (j : Journal) → most < length (standing j) → length (standing j) < 2 ^ 64 → records_as most party other (sheet_as kind j) ≡ none
  unfolding records_as sheet_as
  sheet-more kind other j more short =
      let b = begun (sheet_as kind j) (length (standing j)) (lines_as kind (standing j)) short refl in
      rw (b.head, lt-leb (length (standing j)) most more)

  -- a text that was read is the sheet of the journal of what was read
  abbrev IsSheet : ℕ → Kind → List ℕ → Journal → Type 0
  IsSheet places kind text j = HasSheet party places kind j × (text ≡ sheet_as kind j)

  -- what reading in lines of a kind came to
  record Gave (kind : Kind) (text : List ℕ) (rs : List Record) : Type 0 where
    count : ℕ
    at : ℕ
    few : count ≤ most
    head : head_of text ≡ Some (count, at)
    lines : records_at party kind text at count ≡ some rs

  gave : (kind : Kind) (text : List ℕ) (rs : List Record) → records_as most party kind text ≡ some rs → Gave kind text rs
  unfolding records_as
  gave kind text rs = go (head_of text) refl
    where
      go : (m : Option (ℕ × ℕ)) → head_of text ≡ m → records_as most party kind text ≡ some rs → Gave kind text rs
      go None e f = absurd (none-ne-some rs (rw e at f))
      go (Some (count, at)) e f =
          elim (dec_lt most count) [
            | yes h ↦ absurd (none-ne-some rs (rw (e, lt-leb count most h) at f))
            | no h ↦
                let few : count ≤ most = omega arith in
                record { count = count; at = at; few = few; head = e; lines = rw (e, le-leb count most few) at f }
          ]

  -- the records that were read
  gave_read : {kind : Kind} {text : List ℕ} {rs : List Record} → (g : Gave kind text rs) → RecordsRead party kind text g.at g.count rs
  gave_read {kind} {text} {rs} g = records-read party kind text g.count g.at rs g.lines

  records-sheet : (places : ℕ) (kind : Kind) (text : List ℕ) (rs : List Record) → length rs ≤ places → records_as most party kind text ≡ some rs → IsSheet places kind text (journal_of places rs)
  unfolding sheet_as
  records-sheet places kind text rs few f =
      let g = gave kind text rs f in
      let h = headed text g.count g.at g.head in
      let r = gave_read g in
      let stand = journal-stands places rs in
      let lines : drop g.at text ≡ lines_as kind rs = r.lines.found ∙ ap (λ (l : List ℕ). lines_as kind rs ++ l) (drop-length text) ∙ append-nil (lines_as kind rs) in (
        record {
          valid = journal-valid party places rs ∙ rw (le-leb (length rs) places few, is_true (all (may_stand party) rs) r.stand);
          held = rw stand r.held;
          told = rw stand r.told;
        },
        h.starts
            ∙ ap (λ (l : List ℕ). ascii "patches\t" ++ l) (h.counts.found ∙ ap (λ (l : List ℕ). counted g.count ++ l) lines)
            ∙ ap (λ (n : ℕ). header_of n ++ lines_as kind rs) (sym r.long)
            ∙ ap (λ (qs : List Record). header_of (length qs) ++ lines_as kind qs) (sym stand),
      )

  -- what a sheet gives, by its kind
  both : (text : List ℕ) (rs qs : List Record) → records_as most party Full text ≡ some rs → records_as most party Old text ≡ some qs → rs ≡ qs
  both text rs qs f g =
      let a = gave Full text rs f in
      let b = gave Old text qs g in
      let e : ◌≡◌ {A = Option (ℕ × ℕ)} (Some (b.count, b.at)) (Some (a.count, a.at)) = sym b.head ∙ a.head in
      let n = (some-parts e).0 in
      let p = (some-parts e).1 in
      one-kind party text a.at a.count rs qs a.lines (rw (n, p) at b.lines)

  given-as : (kind : Kind) (text : List ℕ) (rs : List Record) → records_as most party kind text ≡ some rs → records_in most party text ≡ some rs
  given-as Full text rs e = rw e
  given-as Old text rs e = go (records_as most party Full text) refl
    where
      go : (o : maybe.Option (List Record)) → records_as most party Full text ≡ o → or_else o (records_as most party Old text) ≡ some rs
      go none q = e
      go (some qs) q = ap some (both text qs rs q e)

  of-kind : (text : List ℕ) (rs : List Record) → records_in most party text ≡ some rs → (kind : Kind) × (records_as most party kind text ≡ some rs)
  of-kind text rs = go (records_as most party Full text) refl
    where
      go : (o : maybe.Option (List Record)) → records_as most party Full text ≡ o → or_else o (records_as most party Old text) ≡ some rs → (kind : Kind) × (records_as most party kind text ≡ some rs)
      go none q e = (Old, e)
      go (some qs) q e = (Full, q ∙ e)

-- loading over a valid journal of so many places
module _ (most party places : ℕ) (given : Journal) (text : List ℕ) where
  pub loads-valid : valid_of party places given ≡ true → load_of most party places given text ≡ loaded_with places given (records_in most party text)
  unfolding load_of
  loads-valid v = rw v

  -- records that there are places for, or not
  pub answer-few : (rs : List Record) → length rs ≤ places → loaded_with places given (some rs) ≡ record { answer = accepted; journal = journal_of places rs }
  answer-few rs few = rw (le-leb (length rs) places few)

  pub answer-many : (rs : List Record) → places < length rs → loaded_with places given (some rs) ≡ record { answer = full; journal = given }
  answer-many rs many = rw (lt-leb (length rs) places many)

pub load-written : LoadsWritten
load-written most party places kind given j short within valid s =
    loads-valid most party places given (sheet_as kind j) valid
    ∙ ap (loaded_with places given) (given-as most party kind (sheet_as kind j) (standing j) (sheet-back most party places kind j short within s))
    ∙ answer-few most party places given (sheet_as kind j) (standing j) (valid-few party places j s.valid)
    ∙ ap (λ (i : Journal). record { answer = accepted; journal = i }) (valid-is-journal party places j s.valid)

pub refuses-invalid : RefusesInvalid
unfolding load_of
refuses-invalid most party places given text v = rw v

-- loading that is accepted: over a valid journal, of records that there are places for
pub record Taken (most party places : ℕ) (given : Journal) (text : List ℕ) : Type 0 where
  pub records : List Record
  pub valid : valid_of party places given ≡ true
  pub gives : records_in most party text ≡ some records
  pub few : length records ≤ places
  pub is : load_of most party places given text ≡ record { answer = accepted; journal = journal_of places records }

pub load-taken : (most party places : ℕ) (given : Journal) (text : List ℕ) → (load_of most party places given text).answer ≡ accepted → Taken most party places given text
unfolding load_of
load-taken most party places given text = by (valid_of party places given) refl (records_in most party text) refl
  where
    by : (v : Bool) → valid_of party places given ≡ v → (o : maybe.Option (List Record)) → records_in most party text ≡ o → (load_of most party places given text).answer ≡ accepted → Taken most party places given text
    by false v o q a = absurd (omega (arith, rw v at a))
    by true v none q a = absurd (omega (arith, rw (v, q) at a))
    by true v (some rs) q a =
        elim (dec_lt places (length rs)) [
          | yes h ↦ absurd (omega (arith, rw (v, q, lt-leb (length rs) places h) at a))
          | no h ↦
              let few : length rs ≤ places = omega arith in
              record { records = rs; valid = v; gives = q; few = few; is = rw (v, q, le-leb (length rs) places few) }
        ]

pub load-only-written : LoadsOnlyWritten
load-only-written most party places given text e =
    let t = load-taken most party places given text e in
    let k = of-kind most party text t.records t.gives in
    let s = records-sheet most party places k.0 text t.records t.few k.1 in
    rw t.is (k.0, s.0, s.1)

pub refuses-other : RefusesOther
refuses-other most party places given text valid none_is = loads-valid most party places given text valid ∙ go (records_in most party text) refl
  where
    go : (o : maybe.Option (List Record)) → records_in most party text ≡ o → loaded_with places given o ≡ record { answer = bad_sheet; journal = given }
    go none q = refl
    go (some rs) q =
        let k = of-kind most party text rs q in
        let g = gave most party k.0 text rs k.1 in
        let s = records-sheet most party most k.0 text rs (omega (arith, (gave_read most party g).long, g.few)) k.1 in
        absurd (none_is k.0 (journal_of most rs) s.0 s.1)

pub refuses-more : RefusesMore
refuses-more most party places kind given j valid more short =
    let none_is : records_in most party (sheet_as kind j) ≡ none = rw (sheet-more most party kind Full j more short) (sheet-more most party kind Old j more short) in
    loads-valid most party places given (sheet_as kind j) valid ∙ ap (loaded_with places given) none_is

pub refuses-full : RefusesFull
refuses-full most party places kind given j short valid s many =
    loads-valid most party places given (sheet_as kind j) valid
    ∙ ap (loaded_with places given) (given-as most party kind (sheet_as kind j) (standing j) (sheet-back most party most kind j short (omega arith) s))
    ∙ answer-many most party places given (sheet_as kind j) (standing j) many
