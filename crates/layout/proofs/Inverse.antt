-- Reading is the inverse of writing: the text of a layout reads back as what was written, and what reads is the text of what it gives.
-- The lines stand where the first line ends. Assumes nothing.
use mathlib.Core.Path.{◌≡◌, refl, sym, ap, ◌∙◌, subst}
use mathlib.Core.Bool.{Bool, true, false}
use mathlib.Core.List.{List, [], ◌∷◌, ◌++◌, append-nil}
use mathlib.Core.Option.{some, none-ne-some, some-injective}
use Prim.Native.Nat.{ℕ}
use native.Mathlib.Omega.{arith}
use lib.ListN.{length, get_or, replicate}
use lib.Seq.{sets, drop-length}
use Rattle.bundle.proofs.Elements.{listed}
use Rattle.text.specs.Ascii.{starts_with}
use Rattle.text.specs.Fields.{fields, Words, fields_of}
use Rattle.std.specs.Prelude.{Option, Some, None}
use Rattle.text.proofs.Numbers.{no_number}
use Rattle.text.proofs.RoundTrip.{starts, starts_is, fields_back}
use Rattle.text.proofs.Stands.{Stands, whole-stands, stands-then, stands_parts}
use Rattle.text.proofs.Stored.{all_read}
use Rattle.layout.specs.Layout.{Layout, start, head_ends, numbers_of, lines_of, layout_of}
use Rattle.layout.specs.Read.{ends_after, windows_at, reading_of, look_of, layout_in}
use Rattle.layout.specs.RoundTrip.{LayoutFits, ReadsWritten, ReadsOnlyWritten}
use Rattle.layout.specs.declared.reader.Found.{Found}
use Rattle.layout.proofs.Lines.{lines-back, lines-read}

-- a text as written
module _ (l : Layout) (fits : LayoutFits l) where
  abbrev numbers : List ℕ
  numbers = numbers_of l.reading (length l.windows)

  record Written : Type 0 where
    first : ℕ
    head : Stands (layout_of l) 7 (fields numbers head_ends) first
    lines : Stands (layout_of l) first (lines_of l.windows) (length (layout_of l))

  written : Written
  unfolding layout_of
  written =
      let p = stands_parts start {b = fields numbers head_ends ++ lines_of l.windows} (whole-stands (layout_of l)) in
      let h = stands_parts (fields numbers head_ends) p.1 in
      record { first = _; head = h.0; lines = h.1 }

  starts-so : starts_with start (layout_of l) ≡ true
  unfolding layout_of
  starts-so = starts start (fields numbers head_ends ++ lines_of l.windows)

  head_read : (w : Written) → fields_of (layout_of l) 7 head_ends ≡ Some (sets (replicate 8 0) 0 numbers, w.first)
  unfolding fields_of
  head_read w =
      rw (fields_back (layout_of l) head_ends numbers 7 w.first (refl, (refl, (refl, (refl, (refl, tt))))) (record { count = refl; words = fits.head; piece = w.head }))

  read_back : (w : Written) → layout_in (layout_of l) ≡ some l
  unfolding layout_in look_of
  read_back w =
      let b = lines-back (layout_of l) l.windows w.first fits.windows w.lines in
      rw (starts-so, head_read w, b.0, b.1)

pub reads-written : ReadsWritten
reads-written l fits = read_back l fits (written l fits)

-- what looking found, by its tests
record Looked (text : List ℕ) : Type 0 where
  of : List ℕ
  next : ℕ
  starts : starts_with start text ≡ true
  read : fields_of text 7 head_ends ≡ Some (of, next)
  ends : ends_after text next (get_or of 4 0) ≡ true

looked : (text : List ℕ) (found : Found) → look_of text ≡ Some found → Looked text
unfolding look_of
looked text found e = by-start (starts_with start text) refl
  where
    by-ends : (of : List ℕ) (next : ℕ) → starts_with start text ≡ true → fields_of text 7 head_ends ≡ Some (of, next) → (t : Bool) → ends_after text next (get_or of 4 0) ≡ t → Looked text
    by-ends of next s r false n = absurd (no_number (rw (s, r, n) at e))
    by-ends of next s r true n = record { of = of; next = next; starts = s; read = r; ends = n }

    by_read : starts_with start text ≡ true → (m : Option (List ℕ × ℕ)) → fields_of text 7 head_ends ≡ m → Looked text
    by_read s None r = absurd (no_number (rw (s, r) at e))
    by_read s (Some (of, next)) r = by-ends of next s r (ends_after text next (get_or of 4 0)) refl

    by-start : (t : Bool) → starts_with start text ≡ t → Looked text
    by-start false s = absurd (no_number (rw s at e))
    by-start true s = by_read s (fields_of text 7 head_ends) refl

-- what was found is byte for byte the text of what it holds
module _ (text : List ℕ) (l : Looked text) where
  abbrev holds : Layout
  holds = record { reading = reading_of l.of; windows = windows_at text l.next (get_or l.of 4 0) }

  held : layout_in text ≡ some holds
  unfolding layout_in look_of
  held = rw (l.starts, l.read, l.ends)

  is-written : LayoutFits holds × (text ≡ layout_of holds)
  unfolding layout_of
  is-written =
      let a = all_read text 7 head_ends l.of l.next (omega arith) (sym l.read) in
      let s = a.stand in
      let n = a.looked in
      let c = lines-read text (get_or l.of 4 0) l.next l.ends in
      let count = sym (n 4) ∙ sym c.long in
      let same : a.numbers ≡ numbers_of holds.reading (length holds.windows) = listed a.numbers 0 5 s.count ∙ (λ i. sym (n 0) i ∷ sym (n 1) i ∷ sym (n 2) i ∷ sym (n 3) i ∷ count i ∷ []) in
      let all = stands-then s.piece c.stands in
      let lines = lines_of holds.windows in (
        record { head = subst Words same s.words; windows = c.words },
        starts_is start text l.starts
            ∙ ap (λ (m : List ℕ). start ++ m) (all.found ∙ ap (λ (m : List ℕ). (fields a.numbers head_ends ++ lines) ++ m) (drop-length text) ∙ append-nil _)
            ∙ ap (λ (ns : List ℕ). start ++ (fields ns head_ends ++ lines)) same,
      )

pub reads-only-written : ReadsOnlyWritten
unfolding layout_in
reads-only-written text l e = go (look_of text) refl
  where
    go : (m : Option Found) → look_of text ≡ m → LayoutFits l × (text ≡ layout_of l)
    go None q = absurd (none-ne-some l (rw q at e))
    go (Some found) q =
        let k = looked text found q in
        let v : holds text k ≡ l = some-injective (holds text k) l (sym (held text k) ∙ e) in
        rw (← v) (is-written text k)
