-- Reading is the inverse of writing: the text of a redo file reads back as what was written, and what reads is the text of what it gives.
-- Each part stands where the one before it ends. Assumes nothing.
use mathlib.Core.Path.{◌≡◌, refl, sym, ap, ◌∙◌, subst}
use mathlib.Core.Bool.{Bool, true, false, decide_iff}
use mathlib.Core.List.{List, [], ◌∷◌, ◌++◌, append-nil, List-discrete}
use Rattle.std.specs.Prelude.{Option, Some, None}
use Prim.Native.Nat.{ℕ, ◌+◌, ◌-◌, ◌≤◌}
use native.Mathlib.Decide.{ℕ_discrete}
use native.Mathlib.Omega.{arith}
use lib.ListN.{length, get_or, take, drop, replicate, length-drop, take-append-drop}
use lib.Seq.{sets, drop-drop, drop-length, length-take-le, take-append_seam}
use Rattle.bundle.proofs.Elements.{listed}
use Rattle.text.specs.Ascii.{same_text, starts_with}
use Rattle.text.specs.Fields.{fields, Words, fields_of}
use Rattle.text.proofs.Numbers.{taken, no_number}
use Rattle.text.proofs.RoundTrip.{starts, starts_is, fields_back}
use Rattle.text.proofs.Stands.{Stands, whole-stands, stands-then, stands_parts}
use Rattle.text.proofs.Stored.{all_read}
use Rattle.redo.specs.Read.{after_lines, changes_at, parts_from, parts_after, parts_by, look_of, between, held_by, redo_in}
use Rattle.redo.specs.Redo.{Redo, head_ends, start, end_line, lines_of, redo_of}
use Rattle.redo.specs.RoundTrip.{RedoFits, ReadsWritten, ReadsOnlyWritten, PartsLie}
use Rattle.redo.specs.declared.reader.Parts.{Parts}
use Rattle.redo.proofs.Lines.{lines-back, lines-read}
use Rattle.redo.proofs.Reading.{last-is, last_within}

-- what stands between two places
between_is : {text : List ℕ} {at : ℕ} {piece : List ℕ} {next : ℕ} → Stands text at piece next → between text at next ≡ piece
between_is {text} {at} {piece} {next} s =
    let n : next - at ≡ length piece = omega (arith, s.place) in
    rw (n, s.found) (take-append_seam piece (drop next text))

-- a text as written, by where its parts stand
module _ (r : Redo) (fits : RedoFits r) where
  abbrev numbers : List ℕ
  numbers = length r.changes ∷ r.window ∷ length r.sheet ∷ length r.layout ∷ []

  record Written : Type 0 where
    lines : ℕ
    sheet : ℕ
    head : Stands (redo_of r) 5 (fields numbers head_ends) lines
    changes : Stands (redo_of r) lines (lines_of r.changes) sheet
    sheets : Stands (redo_of r) sheet r.sheet (sheet + length r.sheet)
    layouts : Stands (redo_of r) (sheet + length r.sheet) r.layout (sheet + length r.sheet + length r.layout)
    end : drop (sheet + length r.sheet + length r.layout) (redo_of r) ≡ end_line

  written : Written
  unfolding redo_of
  written =
      let s = whole-stands (redo_of r) in
      let p = stands_parts start {b = fields numbers head_ends ++ (lines_of r.changes ++ (r.sheet ++ (r.layout ++ end_line)))} s in
      let h = stands_parts (fields numbers head_ends) p.1 in
      let c = stands_parts (lines_of r.changes) h.1 in
      let t = stands_parts r.sheet c.1 in
      let l = stands_parts r.layout t.1 in
      record { lines = _; sheet = _; head = h.0; changes = c.0; sheets = t.0; layouts = l.0; end = l.1.found ∙ ap (λ (l : List ℕ). end_line ++ l) (drop-length (redo_of r)) }

  starts-so : starts_with start (redo_of r) ≡ true
  unfolding redo_of
  starts-so = starts start (fields numbers head_ends ++ (lines_of r.changes ++ (r.sheet ++ (r.layout ++ end_line))))

  head_read : (w : Written) → fields_of (redo_of r) 5 head_ends ≡ Some (sets (replicate 8 0) 0 numbers, w.lines)
  unfolding fields_of
  head_read w = rw (fields_back (redo_of r) head_ends numbers 5 w.lines (refl, (refl, (refl, (refl, tt)))) (record { count = refl; words = fits.head; piece = w.head }))

  look-written : (w : Written) → look_of (redo_of r)
      ≡ Some (record { window = r.window; count = length r.changes; lines = w.lines; sheet = w.sheet; layout = w.sheet + length r.sheet; end = w.sheet + length r.sheet + length r.layout })
  unfolding look_of
  look-written w =
      let last : same_text (drop (w.sheet + length r.sheet + length r.layout) (redo_of r)) end_line ≡ true = (decide_iff (List-discrete ℕ_discrete _ end_line)).1 w.end in
      rw (starts-so, head_read w, (lines-back (redo_of r) r.changes w.lines w.sheet fits.each w.changes).0, last)

  read_back : (w : Written) → redo_in (redo_of r) ≡ Some r
  unfolding redo_in
  read_back w =
      rw (look-written w, (lines-back (redo_of r) r.changes w.lines w.sheet fits.each w.changes).1, between_is w.sheets, between_is w.layouts)

pub reads-written : ReadsWritten
reads-written r fits = read_back r fits (written r fits)

-- what looking found, by its tests: the first line's numbers, the place after the changes, the last line
record Looked (text : List ℕ) (p : Parts) : Type 0 where
  of : List ℕ
  lines : ℕ
  sheet : ℕ
  starts : starts_with start text ≡ true
  read : Some (of, lines) ≡ fields_of text 5 head_ends
  after : after_lines text lines (get_or of 0 0) ≡ Some sheet
  last : same_text (drop (parts_from of lines sheet).end text) end_line ≡ true
  is : Some (parts_from of lines sheet) ≡ Some p

looked : (text : List ℕ) (p : Parts) → look_of text ≡ Some p → Looked text p
unfolding look_of
looked text p e = by-start (starts_with start text) refl
  where
    by_after : starts_with start text ≡ true → (of : List ℕ) (lines : ℕ) → Some (of, lines) ≡ fields_of text 5 head_ends → (m : Option ℕ) → after_lines text lines (get_or of 0 0) ≡ m → parts_after text of lines m ≡ Some p → Looked text p
    by_after s of lines r None a f = absurd (no_number f)
    by_after s of lines r (Some sheet) a f =
        let t = taken (same_text (drop (parts_from of lines sheet).end text) end_line) f no_number in
        record { of = of; lines = lines; sheet = sheet; starts = s; read = r; after = a; last = t.0; is = t.1 }

    by_read : starts_with start text ≡ true → (o : Option (List ℕ × ℕ)) → o ≡ fields_of text 5 head_ends → parts_by text o ≡ Some p → Looked text p
    by_read s None r f = absurd (no_number f)
    by_read s (Some h) r f = by_after s h.0 h.1 r (after_lines text h.1 (get_or h.0 0 0)) refl f

    by-start : (t : Bool) → starts_with start text ≡ t → Looked text p
    by-start false s = absurd (no_number (rw s at e))
    by-start true s = by_read s (fields_of text 5 head_ends) refl (rw s at e)

-- a part of so many bytes stands at its place
abbrev PartStands : List ℕ → ℕ → ℕ → Type 0
PartStands text at n = Stands text at (take n (drop at text)) (at + n) × (length (take n (drop at text)) ≡ n)

part-stands : (text : List ℕ) (at n : ℕ) → at + n ≤ length text → PartStands text at n
part-stands text at n h =
    let long = length-take-le n (drop at text) (omega (arith, length-drop at text)) in
    (record { found = sym (take-append-drop n (drop at text)) ∙ ap (λ (l : List ℕ). take n (drop at text) ++ l) (drop-drop n at text); place = omega (arith, long) }, long)

-- the last line stands after them
pub parts-lie : PartsLie
parts-lie text p e =
    let l = looked text p e in
    let q : parts_from l.of l.lines l.sheet ≡ p = cc l.is in
    let end = last_within text (parts_from l.of l.lines l.sheet).end l.last in
    rw (← q) (omega arith, omega arith, omega arith)

-- what was found is byte for byte the text of what it holds
module _ (text : List ℕ) (p : Parts) (l : Looked text p) where
  abbrev sheet₁ : ℕ
  sheet₁ = get_or l.of 2 0

  abbrev layout₁ : ℕ
  layout₁ = get_or l.of 3 0

  -- what it holds, by the places
  abbrev holds : Redo
  holds =
      record {
        window = get_or l.of 1 0;
        changes = changes_at text l.lines (get_or l.of 0 0);
        sheet = take sheet₁ (drop l.sheet text);
        layout = take layout₁ (drop (l.sheet + sheet₁) text);
      }

  ends : l.sheet + sheet₁ + layout₁ + 4 ≡ length text
  ends = last_within text (l.sheet + sheet₁ + layout₁) l.last

  sheet-stands : PartStands text l.sheet sheet₁
  sheet-stands = part-stands text l.sheet sheet₁ (omega (arith, ends))

  layout-stands : PartStands text (l.sheet + sheet₁) layout₁
  layout-stands = part-stands text (l.sheet + sheet₁) layout₁ (omega (arith, ends))

  held : held_by text (Some p) ≡ Some holds
  held =
      let q : parts_from l.of l.lines l.sheet ≡ p = cc l.is in
      rw (← q, between_is sheet-stands.0, between_is layout-stands.0)

  is-written : RedoFits holds × (text ≡ redo_of holds)
  unfolding redo_of
  is-written =
      let a = all_read text 5 head_ends l.of l.lines (omega arith) l.read in
      let s = a.stand in
      let n = a.looked in
      let c = lines-read text (get_or l.of 0 0) l.lines l.sheet l.after in
      let count = sym (n 0) ∙ sym c.long in
      let long = sym (n 2) ∙ sym sheet-stands.1 in
      let longer = sym (n 3) ∙ sym layout-stands.1 in
      let same : a.numbers ≡ length holds.changes ∷ holds.window ∷ length holds.sheet ∷ length holds.layout ∷ [] =
      listed a.numbers 0 4 s.count ∙ (λ i. count i ∷ sym (n 1) i ∷ long i ∷ longer i ∷ []) in
      let end : Stands text (l.sheet + sheet₁ + layout₁) end_line (length text) =
      record { found = last-is text (l.sheet + sheet₁ + layout₁) l.last ∙ sym (ap (λ (m : List ℕ). end_line ++ m) (drop-length text)); place = sym ends } in
      let all = stands-then s.piece (stands-then c.stands (stands-then sheet-stands.0 (stands-then layout-stands.0 end))) in (
        record { head = subst Words same s.words; each = c.words },
        starts_is start text l.starts
            ∙ ap (λ (m : List ℕ). start ++ m) (all.found ∙ ap (λ (m : List ℕ). (fields a.numbers head_ends ++ (lines_of holds.changes ++ (holds.sheet ++ (holds.layout ++ end_line)))) ++ m) (drop-length text) ∙ append-nil _)
            ∙ ap (λ (ns : List ℕ). start ++ (fields ns head_ends ++ (lines_of holds.changes ++ (holds.sheet ++ (holds.layout ++ end_line))))) same,
      )

pub reads-only-written : ReadsOnlyWritten
unfolding redo_in
reads-only-written text r e = go (look_of text) refl
  where
    go : (m : Option Parts) → look_of text ≡ m → RedoFits r × (text ≡ redo_of r)
    go None l = absurd (no_number (rw l at e))
    go (Some p) l =
        let k = looked text p l in
        let w : Some (holds text p k) ≡ Some r = sym (held text p k) ∙ rw l at e in
        let v : holds text p k ≡ r = cc in
        rw (← v) (is-written text p k)
