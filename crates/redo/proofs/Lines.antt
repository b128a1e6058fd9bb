-- A change's line is read where it stands, and what is read stands there: what text's fields do, and so of lines one after the other.
-- Assumes nothing.
use mathlib.Core.Path.{◌≡◌, refl, sym, ap, ◌∙◌, subst}
use mathlib.Core.List.{List, [], ◌∷◌}
use Prim.Native.Nat.{ℕ, zero, suc, ◌+◌}
use native.Mathlib.Nat.{add-zero}
use native.Mathlib.Omega.{arith}
use lib.ListN.{length}
use Rattle.std.specs.Prelude.{Option, Some, None}
use Rattle.bundle.proofs.Elements.{listed}
use Rattle.text.specs.Fields.{fields, Words, fields_of}
use Rattle.text.proofs.Numbers.{no_number, some-parts}
use Rattle.text.proofs.RoundTrip.{fields_back}
use Rattle.text.proofs.Stands.{Stands, stands-then, stands_parts}
use Rattle.text.proofs.Stored.{all_read}
use Rattle.redo.specs.Read.{change_of, line_in, change_at, after_lines, changes_at}
use Rattle.redo.specs.Redo.{line_ends, numbers_of, line_of, lines_of}
use Rattle.redo.specs.RoundTrip.{WordsIn}
use Rattle.redo.specs.declared.Change.{Change}

-- a line that was read stands there
record LineRead (text : List ℕ) (at : ℕ) (c : Change) (next : ℕ) : Type 0 where
  words : Words (numbers_of c)
  stands : Stands text at (line_of c) next

module _ (text : List ℕ) where
  line-back : (at : ℕ) (c : Change) (next : ℕ) → Words (numbers_of c) → Stands text at (line_of c) next → change_at text at ≡ Some (c, next)
  unfolding change_at fields_of
  line-back at c next w s =
      rw (fields_back text line_ends (numbers_of c) at next (refl, (refl, (refl, (refl, (refl, tt))))) (record { count = refl; words = w; piece = s }))

  line_read : (at : ℕ) (c : Change) (next : ℕ) → change_at text at ≡ Some (c, next) → LineRead text at c next
  unfolding change_at
  line_read at c next = go (fields_of text at line_ends) refl
    where
      go : (o : Option (List ℕ × ℕ)) → fields_of text at line_ends ≡ o → line_in o ≡ Some (c, next) → LineRead text at c next
      go None t e = absurd (no_number e)
      go (Some f) t e =
          let q = some-parts e in
          let a = all_read text at line_ends f.0 f.1 (omega arith) (sym t) in
          let s = a.stand in
          let n = a.looked in
          let same : numbers_of (change_of f.0) ≡ a.numbers = (λ i. n 0 i ∷ n 1 i ∷ n 2 i ∷ n 3 i ∷ n 4 i ∷ []) ∙ sym (listed a.numbers 0 5 s.count) in
          rw (← q.0, ← q.1) (record { words = subst Words (sym same) s.words; stands = subst (λ (ms : List ℕ). Stands text at (fields ms line_ends) f.1) (sym same) s.piece })

  -- the lines of some changes are read as those changes
  pub lines-back : (cs : List Change) (at next : ℕ) → WordsIn cs → Stands text at (lines_of cs) next
      → (after_lines text at (length cs) ≡ Some next) × (changes_at text at (length cs) ≡ cs)
  unfolding after_lines changes_at
  lines-back [] at next w s = (ap Some (sym (s.place ∙ add-zero at)), refl)
  lines-back (c ∷ cs) at next w s =
      let p = stands_parts (line_of c) s in
      let e = line-back at c _ w.0 p.0 in
      let on = lines-back cs (at + length (line_of c)) next w.1 p.1 in
      (rw e on.0, rw (e, on.1))

-- lines that were read: the first of them
record First (text : List ℕ) (at left next : ℕ) : Type 0 where
  change : Change
  middle : ℕ
  line-is : change_at text at ≡ Some (change, middle)
  others : after_lines text middle left ≡ Some next

-- lines that were read stand there
pub record LinesRead (text : List ℕ) (at left next : ℕ) : Type 0 where
  pub long : length (changes_at text at left) ≡ left
  pub words : WordsIn (changes_at text at left)
  pub stands : Stands text at (lines_of (changes_at text at left)) next

module _ (text : List ℕ) where
  first : (at left next : ℕ) → after_lines text at (suc left) ≡ Some next → First text at left next
  unfolding after_lines
  first at left next = go (change_at text at) refl
    where
      go : (m : Option (Change × ℕ)) → change_at text at ≡ m → after_lines text at (suc left) ≡ Some next → First text at left next
      go None l e = absurd (no_number (rw l at e))
      go (Some r) l e = record { change = r.0; middle = r.1; line-is = l; others = rw l at e }

  pub lines-read : (left at next : ℕ) → after_lines text at left ≡ Some next → LinesRead text at left next
  unfolding after_lines changes_at
  lines-read zero at next e =
      let p : at ≡ next = cc in
      rw (← p) (record { long = refl; words = tt; stands = record { found = refl; place = sym (add-zero at) } })
  lines-read (suc left) at next e =
      let f = first at left next e in
      let r = line_read text at f.change f.middle f.line-is in
      let on = lines-read left f.middle next f.others in
      record { long = rw f.line-is (ap suc on.long); words = rw f.line-is (r.words, on.words); stands = rw f.line-is (stands-then r.stands on.stands) }
