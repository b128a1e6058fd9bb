-- Reading accepts exactly what is written, and gives what was written. Proved in `proofs/Inverse.antt`. Assumes nothing.
use Rattle.std.specs.Prelude.{ℕ, ◌≤◌, ◌≡◌, List, [], ◌∷◌, length, Some}
use Rattle.text.specs.Fields.{Words}
use Rattle.redo.specs.Read.{look_of, redo_in}
use Rattle.redo.specs.Redo.{Redo, numbers_of, redo_of}
use Rattle.redo.specs.declared.Change.{Change}
use Rattle.redo.specs.declared.reader.Parts.{Parts}

abbrev pub WordsIn : List Change → Type 0
WordsIn [] = Unit {0}
WordsIn (c ∷ cs) = Words (numbers_of c) × WordsIn cs

-- a redo file all of whose numbers have 64 bits
pub record RedoFits (r : Redo) : Type 0 where
  pub head : Words (length r.changes ∷ r.window ∷ length r.sheet ∷ length r.layout ∷ [])
  pub each : WordsIn r.changes

-- its text reads back as what was written
abbrev pub ReadsWritten : Type 0
ReadsWritten = (r : Redo) → RedoFits r → redo_in (redo_of r) ≡ Some r

-- what reads is byte for byte the text of what it gives
abbrev pub ReadsOnlyWritten : Type 0
ReadsOnlyWritten = (text : List ℕ) (r : Redo) → redo_in text ≡ Some r → RedoFits r × (text ≡ redo_of r)

-- the sheet and the layout lie in the text, one after the other
abbrev pub PartsLie : Type 0
PartsLie = (text : List ℕ) (p : Parts) → look_of text ≡ Some p → (p.sheet ≤ p.layout) × (p.layout ≤ p.end) × (p.end ≤ length text)
