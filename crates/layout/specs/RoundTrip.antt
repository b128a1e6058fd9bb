-- Reading accepts exactly what is written, and gives what was written. Proved in `proofs/Inverse.antt`. Assumes nothing.
use Rattle.std.specs.Prelude.{ℕ, ◌≡◌, Bool, List, length}
use Rattle.std.proofs.Math.Option.{some}
use Rattle.text.specs.Fields.{Words}
use Rattle.layout.specs.Change.{lists, windows_with}
use Rattle.layout.specs.Layout.{Layout, numbers_of, layout_of}
use Rattle.layout.specs.Read.{layout_in}

-- a layout all of whose numbers have 64 bits
pub record LayoutFits (l : Layout) : Type 0 where
  pub head : Words (numbers_of l.reading (length l.windows))
  pub windows : Words l.windows

-- its text reads back as what was written
abbrev pub ReadsWritten : Type 0
ReadsWritten = (l : Layout) → LayoutFits l → layout_in (layout_of l) ≡ some l

-- what reads is byte for byte the text of what it gives
abbrev pub ReadsOnlyWritten : Type 0
ReadsOnlyWritten = (text : List ℕ) (l : Layout) → layout_in text ≡ some l → LayoutFits l × (text ≡ layout_of l)

-- a window is listed as was asked, and any other as it was
pub record Listed (w : ℕ) (listed : Bool) (ws : List ℕ) : Type 0 where
  pub own : lists (windows_with w listed ws) w ≡ listed
  pub other : (v : ℕ) → (v ≡ w → ⊥) → lists (windows_with w listed ws) v ≡ lists ws v

abbrev pub ListsAsAsked : Type 0
ListsAsAsked = (w : ℕ) (listed : Bool) (ws : List ℕ) → Listed w listed ws
