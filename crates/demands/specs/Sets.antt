-- A change sets what is its own and nothing else: a field edit the bits of its immediate, and a bundle that is set its sixteen bytes.
-- Assumes nothing.
use Rattle.std.specs.Prelude.{ℕ, ◌+◌, ◌*◌, ◌%◌, ◌^◌, ◌≡◌, List, [], ◌∷◌, T, take, drop}
use Rattle.bits.specs.Part.{bit}
use Rattle.bits.specs.Parts.{apart_from}
use Rattle.bundle.specs.Bundle.{number_at}
use Rattle.form.specs.declared.Edit.{Edit}
use Rattle.row.specs.Row.{row_of}
use Rattle.immediate.specs.Immediate.{value_in, parts_of}
use Rattle.journal.specs.Change.{Change, field, set, changed, made_all}

-- an edit sets the bits of its one immediate and no other
pub record SetsOnlyItsBits (code : List ℕ) (e : Edit) : Type 0 where
  -- its value is read back
  pub value : value_in (row_of e.form) e.slot (number_at (changed code (field e)) e.bundle) ≡ e.value
  -- the bytes before its bundle stay
  pub before : take (16 * e.bundle) (changed code (field e)) ≡ take (16 * e.bundle) code
  -- so does each bit of its bundle that is not the immediate's
  pub bits : (i : ℕ) → T (apart_from (i, 1) (parts_of e)) → bit (number_at (changed code (field e)) e.bundle) i ≡ bit (number_at code e.bundle) i
  -- and so do the bytes past its bundle
  pub past : drop (16 * e.bundle + 16) (changed code (field e)) ≡ drop (16 * e.bundle + 16) code

-- a bundle that is set gets the sixteen bytes of its number, and no other byte changes
pub record SetsOnlyItsBytes (code : List ℕ) (k n : ℕ) : Type 0 where
  -- its number is the one that it is set to
  pub number : number_at (changed code (set k n)) k ≡ n % 2 ^ 128
  -- the bytes before it stay
  pub before : take (16 * k) (changed code (set k n)) ≡ take (16 * k) code
  -- and so do the bytes past it
  pub past : drop (16 * k + 16) (changed code (set k n)) ≡ drop (16 * k + 16) code

-- a change sets what is its own and nothing else
abbrev pub SetsOnlyItsOwn : List ℕ → Change → Type 0
SetsOnlyItsOwn code (field e) = SetsOnlyItsBits code e
SetsOnlyItsOwn code (set k n) = SetsOnlyItsBytes code k n

-- and so does each of some changes, in the code in which it is made; the last stands first
abbrev pub EachSetsItsOwn : List ℕ → List Change → Type 0
EachSetsItsOwn code [] = Unit {0}
EachSetsItsOwn code (c ∷ cs) = SetsOnlyItsOwn (made_all code cs) c × EachSetsItsOwn code cs
