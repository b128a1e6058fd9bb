-- What writing a row comes to: the laws of parts, said of a row that is sound in a slot. Assumes nothing.
use Rattle.std.proofs.Common.{◌≡◌, ℕ, ◌%◌, ◌^◌, ◌<◌, true, false, T, leb, sym, ap, ◌∙◌, mod-eq_of_lt, lit≤}
use borrow.Author.Tests.{not-false}
use mir.Facts.{and_yes}
use Rattle.bits.specs.Part.{bit}
use Rattle.bits.specs.Parts.{gather, apart_from, meet_not}
use Rattle.bits.proofs.Parts.{gather-scatter, scatter-gather, scatter-scatter, scatter-comm, scatter-lt, part-scatter, scatter-bit}
use Rattle.bundle.specs.Bundle.{tag_of}
use Rattle.parts.specs.Placed.{placed, width_of, in_words}
use Rattle.parts.proofs.Placed.{past-tag, within-bundle}
use Rattle.parts.proofs.Steps.{widths-placed, gathered-lt}
use Rattle.operand.specs.declared.Operand.{Operand}
use Rattle.meaning.specs.Meaning.{Raw, means, Is, value_of, raw_of}
use Rattle.immediate.specs.inner.Sound.{Sound}
use Rattle.row.specs.Row.{Row, is_none}
use Rattle.immediate.specs.Immediate.{value_in, with_raw}
use Rattle.meaning.proofs.Inverse.{raw_of-value, value-of-raw}

module _ (slot : ℕ) (row : Row) (s : Sound slot row) (n : ℕ) where
  -- the raw number that was written is read
  pub gather-written : (raw : ℕ) → raw < 2 ^ width_of row.parts → gather (with_raw row slot n raw) (placed slot row.parts) ≡ raw
  gather-written raw h = gather-scatter n (placed slot row.parts) raw s.apart ∙ ap (λ (k : ℕ). raw % 2 ^ k) (widths-placed slot row.parts) ∙ mod-eq_of_lt h

  -- reading after writing gives the value
  pub read-written : (raw : ℕ) (v : Operand) → raw_of row.meaning (width_of row.parts) v ≡ Is raw → value_in row slot (with_raw row slot n raw) ≡ v
  read-written raw v e =
      let r = value-of-raw row.meaning (width_of row.parts) raw v s.fitting e in
      ap (value_of row.meaning (width_of row.parts)) (gather-written raw r.0) ∙ r.1

  -- what is there can be written
  pub raw-there : is_none row ≡ false → raw_of row.meaning (width_of row.parts) (value_in row slot n) ≡ Is (gather n (placed slot row.parts))
  raw-there some =
      raw_of-value row.meaning (width_of row.parts) (gather n (placed slot row.parts)) s.fitting (not-false (means row.meaning) some)
      (gathered-lt n slot row.parts)

  -- and writing it changes nothing
  pub write-there : is_none row ≡ false → (raw : ℕ) → raw_of row.meaning (width_of row.parts) (value_in row slot n) ≡ Is raw → with_raw row slot n raw ≡ n
  write-there some raw e =
      let same : raw ≡ gather n (placed slot row.parts) = ap (λ (r : Raw). r.raw) (sym e ∙ raw-there some) in
      ap (with_raw row slot n) same ∙ scatter-gather n (placed slot row.parts)

  -- the last of two writes counts
  pub written-again : (u v : ℕ) → with_raw row slot (with_raw row slot n u) v ≡ with_raw row slot n v
  written-again u v = scatter-scatter n (placed slot row.parts) u v s.apart

  -- a bundle's number stays one
  pub written-lt : (raw : ℕ) → n < 2 ^ 128 → with_raw row slot n raw < 2 ^ 128
  written-lt raw h = scatter-lt 128 n (placed slot row.parts) raw (within-bundle slot row.parts s.in-bundle (and_yes (in_words true row.parts) (leb (width_of row.parts) 64) s.reads).0) h

module _ (slot : ℕ) (row : Row) (n raw : ℕ) where
  -- no bit outside the row's parts changes
  pub bit_kept : (i : ℕ) → T (apart_from (i, 1) (placed slot row.parts)) → bit (with_raw row slot n raw) i ≡ bit n i
  bit_kept i t = scatter-bit n i (placed slot row.parts) raw t

  -- the tag stays
  pub tag-kept : tag_of (with_raw row slot n raw) ≡ tag_of n
  tag-kept = part-scatter n (0, 5) (placed slot row.parts) raw (past-tag slot row.parts (0, 5) (lit≤ tt))

-- writes of rows that don't meet commute
pub written-comm : (slot slot' : ℕ) (row row' : Row) (n u v : ℕ) → T (meet_not (placed slot' row'.parts) (placed slot row.parts))
    → with_raw row' slot' (with_raw row slot n u) v ≡ with_raw row slot (with_raw row' slot' n v) u
written-comm slot slot' row row' n u v t = scatter-comm n (placed slot row.parts) (placed slot' row'.parts) u v t
