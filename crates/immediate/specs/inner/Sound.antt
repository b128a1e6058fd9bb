-- What the functions that read and write a row in a slot ask of their callers: no promise to a caller of the crate. Assumes nothing.
use Rattle.std.specs.Prelude.{◌≡◌, ℕ, ◌<◌, T}
use Rattle.answer.specs.Answer.{outcome, accepted}
use Rattle.bits.specs.Parts.{separate}
use Rattle.parts.specs.Placed.{placed, width_of, readable}
use Rattle.parts.specs.inner.Standing.{Ended}
use Rattle.meaning.specs.inner.Fits.{Fitting}
use Rattle.bundle.specs.Bundle.{halves_of}
use Rattle.operand.specs.declared.Operand.{Operand}
use Rattle.meaning.specs.declared.Meaning.TheVariants.{Signed}
use Rattle.row.specs.Row.{Row}
use Rattle.row.specs.inner.Packed.{unpacked}
use Rattle.row.specs.declared.Packed.{Packed}
use Rattle.immediate.specs.Immediate.{raw_for, with_raw, Changed, no_change}

-- a row's parts lie in the bundle, no two meet, and its values are of 64 bits
pub record Sound (slot : ℕ) (row : Row) : Type 0 where
  pub in-bundle : slot < 3
  pub reads : T (readable row.parts)
  pub ended : Ended row.parts
  pub apart : T (separate (placed slot row.parts))
  pub fitting : Fitting row.meaning (width_of row.parts)

-- the same of a row as the code has it, with its width
abbrev pub SoundIn : ℕ → Packed → Type 0
SoundIn slot p = Sound slot (unpacked p) × (p.width ≡ width_of (unpacked p).parts)

-- and its values are times 16 with a sign
abbrev pub TargetIn : ℕ → Packed → Type 0
TargetIn slot p = SoundIn slot p × (p.meaning ≡ Signed 16)

-- a bundle with a value's raw number in a row's parts, or the value's refusal
abbrev pub written_in : Row → ℕ → ℕ → Operand → Changed
written_in row slot n value =
    let raw = raw_for row value in
    outcome raw.answer (record { answer = accepted; bundle = halves_of (with_raw row slot n raw.raw) }) (no_change raw.answer)
