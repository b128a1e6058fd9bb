-- Bytes written into an output at a place. Assumes nothing.
use Rattle.std.specs.Prelude.{ℕ, ◌+◌, ◌-◌, ◌^◌, min, ◌≡◌, List, length}
use Rattle.std.proofs.lemmas.List.Edits.{sets}

-- `out` with the bytes of `text` from place `at` on; a byte for which there is no place is lost
abbrev pub written : List ℕ → ℕ → List ℕ → List ℕ
written out at text = sets out at text

-- the place `count` bytes on; the last that a number can tell stands for all past it, where no output has a place
abbrev pub past : ℕ → ℕ → ℕ
past at count = min (at + count) (2 ^ 64 - 1)

-- `text` was written into `before` at `at`, which gives `after` and the place `next` after it
pub record Put (before : List ℕ) (at : ℕ) (text after : List ℕ) (next : ℕ) : Type 0 where
  pub bytes : after ≡ written before at text
  pub place : next ≡ past at (length text)
