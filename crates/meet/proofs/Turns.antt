-- A turn of a loop over a slot's six parts: part i stands before those that are left. Assumes nothing.
use mathlib.Core.Path.{◌≡◌, sym, ap, ◌∙◌}
use mathlib.Core.Bool.{Bool, true, false, ◌&&◌}
use mathlib.Core.List.{List, ◌∷◌}
use Prim.Native.Nat.{ℕ, ◌+◌, ◌<◌}
use native.Mathlib.Numerals.{add-one}
use lib.ListN.{length, get_or, drop}
use lib.Seq.{drop-cons}
use Rattle.bits.specs.Parts.{Parts}
use Rattle.parts.specs.Placed.{no_part, stands_at, placed}
use Rattle.parts.specs.declared.Part.{Part}

-- where part i stands
abbrev pub part_at : ℕ → List Part → ℕ → ℕ × ℕ
part_at slot ps i = (stands_at slot (get_or ps i no_part).place, (get_or ps i no_part).width)

-- the parts from i on
abbrev pub left : ℕ → List Part → ℕ → Parts
left slot ps i = placed slot (drop i ps)

module _ (slot : ℕ) (ps : List Part) (i : ℕ) (h : i < length ps) where
  pub left-next : left slot ps i ≡ part_at slot ps i ∷ left slot ps (i + 1)
  left-next = ap (placed slot) (drop-cons ps i no_part h) ∙ ap (λ (k : ℕ). part_at slot ps i ∷ left slot ps k) (sym (add-one i))

  -- a test that all of them pass: what the parts from i on answer, by the test of part i
  module _ (test : ℕ × ℕ → Bool) (all : Parts → Bool) (step : (q : ℕ × ℕ) (qs : Parts) → all (q ∷ qs) ≡ (test q && all qs))
      (q : ℕ × ℕ) (is : q ≡ part_at slot ps i) (t : Bool) (tested : t ≡ test q) where
    turned : all (left slot ps i) ≡ (t && all (left slot ps (i + 1)))
    turned = ap all left-next ∙ step (part_at slot ps i) (left slot ps (i + 1)) ∙ ap (λ (b : Bool). b && all (left slot ps (i + 1))) (sym (tested ∙ ap test is))

    pub passed : t ≡ true → all (left slot ps i) ≡ all (left slot ps (i + 1))
    passed holds = turned ∙ ap (λ (b : Bool). b && all (left slot ps (i + 1))) holds

    pub stopped : t ≡ false → all (left slot ps i) ≡ false
    stopped fails = turned ∙ ap (λ (b : Bool). b && all (left slot ps (i + 1))) fails
