-- One part more: what `readable` says of part i, and a step of gathering and of scattering. Assumes nothing.
use mathlib.Core.Path.{◌≡◌, refl, sym, ap, ◌∙◌, subst}
use mathlib.Core.Bool.{true}
use mathlib.Core.List.{List, [], ◌∷◌}
use Prim.Native.Nat.{ℕ, zero, suc, ◌+◌, ◌/◌, ◌<◌, ◌^◌}
use native.Mathlib.Nat.{not-suc-le-zero, le_of_suc-le-suc}
use native.Mathlib.Omega.{arith}
use lib.Dec.{T, leb}
use lib.ListN.{length, get_or, drop}
use lib.Seq.{drop-cons}
use mir.Facts.{and_yes}
use Rattle.bits.specs.Part.{part, above, put}
use Rattle.bits.specs.Parts.{widths, gather, scatter}
use Rattle.bits.proofs.Laws.{above-assoc}
use Rattle.bits.proofs.Parts.{gather-lt, scatter-none}
use Rattle.parts.specs.Placed.{no_part, stands_at, placed, width_of, in_word, in_words, readable}
use Rattle.parts.specs.declared.Part.{Part}

-- a slot's parts have as many bits in the bundle
pub widths-placed : (slot : ℕ) (ps : List Part) → widths (placed slot ps) ≡ width_of ps
widths-placed slot [] = refl
widths-placed slot (p ∷ ps) = ap (λ (k : ℕ). p.width + k) (widths-placed slot ps)

-- part i lies in a word
reads_at : (ps : List Part) (i : ℕ) → i < length ps → T (in_words true ps) → T (in_word true (get_or ps i no_part))
reads_at [] i h t = absurd (not-suc-le-zero h)
reads_at (p ∷ ps) zero h t = (and_yes (in_word true p) (in_words true ps) t).0
reads_at (p ∷ ps) (suc i) h t = reads_at ps i (le_of_suc-le-suc h) (and_yes (in_word true p) (in_words true ps) t).1

pub reads : (ps : List Part) (i : ℕ) → i < length ps → T (readable ps) → T (in_word true (get_or ps i no_part))
reads ps i h t = reads_at ps i h (and_yes (in_words true ps) (leb (width_of ps) 64) t).0

module _ (n slot : ℕ) (ps : List Part) (i : ℕ) (h : i < length ps) where
  split : placed slot (drop i ps) ≡ (stands_at slot (get_or ps i no_part).place, (get_or ps i no_part).width) ∷ placed slot (drop (suc i) ps)
  split = ap (placed slot) (drop-cons ps i no_part h)

  pub width-step : width_of (drop i ps) ≡ (get_or ps i no_part).width + width_of (drop (suc i) ps)
  width-step = ap width_of (drop-cons ps i no_part h)

  pub gather-step : (b raw x : ℕ) → x ≡ part n (stands_at slot (get_or ps i no_part).place) (get_or ps i no_part).width
      → above (b + (get_or ps i no_part).width) (above b raw x) (gather n (placed slot (drop (suc i) ps))) ≡ above b raw (gather n (placed slot (drop i ps)))
  unfolding gather
  gather-step b raw x is =
      let w = (get_or ps i no_part).width in
      above-assoc b w raw x _
      ∙ ap (λ (y : ℕ). above b raw (above w y (gather n (placed slot (drop (suc i) ps))))) is
      ∙ sym (ap (λ qs. above b raw (gather n qs)) split)

  pub scatter-step : (v : ℕ)
      → scatter n (placed slot (drop i ps)) v
      ≡ scatter (put n (stands_at slot (get_or ps i no_part).place) (get_or ps i no_part).width v) (placed slot (drop (suc i) ps)) (v / 2 ^ (get_or ps i no_part).width)
  unfolding scatter
  scatter-step v = ap (λ qs. scatter n qs v) split

-- parts of no width take nothing
pub scatter-done : (n slot : ℕ) (ps : List Part) → width_of ps ≡ 0 → (v : ℕ) → scatter n (placed slot ps) v ≡ n
unfolding scatter
scatter-done n slot [] none v = refl
scatter-done n slot (p ∷ ps) none v =
    let own : p.width ≡ 0 = omega arith in
    ap (λ (w : ℕ). scatter n ((stands_at slot p.place, w) ∷ placed slot ps) v) own ∙ scatter-none n (stands_at slot p.place) (placed slot ps) v ∙ scatter-done n slot ps (omega arith) v

-- what is gathered has as many bits as the parts, and is 0 where they have none
pub gathered-lt : (n slot : ℕ) (ps : List Part) → gather n (placed slot ps) < 2 ^ width_of ps
gathered-lt n slot ps = subst (λ (k : ℕ). gather n (placed slot ps) < 2 ^ k) (widths-placed slot ps) (gather-lt n (placed slot ps))

pub none-gathered : (n slot : ℕ) (ps : List Part) → width_of ps ≡ 0 → gather n (placed slot ps) ≡ 0
none-gathered n slot ps none = let h = rw none at (gathered-lt n slot ps) in omega arith
