-- Where a slot's parts lie in the bundle: past the tag, below bit 128, and in the bits of their own slot or of the L slot alone.
-- Each goes through the parts. Assumes nothing.
use mathlib.Core.Path.{◌≡◌, refl}
use mathlib.Core.Bool.{Bool, true, false, cond, ◌&&◌}
use mathlib.Core.List.{List, [], ◌∷◌}
use mathlib.Core.Logic.{inl, inr}
use Prim.Native.Nat.{ℕ, ◌+◌, ◌-◌, ◌*◌, ◌≤◌, ◌<◌}
use native.Mathlib.Nat.{le_trans, le_refl}
use native.Mathlib.Decide.{dec_lt}
use native.Mathlib.Omega.{arith}
use borrow.Author.Tests.{ltb-false}
use lib.Dec.{T, ltb, leb, leb→le, le→leb}
use mir.Facts.{and_yes, yes_and}
use Rattle.bits.specs.Parts.{apart, apart_from, meet_not, all_below}
use Rattle.bits.proofs.Parts.{sides_apart, apart-within}
use Rattle.parts.specs.Placed.{stands_at, placed, in_word, in_words}
use Rattle.parts.specs.declared.Part.{Part}

-- where a part stands
abbrev at : ℕ → Part → ℕ × ℕ
at slot p = (stands_at slot p.place, p.width)

-- no part meets the tag
pub stands-past : (slot place : ℕ) → 5 ≤ stands_at slot place
stands-past slot place =
    elim (ltb place 64) as (λ b. 5 ≤ cond b (5 + 41 * slot + place) (46 + (place - 64))) [ true ↦ omega arith | false ↦ omega arith ]

pub past-tag : (slot : ℕ) (ps : List Part) (q : ℕ × ℕ) → q.0 + q.1 ≤ 5 → T (apart_from q (placed slot ps))
past-tag slot [] q h = tt
past-tag slot (p ∷ ps) q h =
    yes_and (apart q (at slot p)) (apart_from q (placed slot ps)) (sides_apart q (at slot p) (inl (le_trans h (stands-past slot p.place)))) (past-tag slot ps q h)

-- the bits of slot j
abbrev pub word : ℕ → ℕ × ℕ
word j = (5 + 41 * j, 41)

pub words-apart : (i j : ℕ) → (i ≡ j → ⊥) → T (apart (word i) (word j))
words-apart i j d =
    sides_apart (word i) (word j)
    (elim (dec_lt i j) [ yes h ↦ inl (omega arith) | no h ↦ elim (dec_lt j i) [ yes g ↦ inr (omega arith) | no g ↦ absurd (d (omega arith)) ] ])

-- one or the other
data Lies (long : Bool) (slot : ℕ) (q : ℕ × ℕ) : Type 0 where
  own : 5 + 41 * slot ≤ q.0 → q.0 + q.1 ≤ 5 + 41 * slot + 41 → Lies long slot q
  far : T long → 46 ≤ q.0 → q.0 + q.1 ≤ 46 + 41 → Lies long slot q

lies : (long : Bool) (slot : ℕ) (p : Part) → T (in_word long p) → Lies long slot (at slot p)
lies long slot p t = by_word (ltb p.place 64) refl t
  where
    by_word : (b : Bool) → ltb p.place 64 ≡ b → T (cond b (leb (p.place + p.width) 41) (long && leb (p.place + p.width) (64 + 41)))
        → Lies long slot (cond b (5 + 41 * slot + p.place) (46 + (p.place - 64)), p.width)
    by_word true e t = let h = leb→le (p.place + p.width) 41 t in own (omega arith) (omega arith)
    by_word false e t =
        let s = and_yes long (leb (p.place + p.width) (64 + 41)) t in
        let h = leb→le (p.place + p.width) (64 + 41) s.1 in
        let l = ltb-false p.place 64 e in
        far s.0 (omega arith) (omega arith)

-- a part is narrow, and ends in the bundle
pub narrow : (p : Part) → T (in_word true p) → p.width < 64
narrow p t = elim (lies true 0 p t) [ own l h ↦ omega arith | far g l h ↦ omega arith ]

pub ends : (slot : ℕ) (p : Part) → slot < 3 → T (in_word true p) → stands_at slot p.place + p.width ≤ 128
ends slot p b t = elim (lies true slot p t) [ own l h ↦ omega arith | far g l h ↦ omega arith ]

pub within-bundle : (slot : ℕ) (ps : List Part) → slot < 3 → T (in_words true ps) → T (all_below 128 (placed slot ps))
within-bundle slot [] b t = tt
within-bundle slot (p ∷ ps) b t =
    let s = and_yes (in_word true p) (in_words true ps) t in
    yes_and (leb (stands_at slot p.place + p.width) 128) (all_below 128 (placed slot ps)) (le→leb _ _ (ends slot p b s.0)) (within-bundle slot ps b s.1)

-- what lies in other words meets none of the parts
pub elsewhere : (long : Bool) (slot : ℕ) (ps : List Part) (q : ℕ × ℕ) → T (in_words long ps) → T (apart q (word slot)) → (T long → T (apart q (word 1)))
    → T (apart_from q (placed slot ps))
elsewhere long slot [] q t a b = tt
elsewhere long slot (p ∷ ps) q t a b =
    let s = and_yes (in_word long p) (in_words long ps) t in
    yes_and (apart q (at slot p)) (apart_from q (placed slot ps)) (by_word (lies long slot p s.0)) (elsewhere long slot ps q s.1 a b)
  where
    by_word : Lies long slot (at slot p) → T (apart q (at slot p))
    by_word (own l h) = apart-within q (at slot p) q (word slot) a (le_refl _) (le_refl _) l h
    by_word (far g l h) = apart-within q (at slot p) q (word 1) (b g) (le_refl _) (le_refl _) l h

-- parts in other words don't meet
module _ (long long' : Bool) (slot slot' : ℕ) (ps : List Part) (t : T (in_words long ps)) (a : T (apart (word slot') (word slot)))
    (b : T long → T (apart (word slot') (word 1))) (c : T long' → T (apart (word 1) (word slot))) (d : T long → T long' → ⊥) where
  apart_from_lem : (q : ℕ × ℕ) → Lies long' slot' q → T (apart_from q (placed slot ps))
  apart_from_lem q (own l h) =
      elsewhere long slot ps q t (apart-within q (word slot) (word slot') (word slot) a l h (le_refl _) (le_refl _))
      (λ g. apart-within q (word 1) (word slot') (word 1) (b g) l h (le_refl _) (le_refl _))
  apart_from_lem q (far g l h) =
      elsewhere long slot ps q t (apart-within q (word slot) (word 1) (word slot) (c g) l h (le_refl _) (le_refl _)) (λ f. absurd (d f g))

  pub other-words : (qs : List Part) → T (in_words long' qs) → T (meet_not (placed slot' qs) (placed slot ps))
  other-words [] s = tt
  other-words (q ∷ qs) s =
      let e = and_yes (in_word long' q) (in_words long' qs) s in
      yes_and (apart_from (at slot' q) (placed slot ps)) (meet_not (placed slot' qs) (placed slot ps)) (apart_from_lem (at slot' q) (lies long' slot' q e.0)) (other-words qs e.1)
