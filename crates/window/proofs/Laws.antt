-- What an extent's window and places come to, case by case, and that a window shows each bundle where the extent has it: each is
-- arithmetic, once the tests are known. Assumes nothing.
use mathlib.Core.Path.{◌≡◌, refl, sym, ap, ◌∙◌, subst}
use mathlib.Core.Bool.{Bool, true, false, false≢true}
use Prim.Native.Nat.{ℕ, ◌+◌, ◌-◌, ◌*◌, ◌≤◌, ◌<◌, ◌^◌}
use native.Mathlib.Decide.{dec_lt}
use native.Mathlib.Omega.{arith}
use borrow.Author.Tests.{le-leb, lt-leb, eq-eqb, ne_eqb}
use lib.Dec.{T}
use lib.Ieee.Bits.{is_true}
use mir.Facts.{and_yes}
use Rattle.window.specs.Window.{lies_in, is_code, cut_to, shown_in, place_of, bundle_place, SpotIsAddress, WindowShows}
use Rattle.window.specs.declared.Extent.{Extent}
use Rattle.window.specs.declared.Part.{Part}
use Rattle.std.specs.Prelude.{Some, None}

pub spot-is-address : SpotIsAddress
spot-is-address address = omega arith

module _ (e : Extent) (length : ℕ) where
  -- an extent that lies in a file, and one that doesn't
  pub record Lies : Type 0 where
    pub in-file : e.offset + e.size ≤ length
    pub below : e.address + e.size ≤ 2 ^ 64

  pub lies : Lies → true ≡ lies_in e length
  unfolding lies_in
  lies l = rw (le-leb (e.offset + e.size) length l.in-file, le-leb (e.address + e.size) (2 ^ 64) l.below)

  pub not-in-file : length < e.offset + e.size → false ≡ lies_in e length
  unfolding lies_in
  not-in-file h = rw (lt-leb (e.offset + e.size) length h)

  pub not-below : 2 ^ 64 < e.address + e.size → false ≡ lies_in e length
  unfolding lies_in
  not-below h =
      elim (dec_lt length (e.offset + e.size)) [
        | yes l ↦ rw (lt-leb (e.offset + e.size) length l)
        | no l ↦ rw (le-leb (e.offset + e.size) length (omega arith), lt-leb (e.address + e.size) (2 ^ 64) h)
      ]

  lies-then : lies_in e length ≡ true → Lies
  lies-then t =
      elim (dec_lt length (e.offset + e.size)) [
        | yes l ↦ absurd (false≢true (not-in-file l ∙ t))
        | no l ↦
            elim (dec_lt (2 ^ 64) (e.address + e.size)) [
              | yes h ↦ absurd (false≢true (not-below h ∙ t))
              | no h ↦ record { in-file = omega arith; below = omega arith }
            ]
      ]

  pub code-lies : is_code e length ≡ true → Lies
  code-lies t = lies-then (is_true (lies_in e length) (and_yes e.code (lies_in e length) (subst T (sym t) tt)).1)

  -- what is no code in the file has no part in a window and no place
  module _ (t : is_code e length ≡ false) where
    pub part_none : (window : ℕ) → None ≡ shown_in e length window
    unfolding shown_in
    part_none window = rw t

    pub place_none : (address : ℕ) → None ≡ place_of e length address
    unfolding place_of
    place_none address = rw t

  -- what is code has, where it reaches into the window and to the address
  module _ (t : is_code e length ≡ true) where
    pub part-empty : (window : ℕ) → (cut_to e window).size ≡ 0 → None ≡ shown_in e length window
    unfolding shown_in
    part-empty window z = rw (t, eq-eqb (cut_to e window).size 0 z)

    pub part-is : (window : ℕ) → 0 < (cut_to e window).size → Some (cut_to e window) ≡ shown_in e length window
    unfolding shown_in
    part-is window h = rw (t, ne_eqb (cut_to e window).size 0 (λ z. absurd (omega arith)))

    module _ (address : ℕ) where
      pub place-before : address < e.address → None ≡ place_of e length address
      unfolding place_of
      place-before h = rw (t, lt-leb e.address address h)

      pub place-past : e.address ≤ address → e.address + e.size < address + 16 → None ≡ place_of e length address
      unfolding place_of
      place-past l h = rw (t, le-leb e.address address l, lt-leb (address + 16) (e.address + e.size) h)

      pub place_is : e.address ≤ address → address + 16 ≤ e.address + e.size → Some (e.offset + (address - e.address)) ≡ place_of e length address
      unfolding place_of
      place_is l h = rw (t, le-leb e.address address l, le-leb (address + 16) (e.address + e.size) h)

-- a bundle of a part: before it, past it, in it
module _ (p : Part) (bundle : ℕ) where
  in-before : 16 * bundle < p.first → bundle_place (Some p) bundle ≡ None
  in-before h = rw (lt-leb p.first (16 * bundle) h)

  in-past : p.first ≤ 16 * bundle → p.first + p.size < 16 * bundle + 16 → bundle_place (Some p) bundle ≡ None
  in-past l h = rw (le-leb p.first (16 * bundle) l, lt-leb (16 * bundle + 16) (p.first + p.size) h)

  in_is : p.first ≤ 16 * bundle → 16 * bundle + 16 ≤ p.first + p.size → bundle_place (Some p) bundle ≡ Some (p.offset + (16 * bundle - p.first))
  in_is l h = rw (le-leb p.first (16 * bundle) l, le-leb (16 * bundle + 16) (p.first + p.size) h)

-- a place counted from the window or from the extent
same_place : (offset address window k : ℕ) → address ≤ window + k → offset + (window - address) + (k - (address - window)) ≡ offset + (window + k - address)
same_place offset address window k h = omega arith

-- a window shows what the extent has
module _ (e : Extent) (length window bundle : ℕ) (few : bundle < 4096) where
  module _ (t : is_code e length ≡ true) where
    -- a place that isn't in the extent
    not-shown : bundle_place (Some (cut_to e window)) bundle ≡ None → bundle_place (shown_in e length window) bundle ≡ None
    not-shown n =
        elim (dec_lt 0 (cut_to e window).size) [
          | yes h ↦ rw (← part-is e length t window h) n
          | no h ↦ rw (← part-empty e length t window (omega arith)) refl
        ]

    shown : bundle_place (shown_in e length window) bundle ≡ place_of e length (window + 16 * bundle)
    shown =
        elim (dec_lt (window + 16 * bundle) e.address) [
          | yes h ↦ not-shown (in-before (cut_to e window) bundle (omega arith)) ∙ place-before e length t (window + 16 * bundle) h
          | no h ↦
              elim (dec_lt (e.address + e.size) (window + 16 * bundle + 16)) [
                | yes g ↦ not-shown (in-past (cut_to e window) bundle (omega arith) (omega arith)) ∙ place-past e length t (window + 16 * bundle) (omega arith) g
                | no g ↦
                    let some : 0 < (cut_to e window).size = omega arith in
                    rw (← part-is e length t window some) (in_is (cut_to e window) bundle (omega arith) (omega arith))
                    ∙ ap Some (same_place e.offset e.address window (16 * bundle) (omega arith))
                    ∙ place_is e length t (window + 16 * bundle) (omega arith) (omega arith)
              ]
        ]

  by_code : (b : Bool) → is_code e length ≡ b → bundle_place (shown_in e length window) bundle ≡ place_of e length (window + 16 * bundle)
  by_code false t = rw (← part_none e length t window, ← place_none e length t (window + 16 * bundle)) refl
  by_code true t = shown t

pub window-shows : WindowShows
window-shows e length window bundle few = by_code e length window bundle few (is_code e length) refl
