-- `gather` meets its contract: the number so far stands below that of the parts from i on, and from a part of no width on nothing is left.
use Rattle.std.proofs.Common.{◌≡◌, ℕ, suc, ◌+◌, ◌*◌, ◌%◌, ◌≤◌, ◌<◌, ◌^◌, true, List, T, length, get_or, drop, arith, ◌∙◌, ap, ap₂, sym, subst, refl}
use native.Mathlib.Nat.{add-zero, mul_comm, lt_of_lt_of_le}
use native.Mathlib.Numerals.{add-one}
use lib.Dec.{leb, leb→le, lit<}
use lib.ListN.{drop_of_length-le}
use lib.Pow.{pow_mono}
use mir.Facts.{and_yes, Fits-of_lt}
use Rattle.bits.specs.Part.{part, above}
use Rattle.bits.specs.Parts.{gather}
use Rattle.bits.proofs.Laws.{part-lt, part-part, above-lt}
use Rattle.bits.proofs.Shift.{shl}
use Rattle.bundle.specs.Bundle.{whole}
use Rattle.parts.specs.Placed.{no_part, stands_at, placed, width_of, in_word, in_words, readable}
use Rattle.parts.specs.declared.Part.{Part}
use Rattle.parts.proofs.Placed.{stands-past, narrow, ends}
use Rattle.parts.proofs.Steps.{reads, width-step, gather-step, none-gathered}
use Rattle.parts.proofs.gather.Goals as goal

-- where no part is left the number is whole
done : (n slot below raw total : ℕ) (ps : List Part) → above below raw (gather n (placed slot ps)) ≡ total → width_of ps ≡ 0 → raw ≡ total
done n slot below raw total ps is none = let whole-is = rw (none-gathered n slot ps none) at is in omega arith

-- part i, at which a turn is
module _ (n slot : ℕ) (ps : List Part) (i : ℕ) (h : i < length ps) (r : T (readable ps)) (q : Part) (is : q ≡ get_or ps i no_part) where
  in-word : T (in_word true q)
  in-word = rw is (reads ps i h r)

  fits : q.width < 64
  fits = narrow q in-word

  module _ (below raw : ℕ) (room : below + width_of (drop i ps) ≤ 64) where
    room-after : below + q.width + width_of (drop (suc i) ps) ≤ 64
    room-after = omega (arith, width-step 0 0 ps i h, ap (λ (p : Part). p.width) is, room)

    -- the bits of part i, set above the number so far
    module _ (st bits x : ℕ) (stands : st ≡ stands_at slot q.place) (from : bits ≡ part n st 64) (got : x ≡ part bits 0 q.width) (low : raw < 2 ^ below) where
      got-part : x ≡ part n (stands_at slot q.place) q.width
      got-part =
          let within : 0 + q.width ≤ 64 = omega (arith, fits) in
          got
          ∙ ap (λ (y : ℕ). part y 0 q.width) from
          ∙ part-part n st 64 0 q.width within
          ∙ ap (λ (y : ℕ). part n y q.width) (add-zero st ∙ stands)

      small : x < 2 ^ q.width
      small = subst (λ (y : ℕ). y < 2 ^ q.width) (sym got) (part-lt bits 0 q.width)

      raw-is : raw + (x * 2 ^ below) % 2 ^ 64 ≡ above below raw x
      raw-is = ap (λ (y : ℕ). raw + y) (shl below q.width x small (omega (arith, room-after)) ∙ mul_comm x (2 ^ below))

      raw-lt : raw + (x * 2 ^ below) % 2 ^ 64 < 2 ^ (below + q.width)
      raw-lt = subst (λ (y : ℕ). y < 2 ^ (below + q.width)) (sym raw-is) (above-lt below raw x low q.width small)

      raw-fits : raw + (x * 2 ^ below) % 2 ^ 64 < 2 ^ 64
      raw-fits =
          let within : below + q.width ≤ 64 = omega (arith, room-after) in
          lt_of_lt_of_le raw-lt (pow_mono within)

      turn : (total : ℕ) → above below raw (gather n (placed slot (drop i ps))) ≡ total
          → above (below + q.width) (raw + (x * 2 ^ below) % 2 ^ 64) (gather n (placed slot (drop (suc i) ps))) ≡ total
      turn total so-far =
          let bits-are = got-part ∙ ap (λ (p : Part). part n (stands_at slot p.place) p.width) is in
          ap₂ (λ (y : ℕ) (p : Part). above (below + p.width) y (gather n (placed slot (drop (suc i) ps)))) raw-is is
          ∙ gather-step n slot ps i h below raw x bits-are
          ∙ so-far

pub loop-part-init : goal.loop-part-init
loop-part-init c =
    let ps = c.args.parts.now in
    let h = leb→le (width_of ps) 64 (and_yes (in_words true ps) (leb (width_of ps) 64) c.requires.1).1 in
    record { fits = lit< tt; room = omega arith; is = omega arith }

pub returns-then-width-eq0 : goal.returns-then-width-eq0
returns-then-width-eq0 c =
    let l = c.loop-part in
    let none = c.requires.2 l.part-index c.loop-part-test.true (sym c.from-width.ensures ∙ c.if-width-eq0.true) in
    done (whole c.args.halves) c.args.slot l.below l.raw _ (drop l.part-index c.args.parts.now) l.invariant.is none

pub bits_from-bits-requires : goal.bits_from-bits-requires
bits_from-bits-requires c =
    let p = (get_or c.args.parts.now c.loop-part.part-index no_part) in
    let ps = c.args.parts.now in
    let past = stands-past c.args.slot p.place in
    let end = ends c.args.slot p c.requires.0 (in-word 0 0 ps c.loop-part.part-index c.loop-part-test.true c.requires.1 p refl) in
    rw c.stands_at.ensures (omega arith, omega (arith, c.if-width-eq0.false, c.from-width.ensures))

pub get-requires : goal.get-requires
get-requires c =
    (lit< tt, rw c.from-width.ensures (fits 0 0 c.args.parts.now c.loop-part.part-index c.loop-part-test.true c.requires.1 (get_or c.args.parts.now c.loop-part.part-index no_part) refl))

pub overflow_add-raw : goal.overflow_add-raw
overflow_add-raw c =
    let l = c.loop-part in
    Fits-of_lt
    (raw-fits (whole c.args.halves) c.args.slot c.args.parts.now l.part-index c.loop-part-test.true c.requires.1 (get_or c.args.parts.now c.loop-part.part-index no_part) refl
    l.below l.raw l.invariant.room c.stands_at.result c.bits_from-bits.result c.get.result c.stands_at.ensures c.bits_from-bits.ensures (rw c.from-width.ensures at c.get.ensures) l.invariant.fits)

pub loop-part-preserved : goal.loop-part-preserved
loop-part-preserved c =
    let l = c.loop-part in
    let n = whole c.args.halves in
    let ps = c.args.parts.now in
    record {
      fits =
          rw c.from-width.ensures
          (raw-lt n c.args.slot ps l.part-index c.loop-part-test.true c.requires.1 (get_or c.args.parts.now c.loop-part.part-index no_part) refl l.below l.raw l.invariant.room c.stands_at.result
          c.bits_from-bits.result c.get.result c.stands_at.ensures c.bits_from-bits.ensures (rw c.from-width.ensures at c.get.ensures) l.invariant.fits);
      room = rw (add-one l.part-index, c.from-width.ensures) (room-after n c.args.slot ps l.part-index c.loop-part-test.true c.requires.1 (get_or c.args.parts.now c.loop-part.part-index no_part) refl l.below l.raw l.invariant.room);
      is =
          rw (add-one l.part-index, c.from-width.ensures)
          (turn n c.args.slot ps l.part-index c.loop-part-test.true c.requires.1 (get_or c.args.parts.now c.loop-part.part-index no_part) refl l.below l.raw l.invariant.room c.stands_at.result
          c.bits_from-bits.result c.get.result c.stands_at.ensures c.bits_from-bits.ensures (rw c.from-width.ensures at c.get.ensures) l.invariant.fits _ l.invariant.is);
    }

pub returns : goal.returns
returns c =
    let l = c.loop-part in
    let ps = c.args.parts.now in
    let past : length ps ≤ l.part-index = omega arith in
    done (whole c.args.halves) c.args.slot l.below l.raw _ (drop l.part-index ps) l.invariant.is (ap width_of (drop_of_length-le ps past))
