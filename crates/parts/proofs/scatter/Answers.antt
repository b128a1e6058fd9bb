-- `scatter` meets its contract: what is left to be scattered into the parts from i on gives the same bundle,
-- and from a part of no width on nothing is left.
use Rattle.std.proofs.Common.{◌≡◌, ℕ, suc, ◌/◌, ◌≤◌, ◌<◌, ◌^◌, List, T, length, get_or, drop, arith, ◌∙◌, ap, sym, refl}
use native.Mathlib.Numerals.{add-one}
use lib.ListN.{drop_of_length-le}
use Rattle.bits.specs.Parts.{scatter}
use Rattle.bundle.specs.Bundle.{whole}
use Rattle.parts.specs.Placed.{no_part, placed, readable}
use Rattle.parts.specs.declared.Part.{Part}
use Rattle.parts.proofs.Placed.{narrow, ends}
use Rattle.parts.proofs.Steps.{reads, scatter-step, scatter-done}
use Rattle.parts.proofs.scatter.Goals as goal

-- part i, at which a turn is
module _ (ps : List Part) (i : ℕ) (h : i < length ps) (r : T (readable ps)) where
  fits : (get_or ps i no_part).width < 64
  fits = narrow (get_or ps i no_part) (reads ps i h r)

pub loop-part-init : goal.loop-part-init
loop-part-init c = record { is = refl }

pub returns-then-width-eq0 : goal.returns-then-width-eq0
returns-then-width-eq0 c =
    let l = c.loop-part in
    let ps = c.args.parts.now in
    let none = c.requires.2 l.part-index c.loop-part-test.true (sym c.from-width.ensures ∙ c.if-width-eq0.true) in
    sym (l.invariant.is ∙ scatter-done (whole l.bundle) c.args.slot (drop l.part-index ps) none l.rest)

pub put-bundle-requires : goal.put-bundle-requires
put-bundle-requires c =
    let l = c.loop-part in
    let ps = c.args.parts.now in
    let part = get_or ps l.part-index no_part in
    let in-a-word = reads ps l.part-index c.loop-part-test.true c.requires.1 in
    let end = ends c.args.slot part c.requires.0 in-a-word in
    rw (c.stands_at.ensures, c.from-width.ensures) (omega (arith, c.if-width-eq0.false), narrow part in-a-word, end)

pub overflow_shr-rest : goal.overflow_shr-rest
overflow_shr-rest c = rw c.from-width.ensures (fits c.args.parts.now c.loop-part.part-index c.loop-part-test.true c.requires.1)

pub loop-part-preserved : goal.loop-part-preserved
loop-part-preserved c =
    let l = c.loop-part in
    let slot = c.args.slot in
    let ps = c.args.parts.now in
    let n = whole l.bundle in
    let w = (get_or ps l.part-index no_part).width in
    let turned : scatter n (placed slot (drop l.part-index ps)) l.rest ≡ scatter (whole c.put-bundle.result) (placed slot (drop (suc l.part-index) ps)) (l.rest / 2 ^ w) =
    rw (c.put-bundle.ensures, c.stands_at.ensures, c.from-width.ensures) (scatter-step n slot ps l.part-index c.loop-part-test.true l.rest) in
    record { is = l.invariant.is ∙ rw (add-one l.part-index, c.from-width.ensures) turned }

pub returns : goal.returns
unfolding scatter
returns c =
    let l = c.loop-part in
    let ps = c.args.parts.now in
    let done : length ps ≤ l.part-index = omega arith in
    sym (l.invariant.is ∙ ap (λ qs. scatter (whole l.bundle) (placed c.args.slot qs) l.rest) (drop_of_length-le ps done))
