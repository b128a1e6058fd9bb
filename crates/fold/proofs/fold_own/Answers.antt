-- Each turn folds one record more. Assumes nothing.
use mathlib.Core.Path.{◌≡◌, refl, sym, ap, ◌∙◌, subst}
use Prim.Native.Nat.{ℕ, ◌≤◌}
use native.Mathlib.Omega.{arith}
use lib.ListN.{length-replicate, get_or-replicate}
use Rattle.std.proofs.Common.{Option, None}
use Rattle.record.specs.Record.{highest}
use Rattle.record.specs.declared.Record.{Record}
use Rattle.fold.specs.inner.Places.{kept_of}
use Rattle.fold.proofs.Folding.{Folding, low, left-few, one-is, turn, done, begun}
use Rattle.fold.proofs.fold_own.Goals as goal

pub loop-place-init : goal.loop-place-init
loop-place-init c =
    let none : Option ℕ = None in
    record {
      within = omega arith;
      is = begun _;
      counts = refl;
      long = omega (arith, length-replicate 4096 none);
      kept = λ j h. get_or-replicate 4096 j none none (omega arith);
    }

pub place_in-at-requires : goal.place_in-at-requires
place_in-at-requires c =
    let a = c.args in
    let l = c.loop-place in
    let at_most = low a.party a.count a.records.now c.requires.0 c.requires.1 l.place c.loop-place-test.true in
    let one = c.get-one.ensures ∙ one-is a.party a.count a.records.now c.requires.0 c.requires.1 l.place c.loop-place-test.true l.invariant in (
      subst (λ (q : Record). q.bundle ≤ highest) (sym one) at_most,
      left-few a.party a.count a.records.now c.requires.0 c.requires.1 l.place c.loop-place-test.true l.invariant,
    )

pub more-left-requires : goal.more-left-requires
more-left-requires c =
    let a = c.args in
    left-few a.party a.count a.records.now c.requires.0 c.requires.1 c.loop-place.place c.loop-place-test.true c.loop-place.invariant

pub loop-place-preserved : goal.loop-place-preserved
loop-place-preserved c =
    let a = c.args in
    let l = c.loop-place in
    let kept = c.kept-renewed.ensures ∙ ap (λ (q : Option Record). kept_of q c.get-one.result) c.left_at-first.ensures in
    turn a.party a.count a.records.now c.requires.0 c.requires.1 l.place c.loop-place-test.true l.invariant _ _ _ _ _ _ _
    c.get-one.ensures c.put.ensures c.place_in-at.ensures.0 c.place_in-at.ensures.1 kept c.put-in-loop-place.ensures c.more-left.ensures

pub returns : goal.returns
returns c =
    let a = c.args in
    let l = c.loop-place in
    let all_done : l.place ≡ a.count = omega (arith, l.invariant.within, c.loop-place-test.false) in
    done a.party a.count a.records.now c.requires.0 c.requires.1 (subst (Folding a.count a.records.now l.records l.places l.left) all_done l.invariant)
