-- `is_apart` meets its contract: the parts that were passed meet none of the other's, so those that are left decide.
use Rattle.std.proofs.Common.{◌≡◌, Bool, sym, refl, ◌∙◌}
use Rattle.bits.specs.Parts.{Parts, apart_from, meet_not}
use Rattle.parts.specs.Placed.{placed}
use Rattle.parts.proofs.Steps.{reads}
use Rattle.meet.proofs.Turns.{passed, stopped}
use Rattle.meet.proofs.Standing.is_apart.Goals as goal

pub of-bits-requires : goal.of-bits-requires
of-bits-requires c =
    let s = c.args.self in
    (s.in_bundle.0, reads s.parts.now c.loop-part.part-index c.loop-part-test.true s.in_bundle.1)

pub returns-then-not-is_apart_from : goal.returns-then-not-is_apart_from
returns-then-not-is_apart_from c =
    let s = c.args.self in
    let qs = placed c.args.other.slot c.args.other.parts.now in
    let found : Bool = c.is_apart_from.result in
    let t : found ≡ apart_from (c.of-bits.result.at, c.of-bits.result.width) qs = c.is_apart_from.ensures in
    sym
    (c.loop-part.invariant
    ∙ stopped s.slot s.parts.now c.loop-part.part-index c.loop-part-test.true (λ p. apart_from p qs) (λ (ps : Parts). meet_not ps qs) (λ p ps. refl) _ c.of-bits.ensures _ t
    c.if-not-is_apart_from.true)

pub loop-part-preserved : goal.loop-part-preserved
loop-part-preserved c =
    let s = c.args.self in
    let qs = placed c.args.other.slot c.args.other.parts.now in
    let found : Bool = c.is_apart_from.result in
    let t : found ≡ apart_from (c.of-bits.result.at, c.of-bits.result.width) qs = c.is_apart_from.ensures in
    c.loop-part.invariant
    ∙ passed s.slot s.parts.now c.loop-part.part-index c.loop-part-test.true (λ p. apart_from p qs) (λ (ps : Parts). meet_not ps qs) (λ p ps. refl) _ c.of-bits.ensures _ t
    c.if-not-is_apart_from.false
