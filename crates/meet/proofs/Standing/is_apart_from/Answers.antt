-- `is_apart_from` meets its contract: the parts that were passed are apart from the bits, so those that are left decide.
use Rattle.std.proofs.Common.{◌≡◌, ℕ, Bool, sym, refl, ◌∙◌}
use Rattle.bits.specs.Parts.{apart, apart_from}
use Rattle.parts.proofs.Steps.{reads}
use Rattle.meet.proofs.Turns.{passed, stopped}
use Rattle.meet.proofs.Standing.is_apart_from.Goals as goal

pub of-requires : goal.of-requires
of-requires c =
    let s = c.args.self in
    (s.in_bundle.0, reads s.parts.now c.loop-part.part-index c.loop-part-test.true s.in_bundle.1)

pub returns-then-not-is_apart : goal.returns-then-not-is_apart
returns-then-not-is_apart c =
    let s = c.args.self in
    let bits : ℕ × ℕ = (c.args.bits.at, c.args.bits.width) in
    let found : Bool = c.is_apart.result in
    let t : found ≡ apart bits (c.of.result.at, c.of.result.width) = c.is_apart.ensures in
    sym
    (c.loop-part.invariant
    ∙ stopped s.slot s.parts.now c.loop-part.part-index c.loop-part-test.true (apart bits) (apart_from bits) (λ p ps. refl) _ c.of.ensures _ t c.if-not-is_apart.true)

pub loop-part-preserved : goal.loop-part-preserved
loop-part-preserved c =
    let s = c.args.self in
    let bits : ℕ × ℕ = (c.args.bits.at, c.args.bits.width) in
    let found : Bool = c.is_apart.result in
    let t : found ≡ apart bits (c.of.result.at, c.of.result.width) = c.is_apart.ensures in
    c.loop-part.invariant
    ∙ passed s.slot s.parts.now c.loop-part.part-index c.loop-part-test.true (apart bits) (apart_from bits) (λ p ps. refl) _ c.of.ensures _ t c.if-not-is_apart.false
