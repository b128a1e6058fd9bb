-- `cut_halves` meets its contract: each return is a case of what the halves' number is cut into.
use Rattle.std.proofs.Common.{◌∙◌, ap, sym}
use Rattle.answer.specs.Answer.{accepted, bad_bundle}
use Rattle.bundle.specs.Bundle.{whole, slots_of, tag_of}
use Rattle.bundle.specs.Template.{unitless, reserved_template}
use Rattle.bundle.specs.declared.template.Template.{Template}
use Rattle.bundle.proofs.Laws.{cut-reserved, cut-done}
use Rattle.bundle.proofs.Templates.{reserved-is}
use Rattle.bundle.proofs.cut_halves.Goals as goal

pub returns-then-unitless : goal.returns-then-unitless
returns-then-unitless c =
    let n = whole c.args.halves in
    let template = c.template_of-template.ensures in
    let reserved = sym (c.unitless.ensures ∙ ap (λ (t : Template). unitless t.units) template) ∙ c.if-unitless.true in
    let is = ap (λ (t : Template). reserved_template t.tag) template ∙ reserved-is (tag_of n) reserved in
    ap (λ (t : Template). record { answer = bad_bundle; template = t; slots = slots_of 0 }) is ∙ sym (cut-reserved n reserved)

pub returns : goal.returns
returns c =
    let template = c.template_of-template.ensures in
    let tested = c.unitless.ensures ∙ ap (λ (t : Template). unitless t.units) template in
    let slots = c.slots-slots.ensures in
    (λ i. record { answer = accepted; template = template i; slots = slots i }) ∙ sym (cut-done (whole c.args.halves) (sym tested ∙ c.if-unitless.false))
