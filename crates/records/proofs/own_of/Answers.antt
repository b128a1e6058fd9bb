-- A journal that doesn't serve the party shows nothing. Assumes nothing.
use mathlib.Core.Path.{◌∙◌, sym}
use mathlib.Core.Bool.{false≢true}
use Rattle.records.specs.Shared.{sharing, places_of}
use Rattle.records.proofs.Sharing.{not-shown, shows}
use Rattle.records.proofs.own_of.Goals as goal

pub returns-then-not-is_served : goal.returns-then-not-is_served
returns-then-not-is_served c =
    let a = c.args in
    let share = c.share_of-share.ensures in
    let no = sym c.is_served.ensures.0 ∙ c.if-not-is_served.true in
    let view = sym (not-shown (sharing a.counts a.records.now) a.party (places_of a.counts.parties a.party) no) in
    shows a.counts a.records.now a.party _ (λ i. record { first = (share i).first; places = (share i).places; view = view i })
    (λ served. absurd (false≢true (sym no ∙ served)))

pub returns : goal.returns
returns c =
    let a = c.args in
    shows a.counts a.records.now a.party _ c.own_served.ensures (λ _. c.is_served.ensures.1 c.if-not-is_served.false)
