-- The plan's bundle is written and its record kept, in the party's part of the slice. Assumes nothing.
use mathlib.Core.Path.{◌∙◌, ap}
use Prim.Native.Nat.{◌+◌, ◌-◌}
use borrow.Rule.Slice.PartMut.{put_mid}
use lib.ListN.{set, length-set}
use Rattle.answer.specs.Answer.{accepted}
use Rattle.records.specs.Journal.{Journal}
use Rattle.records.specs.Shared.{sharing, places_of, served_of}
use Rattle.records.specs.inner.Shows.{as_own_view}
use Rattle.records.proofs.Sharing.{part-put}
use Rattle.records.proofs.Standing.{valid-places}
use Rattle.journal.proofs.carry_out.Goals as goal

pub returns : goal.returns
returns c =
    let a = c.args in
    let rs = a.records.now in
    let s = sharing a.counts rs in
    let j = served_of s a.party in
    let k = a.own.first + a.own.places - a.own.first in
    let part = c.requires.0.part c.requires.1 in
    let code = c.rewrite.ensures in
    let kept = c.put.ensures ∙ ap (λ (q : Journal). set q.records a.plan.place a.plan.kept) part.is-lent in
    let long =
    length-set j.records a.plan.place a.plan.kept
    ∙ valid-places a.party (places_of a.counts.parties a.party) j part.valid in
    let journal =
    (λ i. sharing (c.with_count.ensures i) (put_mid a.own.first k rs (kept i)))
    ∙ part-put a.counts rs a.party (as_own_view a.own) c.requires.0.is part.served a.plan.count (set j.records a.plan.place a.plan.kept) long in
    λ i. record { answer = accepted; journal = journal i; code = code i }
