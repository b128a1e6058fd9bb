-- A tag's share is added, as many times as it has bundles.
use Rattle.std.proofs.Common.{◌≡◌, ℕ, ◌+◌, ◌*◌, ◌≤◌, List, get_or, refl, sym, ap, arith}
use mathlib.Core.List.{map}
use native.Mathlib.Nat.{mul-le-mul}
use Rattle.tally.specs.Report.{sum, below}
use Rattle.tally.specs.inner.Share.{tag_shares}
use Rattle.tally.specs.declared.Shares.{Shares}
use Rattle.tally.proofs.Lists.{sum_more}
use Rattle.tally.proofs.shares_of.Goals as goal

more : (counts : List ℕ) (tag : ℕ) (w : ℕ → ℕ) (had one : ℕ) → had ≡ sum (map (λ t. get_or counts t 0 * w t) (below tag)) → one ≡ w tag
    → had + get_or counts tag 0 * one ≡ sum (map (λ t. get_or counts t 0 * w t) (below (tag + 1)))
more counts tag w had one h e = rw (h, e) (sym (sum_more (λ t. get_or counts t 0 * w t) tag))

-- what the bundles of a tag add
adds : (many one most : ℕ) → many ≤ 4096 → one ≤ most → most ≤ 3 → many * one ≤ 12288
adds many one most few o m = mul-le-mul {m₂ = 3} few (let h : one ≤ 3 = omega arith in h)

pub loop-tag-init : goal.loop-tag-init
unfolding below
loop-tag-init c = (refl, omega arith, refl, omega arith)

pub loop-tag-preserved : goal.loop-tag-preserved
loop-tag-preserved c =
    let l = c.loop-tag in
    let counts = c.args.counts.now in
    let few = c.requires l.tag c.loop-tag-test.true in
    let e = c.share-one.ensures in
    let ones : get_or counts l.tag 0 * c.share-one.result.reserved ≤ 12288 = adds (get_or counts l.tag 0) c.share-one.result.reserved 1 few e.1 (omega arith) in
    let threes : get_or counts l.tag 0 * c.share-one.result.stops ≤ 12288 = adds (get_or counts l.tag 0) c.share-one.result.stops 3 few e.2 (omega arith) in (
      more counts l.tag (λ t. (tag_shares t).reserved) l.reserved c.share-one.result.reserved l.invariant.0 (ap (λ (r : Shares). r.reserved) e.0),
      omega arith,
      more counts l.tag (λ t. (tag_shares t).stops) l.stops c.share-one.result.stops l.invariant.2 (ap (λ (r : Shares). r.stops) e.0),
      omega arith,
    )

pub returns : goal.returns
returns c =
    let l = c.loop-tag in
    let e : l.tag ≡ 32 = omega arith in
    let reserved-is = rw e at l.invariant.0 in
    let stops-is = rw e at l.invariant.2 in
    λ i. record { reserved = reserved-is i; stops = stops-is i }
