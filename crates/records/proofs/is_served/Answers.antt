-- The lower and the upper part are each lent to the test of one party's journal. Assumes nothing.
use mathlib.Core.Path.{◌≡◌, refl, ◌∙◌, ap, ap₂, subst, sym}
use mathlib.Core.Bool.{Bool, true, false, ◌&&◌}
use mathlib.Core.List.{List}
use Prim.Native.Nat.{ℕ, ◌-◌}
use native.Mathlib.Omega.{arith}
use borrow.Author.Tests.{eqb-true, eqb-false}
use lib.Dec.{T, ltb}
use lib.ListN.{length, take, drop}
use Rattle.record.specs.Record.{fits64}
use Rattle.record.specs.declared.Record.{Record}
use Rattle.records.specs.Journal.{limit, lent, all, standing, valid_of}
use Rattle.records.specs.Shared.{sharing, seam, shared_valid, serves}
use Rattle.records.specs.declared.Counts.{Counts}
use Rattle.records.proofs.Sharing.{both, seam-within, serving, served-sized}
use Rattle.records.proofs.is_served.Goals as goal

not-sized : (c : Counts) (rs : List Record) (party : ℕ) → (length rs ≡ limit → ⊥) → false ≡ serves (sharing c rs) party
not-sized c rs party d =
    (elim (serves (sharing c rs) party) as (λ t. serves (sharing c rs) party ≡ t → false ≡ t)
    [ true ↦ λ e. absurd (d (served-sized c rs party (serving (sharing c rs) party e))) | false ↦ λ e. refl ]) refl

pub returns-then-not-is_sized : goal.returns-then-not-is_sized
returns-then-not-is_sized c =
    let a = c.args in
    let no = eqb-false _ limit (sym c.is_sized.ensures ∙ c.if-not-is_sized.true) in
    (not-sized a.counts a.records.now a.party no, λ e. absurd (subst T (sym e) tt))

pub split_at-requires : goal.split_at-requires
split_at-requires c =
    let sized : length c.args.records.now ≡ limit = eqb-true _ limit (sym c.is_sized.ensures ∙ c.if-not-is_sized.false) in
    omega (arith, sized, c.seam_of.ensures, seam-within c.args.counts.parties)

-- what is told of a party's part
told : (party count places : ℕ) (rs part : List Record) (valid : Bool) → part ≡ rs → length part ≡ places
    → (valid ≡ valid_of party (length part) (lent count part)) × (valid ≡ true → T (all fits64 (standing (lent count part))))
    → (valid ≡ valid_of party places (lent count rs)) × (valid ≡ true → T (all fits64 (standing (lent count rs))))
told party count places rs part valid is long t = (
  t.0 ∙ ap₂ (λ (n : ℕ) (qs : List Record). valid_of party n (lent count qs)) long is,
  λ e. subst (λ (qs : List Record). T (all fits64 (standing (lent count qs)))) is (t.1 e),
)

pub returns : goal.returns
unfolding serves shared_valid
returns c =
    let a = c.args in
    let rs = a.records.now in
    let n = seam a.counts.parties in
    let split = c.split_at.ensures in
    let same : c.seam_of.result ≡ n = c.seam_of.ensures in
    let sized : length rs ≡ limit = eqb-true _ limit (sym c.is_sized.ensures ∙ c.if-not-is_sized.false) in
    let long : length c.split_at.result.1.now ≡ limit - n = omega (arith, split.back_len, same, sized) in
    let lower = told 0 a.counts.lower n _ _ _ (split.front ∙ ap (λ (m : ℕ). take m rs) same) (split.front_len ∙ same) c.is_valid.ensures in
    let upper = told 1 a.counts.upper (limit - n) _ _ _ (split.back ∙ ap (λ (m : ℕ). drop m rs) same) long c.is_valid-2.ensures in (
      (λ i. c.is_opened.ensures i && lower.0 i && upper.0 i && ltb a.party a.counts.parties),
      λ e.
          let parts = both (c.is_opened.result && c.is_valid.result) c.is_valid-2.result (both _ (ltb a.party a.counts.parties) e).0 in
          record { lower = lower.1 (both c.is_opened.result c.is_valid.result parts.0).1; upper = upper.1 parts.1 },
    )
