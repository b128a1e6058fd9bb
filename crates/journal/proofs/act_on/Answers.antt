-- An act's plan, carried out, is the act; and a journal that served the party serves it after the act, or a refused one left it as it was.
-- Assumes nothing.
use mathlib.Core.Path.{◌≡◌, ◌∙◌, ap, subst, sym}
use mathlib.Core.Bool.{true}
use mathlib.Core.List.{List}
use Prim.Native.Nat.{ℕ}
use borrow.Author.Rules.{rules}
use Rattle.std.proofs.Common.{Result}
use Rattle.std.proofs.lemmas.Result.{err_from_is_err_and}
use Rattle.answer.specs.Answer.{number_of}
use Rattle.answer.proofs.Laws.{refuses, no-acceptance}
use Rattle.bundle.proofs.Bytes.{Bytes}
use Rattle.record.specs.declared.Record.{Record}
use Rattle.records.specs.Shared.{Shared, sharing, with_own, serves, served_of}
use Rattle.records.specs.inner.Shows.{OwnView, as_own_view, own_view}
use Rattle.records.specs.declared.Counts.{Counts}
use Rattle.records.proofs.Sharing.{shows_part}
use Rattle.journal.specs.Edit.{SharedOutcome, by_party, act_by}
use Rattle.journal.specs.inner.Plan.{plan_of, carried_out}
use Rattle.journal.specs.declared.Act.{Act}
use Rattle.journal.specs.declared.plan.Plan.{Plan}
use Rattle.journal.proofs.Kept.{act-serves}
use Rattle.journal.proofs.Laws.{act-taken, act-carried}
use Rattle.journal.proofs.act_on.Goals as goal

-- the plan is carried out
module _ (code : List ℕ) (counts : Counts) (rs : List Record) (party : ℕ) (own : OwnView) (act : Act) (bytes : Bytes code) (shown : own ≡ own_view (sharing counts rs) party)
    (plan : Result Plan ℕ) (planned : plan ≡ plan_of party code own act) where
  abbrev given : Shared
  given = sharing counts rs

  -- which is the act
  done : by_party given party (carried_out code (served_of given party) plan) ≡ act_by code given party act
  done =
      ap (λ (plan : Result Plan ℕ). by_party given party (carried_out code (served_of given party) plan)) (planned ∙ ap (λ (own : OwnView). plan_of party code own act) shown)
      ∙ act-carried party code bytes given act

pub carry_out-counts-requires : goal.carry_out-counts-requires
carry_out-counts-requires c =
    let a = c.args in
    let taken = act-taken a.party a.code.now (as_own_view a.own) a.act c.in_ok-plan.plan (sym c.in_ok-plan.ensures) in
    (c.requires, taken.0, taken.1)

pub own_served-own-requires : goal.own_served-own-requires
own_served-own-requires c =
    let a = c.args in
    let bytes : Bytes a.code.now = λ i. search rules in
    let is = c.carry_out-counts.ensures ∙ done a.code.now a.counts a.records.now a.party (as_own_view a.own) a.act bytes c.requires.is _ c.in_ok-plan.ensures in
    subst (λ (s : Shared). serves s a.party ≡ true) (sym (ap (λ (o : SharedOutcome). o.journal) is))
    (act-serves a.party a.code.now (sharing a.counts a.records.now) a.act bytes (sym (ap (λ (o : SharedOutcome). o.answer) is)))

pub returns-in_err-plan : goal.returns-in_err-plan
returns-in_err-plan c =
    let a = c.args in
    let bytes : Bytes a.code.now = λ i. search rules in
    let reason = err_from_is_err_and c.from_residual.result c.from_residual.ensures.1 in
    let given = sharing a.counts a.records.now in
    let n = number_of c.in_err-plan.field-0.0 in
    let left = sym (refuses n (with_own given a.party (served_of given a.party)) given (no-acceptance c.in_err-plan.field-0.0)) in
    rw (reason.1, reason.2) (
      (λ i. record { answer = n; journal = left i; code = a.code.now })
          ∙ done a.code.now a.counts a.records.now a.party (as_own_view a.own) a.act bytes c.requires.is _ c.in_err-plan.ensures,
      c.requires,
    )

pub returns : goal.returns
returns c =
    let a = c.args in
    let bytes : Bytes a.code.now = λ i. search rules in (
      c.carry_out-counts.ensures ∙ done a.code.now a.counts a.records.now a.party (as_own_view a.own) a.act bytes c.requires.is _ c.in_ok-plan.ensures,
      shows_part _ _ _ _ c.own_served-own.ensures,
    )
