-- What was found is written into the party's part, and nothing where none was. Assumes nothing.
use mathlib.Core.Path.{◌≡◌, refl, sym, ap, ◌∙◌}
use mathlib.Core.List.{List}
use Prim.Native.Nat.{ℕ, ◌+◌, ◌-◌}
use native.Mathlib.Omega.{arith}
use borrow.Author.Tests.{ne_eqb}
use borrow.Rule.Slice.PartMut.{mid_of, put_mid}
use lib.ListN.{length}
use Rattle.std.specs.Prelude.{Result, Ok, Err, Option, Some, None, is_some}
use Rattle.std.proofs.lemmas.Result.{err_from_is_err_and}
use Rattle.answer.specs.Answer.{number_of, answer_of, accepted}
use Rattle.answer.specs.declared.Refusal.{Refusal}
use Rattle.answer.proofs.Laws.{no-acceptance}
use Rattle.records.specs.declared.View.{View}
use Rattle.record.specs.declared.Record.{Record}
use Rattle.records.specs.Journal.{Journal, limit, journal_of}
use Rattle.records.specs.Shared.{sharing, places_of, served_of}
use Rattle.records.specs.inner.Shows.{OwnView, as_shown, with_count, Lent, Shows}
use Rattle.records.specs.declared.Counts.{Counts}
use Rattle.records.proofs.Sharing.{part-put}
use Rattle.records.proofs.Standing.{journal-places, valid-places}
use Rattle.journal.specs.Edit.{journal_outcome_of}
use Rattle.sheet.specs.Load.{load_of, load_by}
use Rattle.sheet.specs.inner.Finds.{FindsFor, Fills}
use Rattle.sheet.specs.declared.look.Found.{Found}
use Rattle.sheet.proofs.Inverse.{Taken, load-taken}
use Rattle.sheet.proofs.load.Goals as goal

-- a view is shown just where there is one
shown-some : (v : Option View) → is_some v ≡ (as_shown v).valid
shown-some None = refl
shown-some (Some v) = refl

-- what is found for the part that is shown
module _ {c : Counts} {rs : List Record} {party : ℕ} {o : OwnView} (shows : Shows c rs party o) where
  abbrev places : ℕ
  places = places_of c.parties party

  abbrev journal : Journal
  journal = served_of (sharing c rs) party

  module _ {text : List ℕ} where
    answers : {found : Result Found Refusal} → FindsFor party o.view.valid o.places text found → answer_of found ≡ (load_of limit party places journal text).answer
    answers finds =
        let is : o.places ≡ places = ap (λ (o : OwnView). o.places) shows.is in
        rw is at (finds.answers journal (rw is (sym shows.valid-is)))

    refused : {e : Refusal} → FindsFor party o.view.valid o.places text (Err e) → journal_outcome_of (Err e) c rs ≡ load_by (sharing c rs) party text
    refused {e} finds = rw (← answers finds, ne_eqb (number_of e) accepted (no-acceptance e))

    module _ {f : Found} (finds : FindsFor party o.view.valid o.places text (Ok f)) where
      taken : Taken limit party places journal text
      taken = load-taken limit party places journal text (sym (answers finds))

      part : Lent c rs party o
      part = shows.part (shows.valid-is ∙ taken.valid)

      filled : (counts : Counts) (out : List Record) → counts ≡ with_count c party f.count → Fills party text f (mid_of o.first (o.first + o.places - o.first) rs) out
          → journal_outcome_of (Ok counts) c (put_mid o.first (o.first + o.places - o.first) rs out) ≡ load_by (sharing c rs) party text
      unfolding journal_of
      filled counts out count fills =
          let qs = taken.records in
          let g = finds.gives qs taken.gives in
          let many = ap (λ (j : Journal). length j.records) part.is-lent ∙ valid-places party places journal part.valid in
          let is = fills qs g (omega (arith, many, taken.few)) ∙ ap (λ (n : ℕ). (journal_of n qs).records) many in
          let journal-is =
          (λ i. sharing ((count ∙ ap (with_count c party) g.counts) i) (put_mid o.first (o.first + o.places - o.first) rs (is i)))
          ∙ part-put c rs party o shows.is part.served (length qs) (journal_of places qs).records (journal-places places qs taken.few) in
          (λ i. record { answer = accepted; journal = journal-is i }) ∙ rw taken.is

pub slice_bounds-fill-end : goal.slice_bounds-fill-end
slice_bounds-fill-end c = (part c.own_of-own.ensures (rw (c.is_some.ensures ∙ shown-some c.own_of-own.result.view) at c.in_ok-found.ensures)).within

pub returns-in_err-found : goal.returns-in_err-found
returns-in_err-found c =
    let reason = err_from_is_err_and c.from_residual.result c.from_residual.ensures.1 in
    rw (reason.1, reason.2) (refused c.own_of-own.ensures (rw (c.is_some.ensures ∙ shown-some c.own_of-own.result.view) at c.in_err-found.ensures))

pub returns : goal.returns
returns c =
    filled c.own_of-own.ensures (rw (c.is_some.ensures ∙ shown-some c.own_of-own.result.view) at c.in_ok-found.ensures) _ _ c.with_count.ensures c.fill.ensures
