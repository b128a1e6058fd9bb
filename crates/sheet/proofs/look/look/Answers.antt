-- Its tests are those of loading. Assumes nothing.
use mathlib.Core.Path.{◌≡◌, ap, ◌∙◌}
use mathlib.Core.List.{List}
use mathlib.Core.Option.{Option, none, some}
use Prim.Native.Nat.{ℕ, ◌≤◌, ◌<◌}
use native.Mathlib.Omega.{arith}
use borrow.Author.Tests.{le-leb, lt-leb}
use lib.ListN.{length}
use Rattle.std.specs.Prelude.{Result, Ok, Err}
use Rattle.std.proofs.lemmas.Result.{err_from_is_err_and}
use Rattle.answer.specs.Answer.{number_of, accepted, full}
use Rattle.answer.specs.declared.Refusal.{Refusal}
use Rattle.answer.specs.declared.Refusal.TheVariants.{BadSheet}
use Rattle.record.specs.declared.Record.{Record}
use Rattle.records.specs.Journal.{Journal, limit}
use Rattle.sheet.specs.Load.{records_in, loaded_with, load_of}
use Rattle.sheet.specs.inner.Finds.{Finds}
use Rattle.sheet.specs.declared.look.Found.{Found}
use Rattle.sheet.proofs.look.look.Goals as goal

-- nothing is found where the text gives no records
no_found : {f : Found} → ◌≡◌ {A = Result Found Refusal} (Ok f) (Err BadSheet) → ⊥
no_found e = let z : ◌≡◌ {A = ℕ} 0 1 = cc in omega arith

-- what was found, and the answer where there are places for the records or not
module _ (party : ℕ) (text : List ℕ) (places : ℕ) (given : Journal) where
  many : (f : Found) (o : Option (List Record)) → Finds party text o (Ok f) → places < f.count → full ≡ (loaded_with places given o).answer
  many f none s h = absurd (no_found s)
  many f (some rs) s h = rw (lt-leb (length rs) places (omega (arith, h, s.counts)))

  few : (f : Found) (o : Option (List Record)) → Finds party text o (Ok f) → f.count ≤ places → accepted ≡ (loaded_with places given o).answer
  few f none s h = absurd (no_found s)
  few f (some rs) s h = rw (le-leb (length rs) places (omega (arith, h, s.counts)))

  refused : (e : Refusal) (o : Option (List Record)) → Finds party text o (Err e) → number_of e ≡ (loaded_with places given o).answer
  refused e none s = let is : e ≡ BadSheet = cc in ap number_of is
  refused e (some rs) s = absurd s

pub returns-then-not-valid : goal.returns-then-not-valid
unfolding load_of
returns-then-not-valid c = record { answers = λ given v. rw (v ∙ c.if-not-valid.true); gives = λ rs q. tt }

pub returns-in_err-found : goal.returns-in_err-found
unfolding load_of
returns-in_err-found c =
    let a = c.args in
    let reason = err_from_is_err_and c.from_residual.result c.from_residual.ensures.1 in
    rw (reason.1, reason.2) (record {
      answers = λ given v. rw (v ∙ c.if-not-valid.false) (refused a.party a.text.now a.places given c.in_err-found.field-0.0 (records_in limit a.party a.text.now) c.in_err-found.ensures);
      gives = λ rs q. tt;
    })

pub returns-then-places-found : goal.returns-then-places-found
unfolding load_of
returns-then-places-found c =
    let a = c.args in
    record {
      answers = λ given v. rw (v ∙ c.if-not-valid.false) (many a.party a.text.now a.places given c.in_ok-found.found (records_in limit a.party a.text.now) c.in_ok-found.ensures c.if-places-found.true);
      gives = λ rs q. tt;
    }

pub returns : goal.returns
unfolding load_of
returns c =
    let a = c.args in
    record {
      answers = λ given v. rw (v ∙ c.if-not-valid.false) (few a.party a.text.now a.places given c.in_ok-found.found (records_in limit a.party a.text.now) c.in_ok-found.ensures c.if-places-found.false);
      gives = λ rs q. rw q at c.in_ok-found.ensures;
    }
