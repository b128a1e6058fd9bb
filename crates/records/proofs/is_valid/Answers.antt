-- The places before the count and those past it are tested each by its own loop. Assumes nothing.
use mathlib.Core.Path.{refl, ◌∙◌, ap, ap₂, subst, sym}
use mathlib.Core.Bool.{Bool, ◌&&◌, and-false}
use mathlib.Core.List.{List}
use borrow.Author.Tests.{le-leb, lt-leb, eq-eqb}
use lib.Dec.{T, eqb}
use lib.ListN.{length}
use Rattle.record.specs.Record.{is_free, may_stand, fits64}
use Rattle.record.specs.declared.Record.{Record}
use Rattle.records.specs.Journal.{all, standing, valid_of}
use Rattle.records.proofs.is_valid.Goals as goal

pub returns-in_default : goal.returns-in_default
unfolding valid_of
returns-in_default c =
    let n = length c.args.records.now in
    (rw (lt-leb c.args.count n c.in_default.ensures.cases, and-false (eqb n n)), λ e. absurd (subst T (sym e) tt))

pub returns : goal.returns
unfolding valid_of standing
returns c =
    let a = c.args in
    let rs = a.records.now in
    let split = c.in-Some.ensures.cases in
    let stand = c.all_stand.ensures.0 ∙ ap (all (may_stand a.party)) split.1 in
    let free = c.all_free.ensures ∙ ap (all is_free) split.2 in (
      rw (eq-eqb (length rs) (length rs) refl, le-leb a.count (length rs) split.0) (ap₂ (λ (t u : Bool). t && u) stand free),
      λ _. subst (λ (qs : List Record). T (all fits64 qs)) split.1 c.all_stand.ensures.1,
    )
