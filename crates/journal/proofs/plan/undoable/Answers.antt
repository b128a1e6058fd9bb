-- Each return has the tests that led there. Assumes nothing.
use mathlib.Core.Path.{◌≡◌, ◌∙◌, ap, sym}
use mathlib.Core.Bool.{Bool, not, cond}
use mathlib.Core.List.{List, []}
use Prim.Native.Nat.{ℕ, ◌+◌, ◌*◌, ◌≤◌}
use borrow.Author.Rules.{rules}
use borrow.Author.Tests.{lt-ltb, le-ltb, ne_eqb}
use lib.ListN.{length, drop}
use Rattle.std.proofs.Common.{Option, Some, Ok, Err}
use Rattle.std.proofs.lemmas.Result.{err_from_is_err_and}
use Rattle.answer.specs.Answer.{accepted, first, number_of, stale}
use Rattle.answer.specs.declared.Refusal.{Refusal}
use Rattle.answer.proofs.Laws.{no-acceptance}
use Rattle.bundle.specs.Bundle.{longest_code, find_answer, as_loaded, loaded_of}
use Rattle.bundle.specs.declared.half.Halves.{Halves}
use Rattle.bundle.proofs.Bytes.{Bytes}
use Rattle.bundle.proofs.Loading.{loading}
use Rattle.bundle.proofs.Lies.{lies, past_the_end}
use Rattle.record.specs.Record.{same_halves}
use Rattle.records.specs.inner.Shows.{as_shown}
use Rattle.records.specs.declared.View.{View}
use Rattle.journal.specs.Edit.{undo_refusals}
use Rattle.journal.proofs.Laws.{load-halves}
use Rattle.journal.proofs.plan.undoable.Goals as goal

module _ (code : List ℕ) (shown : Option View) (view : View) (shows : shown ≡ Some view) (short : length code ≤ longest_code) (some : view.count ≡ 0 → ⊥) (bytes : Bytes code) where
  abbrev answer : ℕ
  answer = first (undo_refusals code (as_shown shown))

  -- the refusals of the last record, where the others don't apply
  of-last : answer ≡ first (drop 3 (undo_refusals code (as_shown (Some view))))
  of-last = ap (λ (v : Option View). first (undo_refusals code (as_shown v))) shows ∙ rw (le-ltb _ _ short, ne_eqb view.count 0 some)

  missing : (refusal : Refusal) → as_loaded (Err refusal) ≡ loaded_of code view.last.bundle → number_of refusal ≡ answer
  unfolding find_answer
  missing refusal is =
      let k = view.last.bundle in
      let none = (loading code k bytes is).answer in
      let out = past_the_end code k short (λ q. no-acceptance refusal (none ∙ q)) in
      let one : find_answer code k ≡ 1 = rw (le-ltb _ _ short, lt-ltb (length code) (16 * k + 16) out) in
      none ∙ one ∙ sym (of-last ∙ rw (lt-ltb (length code) (16 * k + 16) out))

  -- once the bundle is found, what is left is whether it is the record's new one
  of-found : (present : Halves) → as_loaded (Ok present) ≡ loaded_of code view.last.bundle → cond (not (same_halves present view.last.new)) stale accepted ≡ answer
  of-found present is =
      let found = sym (loading code view.last.bundle bytes is).answer in
      ap (λ (x : Halves). cond (not (same_halves x view.last.new)) stale accepted) (load-halves code view.last.bundle bytes [] present is)
      ∙ sym (of-last ∙ rw (le-ltb _ _ (lies _ _ found).within))

pub returns-in_err-present : goal.returns-in_err-present
returns-in_err-present c =
    let a = c.args in
    let bytes : Bytes a.code.now = λ i. search rules in
    let reason = err_from_is_err_and c.from_residual.result c.from_residual.ensures.1 in
    let is = missing a.code.now a.view _ c.in-Some.is c.if-code-gt-LONGEST_CODE.false c.if-view-eq0.false bytes _ c.in_err-present.ensures in
    rw (reason.1, reason.2) (record { answer = is; shown = tt })

pub returns-then-ne-clause-answer : goal.returns-then-ne-clause-answer
returns-then-ne-clause-answer c =
    let a = c.args in
    let bytes : Bytes a.code.now = λ i. search rules in
    ap (λ (t : Bool). cond t stale accepted) (sym c.if-ne.true ∙ c.ne.ensures)
    ∙ of-found a.code.now a.view _ c.in-Some.is c.if-code-gt-LONGEST_CODE.false c.if-view-eq0.false bytes _ c.in_ok-present.ensures

pub returns-clause-answer : goal.returns-clause-answer
returns-clause-answer c =
    let a = c.args in
    let bytes : Bytes a.code.now = λ i. search rules in
    ap (λ (t : Bool). cond t stale accepted) (sym c.if-ne.false ∙ c.ne.ensures)
    ∙ of-found a.code.now a.view _ c.in-Some.is c.if-code-gt-LONGEST_CODE.false c.if-view-eq0.false bytes _ c.in_ok-present.ensures
