-- What the contract of a call on the records allows for one input is one answer, with the same counts and records and, of a call that has a
-- code, the same code: each contract is an equation with one definition, and a shared journal says what its counts and records are. Assumes
-- nothing.
use mathlib.Core.Path.{◌≡◌, sym, ap, ◌∙◌}
use mathlib.Core.List.{List}
use Prim.Native.Nat.{ℕ}
use Rattle.std.proofs.Common.{Result, Ok, Err}
use Rattle.answer.specs.Answer.{answer_of}
use Rattle.answer.specs.declared.Refusal.{Refusal}
use Rattle.answer.proofs.Laws.{no-acceptance}
use Rattle.answer.proofs.Numbers.{same-refusal}
use Rattle.record.specs.declared.Record.{Record}
use Rattle.records.specs.declared.Counts.{Counts}
use Rattle.records.proofs.Sharing.{sharing-injective}
use Rattle.journal.specs.Edit.{SharedOutcome, counts_after, outcome_of, SharedJournalOutcome, journal_outcome_of}

result-is : (given : Counts) (r s : Result Counts Refusal) → answer_of r ≡ answer_of s → counts_after given r ≡ counts_after given s → r ≡ s
result-is given (Ok counts) (Ok others) answer same = ap (λ (c : Counts). Ok c) same
result-is given (Ok counts) (Err refusal) answer same = absurd (no-acceptance refusal (sym answer))
result-is given (Err refusal) (Ok counts) answer same = absurd (no-acceptance refusal answer)
result-is given (Err refusal) (Err other) answer same = ap (λ (x : Refusal). Err x) (same-refusal refusal other answer)

pub journal-unique : {o : SharedJournalOutcome} (r s : Result Counts Refusal) (given : Counts) (rs qs : List Record) → journal_outcome_of r given rs ≡ o → journal_outcome_of s given qs ≡ o
    → (r ≡ s) × (rs ≡ qs)
journal-unique r s given rs qs e f =
    let same = e ∙ sym f in
    let answer = ap (λ (o : SharedJournalOutcome). o.answer) same in
    let kept = sharing-injective (counts_after given r) (counts_after given s) rs qs (ap (λ (o : SharedJournalOutcome). o.journal) same) in
    (result-is given r s answer kept.0, kept.1)

pub outcome-unique : {o : SharedOutcome} (r s : Result Counts Refusal) (given : Counts) (rs qs : List Record) (code other : List ℕ)
    → outcome_of r given rs code ≡ o → outcome_of s given qs other ≡ o → (r ≡ s) × (rs ≡ qs) × (code ≡ other)
outcome-unique {o} r s given rs qs code other e f =
    let kept : SharedOutcome → SharedJournalOutcome = λ o. record { answer = o.answer; journal = o.journal } in
    let same = journal-unique r s given rs qs (ap kept e) (ap kept f) in
    (same.0, same.1, ap (λ (o : SharedOutcome). o.code) (e ∙ sym f))
