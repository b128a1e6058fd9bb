-- Two outcomes that a contract about a whole text allows for one input are equal: a sheet's, a listing's, any that is `wrote_of`. Such a
-- contract is an equation with one definition, and what a call hands back is told by it. Assumes nothing.
use mathlib.Core.Path.{◌≡◌, sym, ap}
use mathlib.Core.List.{List}
use Prim.Native.Nat.{ℕ}
use Rattle.std.specs.declared.result.Result.{Result}
use Rattle.std.specs.declared.result.Result.TheVariants.{Ok, Err}
use Rattle.answer.specs.Answer.{Reason}
use Rattle.answer.specs.declared.Refusal.{Refusal}
use Rattle.answer.proofs.Laws.{one-outcome, no-acceptance}
use Rattle.answer.proofs.Numbers.{same-refusal}
use Rattle.text.specs.Whole.{Written, as_written, wrote_of}

pub wrote-unique : (before : List Reason) (text out : List ℕ) {r s : Written × List ℕ} → r ≡ wrote_of before text out → s ≡ wrote_of before text out → r ≡ s
wrote-unique before text out = one-outcome

written-is : (r s : Result ℕ Refusal) → as_written r ≡ as_written s → r ≡ s
written-is (Ok length) (Ok other) e = ap (λ (w : Written). Ok w.length) e
written-is (Ok length) (Err refusal) e = absurd (no-acceptance refusal (sym (ap (λ (w : Written). w.answer) e)))
written-is (Err refusal) (Ok length) e = absurd (no-acceptance refusal (ap (λ (w : Written). w.answer) e))
written-is (Err refusal) (Err other) e = ap (λ (x : Refusal). Err x) (same-refusal refusal other (ap (λ (w : Written). w.answer) e))

pub handed-unique : (before : List Reason) (text out : List ℕ) {r s : Result ℕ Refusal} {out' out'' : List ℕ} → (as_written r, out') ≡ wrote_of before text out → (as_written s, out'') ≡ wrote_of before text out → (r ≡ s) × (out' ≡ out'')
handed-unique before text out {r} {s} e f =
    let same = wrote-unique before text out e f in
    (written-is r s (ap (λ (w : Written × List ℕ). w.0) same), ap (λ (w : Written × List ℕ). w.1) same)
