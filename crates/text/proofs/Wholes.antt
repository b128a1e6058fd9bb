-- The cases of a call that writes a whole text, from what its code did. Each takes the list of refusals as far as it goes.
-- Assumes nothing.
use mathlib.Core.Path.{◌≡◌, sym, ◌∙◌, subst}
use mathlib.Core.Bool.{Bool, true, false, cond}
use mathlib.Core.List.{List, [], ◌++◌}
use Prim.Native.Nat.{ℕ, ◌^◌, ◌≤◌, ◌<◌}
use native.Mathlib.Omega.{arith}
use lib.Dec.{T, eqb}
use lib.ListN.{length, drop, length-append}
use borrow.Author.Tests.{lt-ltb, le-ltb}
use Rattle.answer.specs.Answer.{Reason, first, accepted, no_room}
use Rattle.answer.proofs.Laws.{numbered, first_on, first-stop, refuses}
use Rattle.text.specs.Put.{Put}
use Rattle.text.specs.Whole.{Written, whole_refusals, wrote_of}
use Rattle.text.proofs.Writing.{written_start}

module _ (before : List Reason) (text out : List ℕ) where
  pub whole-refused : (a : ℕ) → first before ≡ a → (a ≡ accepted → ⊥) → (record { answer = a; length = 0 }, out) ≡ wrote_of before text out
  unfolding wrote_of
  whole-refused a e d =
      let f : first (whole_refusals before text out) ≡ a = first-stop before _ (λ q. d (sym e ∙ q)) ∙ e in
      rw f (sym (refuses a _ _ d))

  module _ (n : T (numbered before)) (none : first before ≡ accepted) where
    pub whole-no-room : length out < length text → (record { answer = no_room; length = 0 }, out) ≡ wrote_of before text out
    unfolding wrote_of
    whole-no-room h = rw (first_on before _ n none, lt-ltb (length out) (length text) h)

    pub whole-put : {out' : List ℕ} {next : ℕ} → length out < 2 ^ 64 → length text ≤ length out → Put out 0 text out' next → (record { answer = accepted; length = next }, out') ≡ wrote_of before text out
    unfolding wrote_of
    whole-put {next = next} b h p =
        let e : next ≡ length text = omega (arith, p.place) in
        rw (first_on before _ n none, le-ltb (length out) (length text) h)
        (λ i. (record { answer = accepted; length = e i }, (p.bytes ∙ written_start out text h) i))

    pub whole-passed : wrote_of before text out ≡ wrote_of [] text out
    unfolding wrote_of
    whole-passed = rw (first_on before _ n none)

-- the length that is answered lies in the output that is left
within : (t : Bool) (a : ℕ) (text out : List ℕ) → let w : Written × List ℕ = cond t (record { answer = a; length = length text }, text ++ drop (length text) out) (record { answer = a; length = 0 }, out) in w.0.length ≤ length w.1
within true a text out = rw length-append (omega arith)
within false a text out = omega arith

pub whole-within : (before : List Reason) (text out : List ℕ) {w : Written × List ℕ} → w ≡ wrote_of before text out → w.0.length ≤ length w.1
unfolding wrote_of
whole-within before text out e =
    let answer = first (whole_refusals before text out) in
    subst (λ (w : Written × List ℕ). w.0.length ≤ length w.1) (sym e) (within (eqb answer accepted) answer text out)
