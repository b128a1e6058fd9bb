-- Two outcomes that a contract allows for one input are equal: each contract is an equation with one definition.
-- Assumes nothing.
use mathlib.Core.Path.{◌≡◌}
use mathlib.Core.List.{List}
use Prim.Native.Nat.{ℕ}
use Rattle.answer.proofs.Laws.{one-outcome}
use Rattle.bundle.specs.Bundle.{find_answer, find_of, Loaded, loaded_of, Cut, cut_of, join_of, Joined}

pub find-answer-unique : (code : List ℕ) (k : ℕ) {r s : ℕ} → r ≡ find_answer code k → s ≡ find_answer code k → r ≡ s
find-answer-unique code k = one-outcome

pub find-unique : (code : List ℕ) (k : ℕ) {r s : List ℕ} → r ≡ find_of code k → s ≡ find_of code k → r ≡ s
find-unique code k = one-outcome

pub load-unique : (code : List ℕ) (k : ℕ) {r s : Loaded} → r ≡ loaded_of code k → s ≡ loaded_of code k → r ≡ s
load-unique code k = one-outcome

pub cut-unique : (code : List ℕ) (k : ℕ) {r s : Cut} → r ≡ cut_of code k → s ≡ cut_of code k → r ≡ s
cut-unique code k = one-outcome

pub join-unique : (tag : ℕ) (slots out : List ℕ) {r s : Joined} → r ≡ join_of tag slots out → s ≡ join_of tag slots out → r ≡ s
join-unique tag slots out = one-outcome
