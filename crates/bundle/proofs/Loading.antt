-- What a caller of `load` knows of its outcome: the answer is finding's, and where it accepts, the halves are the bundle's number, which
-- sixteen bytes keep below 2 ^ 128. Assumes nothing.
use mathlib.Core.Path.{◌≡◌, sym, ap, ◌∙◌}
use mathlib.Core.List.{List}
use Prim.Native.Nat.{ℕ}
use Rattle.answer.specs.Answer.{accepted}
use Rattle.bundle.specs.Bundle.{number_at, find_answer, whole, Loaded, loaded_of}
use Rattle.bundle.proofs.Bytes.{Bytes}
use Rattle.bundle.proofs.Whole.{whole-halves}
use Rattle.bundle.proofs.Laws.{loaded_found, number-at-lt}

pub record Loading (code : List ℕ) (k : ℕ) (loaded : Loaded) : Type 0 where
  pub answer : loaded.answer ≡ find_answer code k
  pub number : loaded.answer ≡ accepted → whole loaded.halves ≡ number_at code k

pub loading : (code : List ℕ) (k : ℕ) {loaded : Loaded} → Bytes code → loaded ≡ loaded_of code k → Loading code k loaded
unfolding loaded_of
loading code k {loaded} b is =
    let answer = ap (λ (l : Loaded). l.answer) is in
    record {
      answer = answer;
      number = λ a.
          let found = sym answer ∙ a in
          ap (λ (l : Loaded). whole l.halves) (is ∙ loaded_found code k found) ∙ whole-halves (number_at code k) (number-at-lt code k found b);
    }
