-- A function's needs, answered together: n of them in a row are one product, so that one `search needs` answers them all.
-- By induction on n. Assumes nothing.
use Prim.Native.Nat.{ℕ, zero, suc}

-- n needs and, last, what their answers lead to
abbrev pub Needs {ℓ} : ℕ → Type (ℓ + 1)
Needs zero = Type ℓ
Needs (suc n) = Type 0 × Needs n

-- an answer to each
abbrev pub Answers {ℓ} : (n : ℕ) → Needs {ℓ} n → Type 0
Answers zero end = Unit {0}
Answers (suc n) needs = needs.0 × Answers n needs.1

-- what they lead to
abbrev pub End {ℓ} : (n : ℕ) → Needs {ℓ} n → Type ℓ
End zero end = end
End (suc n) needs = End n needs.1

-- a proof of it that takes the answers one by one
abbrev pub OneByOne {ℓ} : (n : ℕ) → Needs {ℓ} n → Type ℓ
OneByOne zero end = end
OneByOne (suc n) needs = needs.0 → OneByOne n needs.1

pub together {ℓ} : (n : ℕ) (needs : Needs {ℓ} n) → OneByOne n needs → Answers n needs → End n needs
together zero end proof _ = proof
together (suc n) needs proof (answer, rest) = together n needs.1 (proof answer) rest
