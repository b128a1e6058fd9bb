-- A list of known length is the list of its elements, so a slice that is read or written whole can be taken apart.
-- Assumes nothing.
use mathlib.Core.Path.{◌≡◌, refl, ap, ◌∙◌}
use mathlib.Core.List.{List, [], ◌∷◌, ◌++◌, append-nil}
use Prim.Native.Nat.{ℕ, zero, suc, ◌+◌, ◌-◌, ◌≤◌}
use native.Mathlib.Omega.{arith}
use lib.ListN.{length, get_or, take, drop, length-append, drop_of_length-le}
use lib.Seq.{sets, sets-eq, take_at, drop_at}

-- f 0, f 1, .. of which there are n
abbrev pub elements {ℓ} : {A : Type ℓ} → ℕ → (ℕ → A) → List A
elements zero f = []
elements (suc n) f = f 0 ∷ elements n (λ i. f (suc i))

whole {ℓ} : {A : Type ℓ} (l : List A) (d : A) → l ≡ elements (length l) (λ i. get_or l i d)
whole [] d = refl
whole (a ∷ l) d = ap (λ r. a ∷ r) (whole l d)

pub listed {ℓ} : {A : Type ℓ} (l : List A) (d : A) (n : ℕ) → length l ≡ n → l ≡ elements n (λ i. get_or l i d)
listed l d n h = whole l d ∙ ap (λ (k : ℕ). elements k (λ i. get_or l i d)) h

-- what is stored over a whole list is what stands there
pub overwritten {ℓ} : {A : Type ℓ} (l vs : List A) → length l ≡ length vs → sets l 0 vs ≡ vs
overwritten l vs h =
    let e : length l ≤ 0 + length vs = omega arith in
    let d : drop (0 + length vs) l ≡ [] = drop_of_length-le l e in
    sets-eq vs l 0 (omega arith) ∙ ap (λ r. vs ++ r) d ∙ append-nil vs

-- the first n elements overwritten by `a`, then all after them by `b`
pub overwritten-twice {ℓ} : {A : Type ℓ} (l a b : List A) (n : ℕ) → length a ≡ n
    → take n (a ++ drop n l) ++ (b ++ drop (length (a ++ drop n l) - n) (drop n (a ++ drop n l))) ≡ a ++ b
overwritten-twice l a b n h =
    let r = drop n l in
    let e : length r ≤ length (a ++ r) - n = simp length-append (omega arith) in
    rw (take_at a r n h, drop_at a r n h, drop_of_length-le r e) (ap (λ z. a ++ z) (append-nil b))
