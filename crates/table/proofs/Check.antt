-- Computed checks: a test that antt computes at every number below a bound holds at each of them, and lists that it
-- finds the same are equal. Assumes nothing.
use mathlib.Core.Path.{◌≡◌, refl, subst, sym, ap₂}
use mathlib.Core.Bool.{Bool, true, false, ◌&&◌}
use mathlib.Core.List.{List, [], ◌∷◌}
use Prim.Native.Nat.{ℕ, zero, suc, ◌<◌}
use native.Mathlib.Nat.{not-suc-le-zero, le_of_suc-le-suc}
use native.Mathlib.Decide.{ℕ_discrete}
use lib.Dec.{T}
use lib.Arith.{lt_of_le-ne}
use mir.Facts.{and_yes}

-- the test passes at every number below n
abbrev pub below : (ℕ → Bool) → ℕ → Bool
below f zero = true
below f (suc n) = f n && below f n

pub checked : (f : ℕ → Bool) (n : ℕ) → T (below f n) → (k : ℕ) → k < n → T (f k)
checked f zero t k h = absurd (not-suc-le-zero h)
checked f (suc n) t k h =
    elim (ℕ_discrete k n) [
      | yes e ↦ subst (λ (x : ℕ). T (f x)) (sym e) (and_yes (f n) (below f n) t).0
      | no d ↦ checked f n (and_yes (f n) (below f n) t).1 k (lt_of_le-ne (le_of_suc-le-suc h) d)
    ]

-- the same elements in the same order, by a test of two elements
abbrev pub same {ℓ} : {A : Type ℓ} → (A → A → Bool) → List A → List A → Bool
same is [] [] = true
same is [] (y ∷ ys) = false
same is (x ∷ xs) [] = false
same is (x ∷ xs) (y ∷ ys) = is x y && same is xs ys

pub same→eq {ℓ} : {A : Type ℓ} (is : A → A → Bool) → ((x y : A) → T (is x y) → x ≡ y) → (xs ys : List A) → T (same is xs ys) → xs ≡ ys
same→eq is sound [] [] t = refl
same→eq is sound [] (y ∷ ys) t = absurd t
same→eq is sound (x ∷ xs) [] t = absurd t
same→eq is sound (x ∷ xs) (y ∷ ys) t =
    let h = and_yes (is x y) (same is xs ys) t in
    ap₂ ◌∷◌ (sound x y h.0) (same→eq is sound xs ys h.1)
