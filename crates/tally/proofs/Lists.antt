-- Counting, sums and the numbers below a bound: each law by induction on the list. Assumes nothing.
use mathlib.Core.Path.{◌≡◌, refl, ap, ap₂, ◌∙◌}
use mathlib.Core.Bool.{Bool, true, false, cond, Bool-discrete}
use mathlib.Core.Logic.{ite}
use mathlib.Core.List.{List, [], ◌∷◌, ◌++◌, map, filter, map-append, filter-append}
use Prim.Native.Nat.{ℕ, zero, suc, ◌+◌, ◌≤◌, ◌<◌}
use native.Mathlib.Numerals.{add-one}
use native.Mathlib.Decide.{ℕ_discrete}
use native.Mathlib.Omega.{arith}
use lib.ListN.{length, get_or, length-append, length-map, get_or-append}
use lib.Seq.{get_or_at}
use Rattle.tally.specs.Report.{how_many, sum, below}

module _ {ℓ} {A : Type ℓ} (test : A → Bool) where
  pub count-append : (a b : List A) → how_many test (a ++ b) ≡ how_many test a + how_many test b
  count-append a b = ap length (filter-append _ a b) ∙ length-append (filter (λ x. Bool-discrete (test x) true) a) _

  pub count-cons : (x : A) (l : List A) → how_many test (x ∷ l) ≡ cond (test x) 1 0 + how_many test l
  count-cons x l = step (test x)
    where
      step : (b : Bool) → length (ite {C = List A} (Bool-discrete b true) (x ∷ filter (λ a. Bool-discrete (test a) true) l) (filter (λ a. Bool-discrete (test a) true) l)) ≡ cond b 1 0 + how_many test l
      step true = omega arith
      step false = omega arith

  -- no more pass than there are
  pub count_most : (l : List A) → how_many test l ≤ length l
  count_most [] = omega arith
  count_most (x ∷ l) = rw (count-cons x l) (step (test x) (count_most l))
    where
      step : (b : Bool) → how_many test l ≤ length l → cond b 1 0 + how_many test l ≤ suc (length l)
      step true h = omega arith
      step false h = omega arith

pub sum-append : (a b : List ℕ) → sum (a ++ b) ≡ sum a + sum b
sum-append [] b = omega arith
sum-append (x ∷ a) b = omega (arith, sum-append a b)

pub below_none : below 0 ≡ []
unfolding below
below_none = refl

pub length-below : (n : ℕ) → length (below n) ≡ n
unfolding below
length-below zero = refl
length-below (suc n) = length-append (below n) (n ∷ []) ∙ omega (arith, length-below n)

module _ {ℓ} {A : Type ℓ} (f : ℕ → A) where
  pub map_more : (n : ℕ) → map f (below (suc n)) ≡ map f (below n) ++ (f n ∷ [])
  unfolding below
  map_more n = map-append f (below n) (n ∷ [])

  pub length_to : (n : ℕ) → length (map f (below n)) ≡ n
  length_to n = length-map (below n) f ∙ length-below n

  pub at-to : (n i : ℕ) (d : A) → i < n → get_or (map f (below n)) i d ≡ f i
  at-to zero i d h = absurd (omega arith)
  at-to (suc n) i d h =
      rw (map_more n)
      (elim (ℕ_discrete i n) [
        | yes e ↦ rw e (get_or_at (map f (below n)) (f n) [] d n (length_to n))
        | no k ↦ get_or-append (map f (below n)) (f n ∷ []) d i (omega (arith, length_to n)) ∙ at-to n i d (omega arith)
      ])

pub sum_more : (f : ℕ → ℕ) (n : ℕ) → sum (map f (below (n + 1))) ≡ sum (map f (below n)) + f n
sum_more f n = rw (add-one, map_more f n, sum-append (map f (below n)) (f n ∷ [])) (omega arith)

pub map-to : {f g : ℕ → ℕ} (n : ℕ) → ((t : ℕ) → t < n → f t ≡ g t) → map f (below n) ≡ map g (below n)
unfolding below
map-to zero h = refl
map-to {f} {g} (suc n) h = rw (map_more f n, map_more g n) (ap₂ (λ (l : List ℕ) (x : ℕ). l ++ (x ∷ [])) (map-to n (λ t l. h t (omega arith))) (h n (omega arith)))

pub sum-plus : (f g : ℕ → ℕ) (l : List ℕ) → sum (map (λ x. f x + g x) l) ≡ sum (map f l) + sum (map g l)
sum-plus f g [] = refl
sum-plus f g (x ∷ l) = omega (arith, sum-plus f g l)

-- a count is a sum of ones
pub count-sum : (test : ℕ → Bool) (l : List ℕ) → how_many test l ≡ sum (map (λ x. cond (test x) 1 0) l)
count-sum test [] = refl
count-sum test (x ∷ l) = count-cons test x l ∙ omega (arith, count-sum test l)
