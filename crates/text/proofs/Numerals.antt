-- A decimal text is one digit, or the text of the number's tenth with the last digit after it; so a number below 10 ^ k,
-- k above 0, has at most k digits. By induction on the bound of the digits. Assumes nothing.
use mathlib.Core.Path.{◌≡◌, sym, ap, ◌∙◌}
use mathlib.Core.List.{List, [], ◌∷◌, ◌++◌}
use Prim.Native.Nat.{ℕ, zero, suc, ◌+◌, ◌/◌, ◌%◌, ◌^◌, ◌≤◌, ◌<◌}
use native.Mathlib.Decide.{dec_lt}
use native.Mathlib.Omega.{arith}
use lib.ListN.{length, length-append}
use borrow.Author.Tests.{lt-ltb, le-ltb}
use Rattle.text.specs.Decimal.{digits, decimal}

digits-one : (k n : ℕ) → n < 10 → digits (suc k) n ≡ (48 + n) ∷ []
unfolding digits
digits-one k n h = rw (lt-ltb n 10 h)

digits_more : (k n : ℕ) → 10 ≤ n → digits (suc k) n ≡ digits k (n / 10) ++ ((48 + n % 10) ∷ [])
unfolding digits
digits_more k n h = rw (le-ltb n 10 h)

-- any bound above the number serves
digits-bound : (j k n : ℕ) → n < j → n < k → digits j n ≡ digits k n
digits-bound zero k n h l = absurd (omega arith)
digits-bound (suc j) zero n h l = absurd (omega arith)
digits-bound (suc j) (suc k) n h l =
    elim (dec_lt n 10) [
      | yes s ↦ digits-one j n s ∙ sym (digits-one k n s)
      | no s ↦
          let b : 10 ≤ n = omega arith in
          digits_more j n b
          ∙ ap (λ (d : List ℕ). d ++ ((48 + n % 10) ∷ [])) (digits-bound j k (n / 10) (omega arith) (omega arith))
          ∙ sym (digits_more k n b)
    ]

pub decimal-one : (n : ℕ) → n < 10 → decimal n ≡ (48 + n) ∷ []
unfolding decimal
decimal-one n h = digits-one n n h

pub decimal-more : (n : ℕ) → 10 ≤ n → decimal n ≡ decimal (n / 10) ++ ((48 + n % 10) ∷ [])
unfolding decimal
decimal-more n h =
    digits_more n n h
    ∙ ap (λ (d : List ℕ). d ++ ((48 + n % 10) ∷ [])) (digits-bound n (suc (n / 10)) (n / 10) (omega arith) (omega arith))

pub length_more : (n : ℕ) → 10 ≤ n → length (decimal n) ≡ length (decimal (n / 10)) + 1
length_more n h = ap length (decimal-more n h) ∙ length-append (decimal (n / 10)) _

pub length-four : (n : ℕ) → 10000 ≤ n → length (decimal n) ≡ length (decimal (n / 10000)) + 4
length-four n h =
    let e : n / 10000 ≡ n / 10 / 10 / 10 / 10 = omega arith in
    rw e (omega (arith, length_more n (omega arith), length_more (n / 10) (omega arith), length_more (n / 10 / 10) (omega arith), length_more (n / 10 / 10 / 10) (omega arith)))

pub decimal-length : (k n : ℕ) → n < 10 ^ suc k → length (decimal n) ≤ suc k
decimal-length zero n h = rw (decimal-one n h) (omega arith)
decimal-length (suc k) n h =
    elim (dec_lt n 10) [
      | yes s ↦ rw (decimal-one n s) (omega arith)
      | no s ↦ rw (decimal-more n (omega arith), length-append) (omega (arith, decimal-length k (n / 10) (omega arith)))
    ]
