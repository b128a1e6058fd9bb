-- The laws of `part` and `put`, once, over place and width. Each follows from the two ways to cut a number at a bit:
-- what `above` sets there is found below it and above it again, and two numbers with the same bits are equal.
-- Assumes nothing.
use mathlib.Core.Path.{◌≡◌, refl, sym, ap, ◌∙◌, subst}
use mathlib.Core.Logic.{◌⊎◌, inl, inr, ⊎_elim}
use Prim.Native.Nat.{ℕ, ◌+◌, ◌-◌, ◌*◌, ◌/◌, ◌%◌, ◌^◌, ◌≤◌, ◌<◌}
use native.Mathlib.Nat.{mod-lt, mod-mod, mod-eq_of_lt, div-one, div-eq_of_lt, add_comm, mul_comm, add-zero, zero-div, div-add-mod', mul-add-div, mul-add-mod_self_left, mul-le-mul_left}
use native.Mathlib.Omega.{arith}
use native.Mathlib.Decide.{dec_lt}
use lib.Arith.{bin_ind}
use lib.Pow.{pow_pos, pow-add, shr-shr, field, mod-mod-pow, mod-pow-add, shr_lt, shr_mod}
use Rattle.bits.specs.Part.{part, above, put, bit}

pub part-lt : (n p k : ℕ) → part n p k < 2 ^ k
part-lt n p k = mod-lt (n / 2 ^ p) (pow_pos k)

-- a number below 2 ^ k is its own lowest k bits
pub part-whole : (n k : ℕ) → n < 2 ^ k → part n 0 k ≡ n
part-whole n k h = rw div-one (mod-eq_of_lt h)

-- the topmost bits of a number
pub part-top : (n p k : ℕ) → n < 2 ^ (k + p) → part n p k ≡ n / 2 ^ p
part-top n p k h = shr_mod k p h

-- bits p to p + k of the quotient, of the remainder, of a part
pub part-shr : (n a p k : ℕ) → part (n / 2 ^ a) p k ≡ part n (a + p) k
part-shr n a p k = ap (λ (x : ℕ). x % 2 ^ k) (shr-shr n a p)

pub part-mod : (n m p k : ℕ) → p + k ≤ m → part (n % 2 ^ m) p k ≡ part n p k
part-mod n m p k h =
    let e : m ≡ ((m - (p + k)) + k) + p = omega arith in
    ap (λ (x : ℕ). part (n % 2 ^ x) p k) e ∙ ap (λ (x : ℕ). x % 2 ^ k) (field n ((m - (p + k)) + k) p) ∙ mod-mod-pow (n / 2 ^ p) (m - (p + k)) k

pub part-part : (n a m p k : ℕ) → p + k ≤ m → part (part n a m) p k ≡ part n (a + p) k
part-part n a m p k h = part-mod (n / 2 ^ a) m p k h ∙ part-shr n a p k

-- two parts side by side are one
pub part_join : (n p j k : ℕ) → above j (part n p j) (part n (p + j) k) ≡ part n p (j + k)
part_join n p j k =
    let x = n / 2 ^ p in
    ap (λ (y : ℕ). x % 2 ^ j + 2 ^ j * (y % 2 ^ k)) (sym (shr-shr n p j))
    ∙ add_comm (x % 2 ^ j) (2 ^ j * (x / 2 ^ j % 2 ^ k))
    ∙ ap (λ (y : ℕ). y + x % 2 ^ j) (mul_comm (2 ^ j) (x / 2 ^ j % 2 ^ k))
    ∙ sym (mod-pow-add x k j)
    ∙ ap (λ (y : ℕ). x % 2 ^ y) (add_comm k j)

-- three numbers, one above the other
pub above-assoc : (j k l m h : ℕ) → above (j + k) (above j l m) h ≡ above j l (above k m h)
above-assoc j k l m h = rw (pow-add 2 j k) (omega arith)

-- a number cut at bit k
pub cut_at : (n k : ℕ) → above k (n % 2 ^ k) (n / 2 ^ k) ≡ n
cut_at n k = rw (add_comm, mul_comm) (div-add-mod' n (2 ^ k))

module _ (k l h : ℕ) (fits : l < 2 ^ k) where
  pub above-mod : above k l h % 2 ^ k ≡ l
  above-mod = rw (add_comm, mul-add-mod_self_left) (mod-eq_of_lt fits)

  pub above-div : above k l h / 2 ^ k ≡ h
  above-div = rw (add_comm, mul-add-div (pow_pos k), div-eq_of_lt fits, add-zero)

  -- below bit k stands `l`, from there on `h`
  pub above_low : part (above k l h) 0 k ≡ l
  above_low = rw div-one above-mod

  pub above_within : (p j : ℕ) → p + j ≤ k → part (above k l h) p j ≡ part l p j
  above_within p j g = sym (part-mod (above k l h) k p j g) ∙ ap (λ (x : ℕ). part x p j) above-mod

  pub above-high : (p j : ℕ) → part (above k l h) (k + p) j ≡ part h p j
  above-high p j = sym (part-shr (above k l h) k p j) ∙ ap (λ (x : ℕ). part x p j) above-div

  pub above-lt : (j : ℕ) → h < 2 ^ j → above k l h < 2 ^ (k + j)
  above-lt j hh = omega (arith, mul-le-mul_left (2 ^ k) hh, pow-add 2 k j)

module _ (n p k v : ℕ) where
  low_fits : n % 2 ^ p < 2 ^ p
  low_fits = mod-lt n (pow_pos p)

  value-fits : v % 2 ^ k < 2 ^ k
  value-fits = mod-lt v (pow_pos k)

  put-mod : put n p k v % 2 ^ p ≡ n % 2 ^ p
  unfolding put
  put-mod = above-mod p (n % 2 ^ p) _ low_fits

  put-div : put n p k v / 2 ^ (p + k) ≡ n / 2 ^ (p + k)
  unfolding put
  put-div =
      sym (shr-shr (put n p k v) p k)
      ∙ ap (λ (x : ℕ). x / 2 ^ k) (above-div p (n % 2 ^ p) _ low_fits)
      ∙ above-div k (v % 2 ^ k) _ value-fits

  -- what was written is read
  pub get-put : part (put n p k v) p k ≡ v % 2 ^ k
  unfolding put
  get-put = ap (λ (x : ℕ). x % 2 ^ k) (above-div p (n % 2 ^ p) _ low_fits) ∙ above-mod k (v % 2 ^ k) _ value-fits

  -- nothing below the part changes, and nothing above it
  pub put-below : (q j : ℕ) → q + j ≤ p → part (put n p k v) q j ≡ part n q j
  put-below q j h = sym (part-mod (put n p k v) p q j h) ∙ ap (λ (x : ℕ). part x q j) put-mod ∙ part-mod n p q j h

  pub put-above : (q j : ℕ) → p + k ≤ q → part (put n p k v) q j ≡ part n q j
  put-above q j h =
      let d = q - (p + k) in
      let e : q ≡ p + k + d = omega arith in
      ap (λ (x : ℕ). part (put n p k v) x j) e
      ∙ sym (part-shr (put n p k v) (p + k) d j)
      ∙ ap (λ (x : ℕ). part x d j) put-div
      ∙ part-shr n (p + k) d j
      ∙ ap (λ (x : ℕ). part n x j) (sym e)

  -- within the part stand the bits of what was written
  pub put-inside : (i : ℕ) → i < k → bit (put n p k v) (p + i) ≡ bit v i
  put-inside i h =
      let l : i + 1 ≤ k = omega arith in
      sym (part-part (put n p k v) p k i 1 l) ∙ ap (λ (x : ℕ). part x i 1) get-put ∙ part-mod v k i 1 l

  pub put-lt : (m : ℕ) → p + k ≤ m → n < 2 ^ m → put n p k v < 2 ^ m
  unfolding put
  put-lt m h l =
      let d = m - (p + k) in
      let e : m ≡ p + (k + d) = omega arith in
      let f : m ≡ d + (p + k) = omega arith in
      let high : n / 2 ^ (p + k) < 2 ^ d = shr_lt d (p + k) (subst (λ (x : ℕ). n < 2 ^ x) f l) in
      subst (λ (x : ℕ). put n p k v < 2 ^ x) (sym e)
      (above-lt p (n % 2 ^ p) _ low_fits (k + d) (above-lt k (v % 2 ^ k) _ value-fits d high))

-- a number is what stands below the part, the part, and what stands above it
cut_out : (n p k : ℕ) → above p (n % 2 ^ p) (above k (part n p k) (n / 2 ^ (p + k))) ≡ n
cut_out n p k =
    ap (λ (x : ℕ). above p (n % 2 ^ p) (above k (part n p k) x)) (sym (shr-shr n p k))
    ∙ ap (above p (n % 2 ^ p)) (cut_at (n / 2 ^ p) k)
    ∙ cut_at n p

-- what is there, written again, changes nothing
pub put-get : (n p k : ℕ) → put n p k (part n p k) ≡ n
unfolding put
put-get n p k = ap (λ (x : ℕ). above p (n % 2 ^ p) (above k x (n / 2 ^ (p + k)))) (mod-mod (n / 2 ^ p) (2 ^ k)) ∙ cut_out n p k

-- only the lowest bits of what is written count
pub put-low-bits : (n p k v : ℕ) → put n p k v ≡ put n p k (v % 2 ^ k)
unfolding put
put-low-bits n p k v = ap (λ (x : ℕ). above p (n % 2 ^ p) (above k x (n / 2 ^ (p + k)))) (sym (mod-mod v (2 ^ k)))

-- a part can be taken out, and another number put in
pub take_out : (n p k : ℕ) → part n p k * 2 ^ p ≤ n
take_out n p k = omega (arith, cut_out n p k)

pub put_in : (n p k v : ℕ) → v < 2 ^ k → n - part n p k * 2 ^ p + v * 2 ^ p ≡ put n p k v
unfolding put
put_in n p k v h = rw (mod-eq_of_lt h) (omega (arith, cut_out n p k))

-- of two writes at one place the second stands
pub put-put : (n p k v u : ℕ) → put (put n p k v) p k u ≡ put n p k u
unfolding put
put-put n p k v u =
    ap (λ (x : ℕ). above p x (above k (u % 2 ^ k) (put n p k v / 2 ^ (p + k)))) (put-mod n p k v)
    ∙ ap (λ (x : ℕ). above p (n % 2 ^ p) (above k (u % 2 ^ k) x)) (put-div n p k v)

zero_bits : (b : ℕ) → ((i : ℕ) → bit b i ≡ 0) → b ≡ 0
zero_bits =
    bin_ind (λ (b : ℕ). ((i : ℕ) → bit b i ≡ 0) → b ≡ 0) (λ _. refl)
    (λ b ih h. let q = ih (λ i. part-shr b 1 i 1 ∙ h (1 + i)) in let r = h 0 in omega arith)

-- numbers with the same bits are equal
pub bits-equal : (a b : ℕ) → ((i : ℕ) → bit a i ≡ bit b i) → a ≡ b
bits-equal =
    bin_ind (λ (a : ℕ). (b : ℕ) → ((i : ℕ) → bit a i ≡ bit b i) → a ≡ b)
    (λ b h. sym (zero_bits b (λ i. sym (h i) ∙ ap (λ (x : ℕ). x % 2) (zero-div (2 ^ i)))))
    (λ a ih b h. let q = ih (b / 2) (λ i. part-shr a 1 i 1 ∙ h (1 + i) ∙ sym (part-shr b 1 i 1)) in let r = h 0 in omega arith)

-- where bit i stands to the part
pub data Stands (p k i : ℕ) : Type 0 where
  outside : (i + 1 ≤ p) ⊎ (p + k ≤ i) → Stands p k i
  inside : (d : ℕ) → d < k → i ≡ p + d → Stands p k i

pub stands : (p k i : ℕ) → Stands p k i
stands p k i =
    elim (dec_lt i p) [
      | yes h ↦ outside (inl (omega arith))
      | no h ↦ elim (dec_lt i (p + k)) [ yes l ↦ inside (i - p) (omega arith) (omega arith) | no l ↦ outside (inr (omega arith)) ]
    ]

pub skip : (n p k v i : ℕ) → (i + 1 ≤ p) ⊎ (p + k ≤ i) → bit (put n p k v) i ≡ bit n i
skip n p k v i = ⊎_elim (put-below n p k v i 1) (put-above n p k v i 1)

pub hit : (n p k v i d : ℕ) → d < k → i ≡ p + d → bit (put n p k v) i ≡ bit v d
hit n p k v i d h e = ap (bit (put n p k v)) e ∙ put-inside n p k v d h

-- writes apart commute
pub put-comm : (n p k v q j u : ℕ) → p + k ≤ q → put (put n p k v) q j u ≡ put (put n q j u) p k v
put-comm n p k v q j u h = bits-equal _ _ (λ i. go i (stands p k i) (stands q j i))
  where
    go : (i : ℕ) → Stands p k i → Stands q j i → bit (put (put n p k v) q j u) i ≡ bit (put (put n q j u) p k v) i
    go i (outside a) (outside b) = skip _ q j u i b ∙ skip n p k v i a ∙ sym (skip _ p k v i a ∙ skip n q j u i b)
    go i (outside a) (inside d l e) = hit _ q j u i d l e ∙ sym (skip _ p k v i a ∙ hit n q j u i d l e)
    go i (inside d l e) b =
        skip _ q j u i (inl (omega arith)) ∙ hit n p k v i d l e ∙ sym (hit _ p k v i d l e)
