-- `number` and `bytes` are inverse to each other, and both go half by half: a byte more is eight bits more, at the low end.
-- Assumes nothing.
use mathlib.Core.Path.{◌≡◌, refl, sym, ap, ap₂, ◌∙◌, subst}
use mathlib.Core.List.{List, [], ◌∷◌, ◌++◌}
use Prim.Native.Nat.{ℕ, zero, suc, ◌+◌, ◌-◌, ◌*◌, ◌/◌, ◌%◌, ◌≤◌, ◌<◌, ◌^◌}
use native.Mathlib.Nat.{mul-suc, suc-add, add_comm, zero-add, mod-lt, le_of_eq}
use native.Mathlib.Omega.{arith}
use lib.Dec.{lit<}
use lib.ListN.{length, get_or, take, drop, length-drop, take-append-drop}
use lib.Seq.{length-take-le, take_all, get_or-drop}
use lib.Pow.{pow_pos, shr_lt}
use Rattle.bits.specs.Part.{above}
use Rattle.bits.proofs.Laws.{cut_at, above-mod, above-div, above-lt, above-assoc}
use Rattle.bundle.specs.Bytes.{number, bytes}

-- every element is a byte
abbrev pub Bytes : List ℕ → Type 0
Bytes l = (i : ℕ) → get_or l i 0 < 2 ^ 8

eight-more : (k : ℕ) → 8 * suc k ≡ 8 + 8 * k
eight-more k = mul-suc 8 k ∙ add_comm (8 * k) 8

pub length-bytes : (k n : ℕ) → length (bytes k n) ≡ k
unfolding bytes
length-bytes zero n = refl
length-bytes (suc k) n = ap suc (length-bytes k (n / 2 ^ 8))

rest-fits : (k n : ℕ) → n < 2 ^ (8 * suc k) → n / 2 ^ 8 < 2 ^ (8 * k)
rest-fits k n h = shr_lt (8 * k) 8 (subst (λ (m : ℕ). n < 2 ^ m) (mul-suc 8 k) h)

low_fits : (n : ℕ) → n % 2 ^ 8 < 2 ^ 8
low_fits n = mod-lt n (pow_pos 8)

-- the bytes of a low and a high part, one after the other
pub bytes-above : (k j low high : ℕ) → low < 2 ^ (8 * k) → bytes (k + j) (above (8 * k) low high) ≡ bytes k low ++ bytes j high
unfolding bytes
bytes-above zero j low high h =
    let e : above 0 low high ≡ high = omega arith in
    ap₂ bytes (zero-add j) e
bytes-above (suc k) j low high h =
    let rest = above (8 * k) (low / 2 ^ 8) high in
    let e : above (8 * suc k) low high ≡ above 8 (low % 2 ^ 8) rest =
    ap₂ (λ (m x : ℕ). above m x high) (eight-more k) (sym (cut_at low 8)) ∙ above-assoc 8 (8 * k) (low % 2 ^ 8) (low / 2 ^ 8) high in
    ap₂ bytes (suc-add k j) e
    ∙ ap₂ ◌∷◌ (above-mod 8 (low % 2 ^ 8) rest (low_fits low))
    (ap (bytes (k + j)) (above-div 8 (low % 2 ^ 8) rest (low_fits low)) ∙ bytes-above k j (low / 2 ^ 8) high (rest-fits k low h))

pub number_append : (xs ys : List ℕ) → number (xs ++ ys) ≡ above (8 * length xs) (number xs) (number ys)
unfolding number
number_append [] ys = omega arith
number_append (x ∷ xs) ys =
    ap (above 8 x) (number_append xs ys)
    ∙ sym (above-assoc 8 (8 * length xs) x (number xs) (number ys))
    ∙ ap (λ (m : ℕ). above m (above 8 x (number xs)) (number ys)) (sym (eight-more (length xs)))

-- a list cut after k bytes
pub number-split : (l : List ℕ) (k : ℕ) → k ≤ length l → above (8 * k) (number (take k l)) (number (take (length l - k) (drop k l))) ≡ number l
number-split l k h =
    let e : length (drop k l) ≤ length l - k = le_of_eq (length-drop k l) in
    ap₂ (λ (m : ℕ) (r : List ℕ). above (8 * m) (number (take k l)) (number r)) (sym (length-take-le k l h)) (take_all (length l - k) (drop k l) e)
    ∙ sym (number_append (take k l) (drop k l))
    ∙ ap number (take-append-drop k l)

pub number_lt : (l : List ℕ) → Bytes l → number l < 2 ^ (8 * length l)
unfolding number
number_lt [] h = lit< tt
number_lt (x ∷ xs) h =
    subst (λ (m : ℕ). above 8 x (number xs) < 2 ^ m) (sym (eight-more (length xs)))
    (above-lt 8 x (number xs) (h 0) (8 * length xs) (number_lt xs (λ i. h (suc i))))

pub bytes-number : (l : List ℕ) → Bytes l → bytes (length l) (number l) ≡ l
unfolding number bytes
bytes-number [] h = refl
bytes-number (x ∷ xs) h =
    ap₂ ◌∷◌ (above-mod 8 x (number xs) (h 0))
    (ap (bytes (length xs)) (above-div 8 x (number xs) (h 0)) ∙ bytes-number xs (λ i. h (suc i)))

pub number-bytes : (k n : ℕ) → n < 2 ^ (8 * k) → number (bytes k n) ≡ n
unfolding number bytes
number-bytes zero n h = omega arith
number-bytes (suc k) n h = ap (above 8 (n % 2 ^ 8)) (number-bytes k (n / 2 ^ 8) (rest-fits k n h)) ∙ cut_at n 8

-- parts of bytes are bytes
pub bytes_take : (n : ℕ) (l : List ℕ) → Bytes l → Bytes (take n l)
bytes_take zero l h i = lit< tt
bytes_take (suc n) [] h i = lit< tt
bytes_take (suc n) (x ∷ l) h zero = h 0
bytes_take (suc n) (x ∷ l) h (suc i) = bytes_take n l (λ j. h (suc j)) i

pub bytes_drop : (n : ℕ) (l : List ℕ) → Bytes l → Bytes (drop n l)
bytes_drop n l h i = subst (λ (x : ℕ). x < 2 ^ 8) (sym (get_or-drop n l i 0)) (h (n + i))
