-- A decimal text is read back as its number, and what is read is the decimal text of its number: a decimal's digits are worth its
-- number, and begin with a zero only where that is all. Assumes nothing.
use mathlib.Core.Path.{◌≡◌, refl, sym, ap, ◌∙◌}
use mathlib.Core.Bool.{Bool, true, false, cond, ◌&&◌, decide, decide_iff, and-false, and-eq-true_iff}
use mathlib.Core.List.{List, [], ◌∷◌, ◌++◌, append-nil, List-discrete}
use Prim.Native.Nat.{ℕ, zero, suc, ◌+◌, ◌-◌, ◌*◌, ◌/◌, ◌%◌, ◌^◌, ◌≤◌, ◌<◌}
use native.Mathlib.Numerals.{add-one}
use native.Mathlib.Omega.{arith}
use native.Mathlib.Decide.{ℕ_discrete, dec_lt}
use lib.Dec.{leb, ltb}
use lib.ListN.{length, get_or, drop, drop_of_length-le}
use lib.Seq.{drop-cons}
use borrow.Author.Tests.{lt-ltb, le-ltb, le-leb, leb-true, ltb-true}
use Rattle.text.specs.Ascii.{within, same_text}
use Rattle.text.specs.Decimal.{decimal}
use Rattle.std.specs.Prelude.{Some, None}
use Rattle.text.specs.Number.{digits_of, worth, number_of}
use Rattle.text.proofs.Numerals.{decimal-one, decimal-more}
use Rattle.text.proofs.Stands.{Stands, stands}

pub bounds : (low high c : ℕ) → within low high c ≡ true → (low ≤ c) × (c ≤ high)
bounds low high c e = let b = (and-eq-true_iff (leb low c) (leb c high)).0 e in (leb-true low c b.0, leb-true c high b.1)

pub record Digit (c : ℕ) : Type 0 where
  pub test : within 48 57 c ≡ true
  pub low : 48 ≤ c
  pub high : c ≤ 57

pub digit : (c : ℕ) → within 48 57 c ≡ true → Digit c
digit c e = let b = bounds 48 57 c e in record { test = e; low = b.0; high = b.1 }

digit-of : (n : ℕ) → n < 10 → Digit (48 + n)
digit-of n h = digit (48 + n) (rw (le-leb 48 (48 + n) (omega arith), le-leb (48 + n) 57 (omega arith)))

abbrev Digits : List ℕ → Type 0
Digits [] = Unit {0}
Digits (c ∷ cs) = Digit c × Digits cs

digits_append : (ds es : List ℕ) → Digits ds → Digits es → Digits (ds ++ es)
digits_append [] es d e = e
digits_append (c ∷ ds) es d e = (d.0, digits_append ds es d.1 e)

worth-le : (n : ℕ) (ds : List ℕ) → n ≤ worth n ds
unfolding worth
worth-le n [] = omega arith
worth-le n (c ∷ ds) = omega (arith, worth-le (n * 10 + (c - 48)) ds)

worth-append : (n : ℕ) (ds es : List ℕ) → worth n (ds ++ es) ≡ worth (worth n ds) es
unfolding worth
worth-append n [] es = refl
worth-append n (c ∷ ds) es = worth-append (n * 10 + (c - 48)) ds es

-- a decimal is digits that are worth its number, the highest of them and those after it
record Spelled (n : ℕ) : Type 0 where
  high : ℕ
  low : List ℕ
  text : decimal n ≡ (48 + high) ∷ low
  some : 0 < n → 0 < high
  digits : Digits (decimal n)
  number : worth 0 (decimal n) ≡ n

spelled : (k n : ℕ) → n < k → Spelled n
unfolding worth
spelled zero n h = absurd (omega arith)
spelled (suc k) n h =
    elim (dec_lt n 10) [
      | yes s ↦
          let e = decimal-one n s in
          record { high = n; low = []; text = e; some = λ p. p; digits = rw e (digit-of n s, tt); number = rw e (omega arith) }
      | no s ↦
          let i = spelled k (n / 10) (omega arith) in
          let d = 48 + n % 10 in
          let e = decimal-more n (omega arith) in
          record {
            high = i.high;
            low = i.low ++ (d ∷ []);
            text = e ∙ ap (λ (t : List ℕ). t ++ (d ∷ [])) i.text;
            some = λ p. i.some (omega arith);
            digits = rw e (digits_append (decimal (n / 10)) (d ∷ []) i.digits (digit-of (n % 10) (omega arith), tt));
            number = rw (e, worth-append 0 (decimal (n / 10)) (d ∷ []), i.number) (omega arith);
          }
    ]

spelling : (n : ℕ) → Spelled n
spelling n = spelled (suc n) n (omega arith)

-- the digits at a text's front
digits-front : (ds rest : List ℕ) → Digits ds → digits_of (ds ++ rest) ≡ ds ++ digits_of rest
unfolding digits_of
digits-front [] rest d = refl
digits-front (c ∷ ds) rest d = rw d.0.test (ap (λ (l : List ℕ). c ∷ l) (digits-front ds rest d.1))

digits-split : (l : List ℕ) → (rest : List ℕ) × (l ≡ digits_of l ++ rest)
unfolding digits_of
digits-split [] = ([], refl)
digits-split (c ∷ l) = go (within 48 57 c) (digits-split l)
  where
    go : (t : Bool) → (rest : List ℕ) × (l ≡ digits_of l ++ rest) → (rest : List ℕ) × (c ∷ l ≡ cond t (c ∷ digits_of l) [] ++ rest)
    go true r = (r.0, ap (λ (m : List ℕ). c ∷ m) r.1)
    go false r = (c ∷ l, refl)

-- the digits from a place on
module _ (text : List ℕ) (at : ℕ) where
  pub digits-past : length text ≤ at → digits_of (drop at text) ≡ []
  unfolding digits_of
  digits-past h = rw (drop_of_length-le text h)

  module _ (h : at < length text) where
    pub digits-stop : within 48 57 (get_or text at 0) ≡ false → digits_of (drop at text) ≡ []
    unfolding digits_of
    digits-stop e = rw (drop-cons text at 0 h, e)

    pub digits_more : Digit (get_or text at 0) → digits_of (drop at text) ≡ get_or text at 0 ∷ digits_of (drop (at + 1) text)
    unfolding digits_of
    digits_more d = rw (add-one, drop-cons text at 0 h, d.test)

-- no decimal but that of 0 begins with a zero
pub zero-alone : (n c : ℕ) (ds : List ℕ) → decimal n ≡ 48 ∷ c ∷ ds → ⊥
zero-alone n c ds e =
    elim (dec_lt 0 n) [
      | yes p ↦
          let h : 48 + (spelling n).high ≡ 48 = cc (spelling n).text in
          omega (arith, (spelling n).some p)
      | no p ↦ omega (arith, ap length (sym e ∙ decimal-one n (omega arith)))
    ]

-- a digit alone, and one more after a number above 0
pub decimal_digit : {c : ℕ} → Digit c → decimal (c - 48) ≡ c ∷ []
decimal_digit {c} d =
    let q : 48 + (c - 48) ≡ c = omega arith in
    decimal-one (c - 48) (omega arith) ∙ rw q

pub decimal-next : (n : ℕ) {c : ℕ} → 0 < n → Digit c → decimal (n * 10 + (c - 48)) ≡ decimal n ++ (c ∷ [])
decimal-next n {c} p d =
    let m = n * 10 + (c - 48) in
    let q : m / 10 ≡ n = omega arith in
    let r : 48 + m % 10 ≡ c = omega arith in
    decimal-more m (omega arith) ∙ rw (q, r)

-- what digits are read as
pub differ : {P : Type 0} (d : Dec P) → (P → ⊥) → decide d ≡ false
unfolding decide
differ (yes p) n = absurd (n p)
differ (no q) n = refl

module _ (text : List ℕ) (at : ℕ) where
  pub number-none : digits_of (drop at text) ≡ [] → None ≡ number_of text at
  unfolding number_of worth
  number-none e = rw (e, decimal-one 0 (omega arith), differ (List-discrete ℕ_discrete [] (48 ∷ [])) (λ q. omega (arith, ap length q)))

  module _ (n : ℕ) where
    pub number-whole : (next : ℕ) → n < 2 ^ 64 → digits_of (drop at text) ≡ decimal n ++ digits_of (drop next text) → digits_of (drop next text) ≡ [] → next ≡ at + length (decimal n) → Some (n, next) ≡ number_of text at
    unfolding number_of
    number-whole next b e z p =
        rw (e, z, append-nil (decimal n), (spelling n).number, lt-ltb n (2 ^ 64) b, (decide_iff (List-discrete ℕ_discrete (decimal n) (decimal n))).1 refl, p)

    module _ (c : ℕ) (ds : List ℕ) (e : digits_of (drop at text) ≡ decimal n ++ (c ∷ ds)) where
      -- a digit after a zero
      pub number-zero : n ≡ 0 → None ≡ number_of text at
      unfolding number_of
      number-zero z =
          let m = worth 0 (digits_of (drop at text)) in
          let front : decimal n ++ (c ∷ ds) ≡ 48 ∷ c ∷ ds = rw (z, decimal-one 0 (omega arith)) in
          rw (differ (List-discrete ℕ_discrete (digits_of (drop at text)) (decimal m)) (λ q. zero-alone m c ds (sym q ∙ e ∙ front)), and-false (ltb m (2 ^ 64)))

      -- a digit that makes the number too large
      pub number-long : 2 ^ 64 ≤ n * 10 + (c - 48) → None ≡ number_of text at
      unfolding number_of worth
      number-long h =
          rw (e, worth-append 0 (decimal n) (c ∷ ds), (spelling n).number, le-ltb (worth (n * 10 + (c - 48)) ds) (2 ^ 64) (omega (arith, worth-le (n * 10 + (c - 48)) ds)))

-- what was read is the decimal that stands there
pub record IsRead (text : List ℕ) (at n next : ℕ) : Type 0 where
  pub below : n < 2 ^ 64
  pub piece : Stands text at (decimal n) next

-- what a test comes to where it doesn't come to its second case
pub taken : {A : Type 0} (t : Bool) {x y z : A} → cond t x y ≡ z → (y ≡ z → ⊥) → (t ≡ true) × (x ≡ z)
taken true e n = (refl, e)
taken false e n = absurd (n e)

pub no_number : {A : Type 0} {r : A} → None ≡ Some r → ⊥
no_number e = let z : ◌≡◌ {A = ℕ} 0 1 = cc in omega arith

-- the parts of what was read
pub some-parts : {A B : Type 0} {r s : A × B} → Some r ≡ Some s → (r.0 ≡ s.0) × (r.1 ≡ s.1)
some-parts {A} {B} {r} {s} e =
    let p : r ≡ s = cc in
    (ap (λ (q : A × B). q.0) p, ap (λ (q : A × B). q.1) p)

module _ (text : List ℕ) (at n next : ℕ) where
  pub number_read : number_of text at ≡ Some (n, next) → IsRead text at n next
  unfolding number_of
  number_read e =
      let ds = digits_of (drop at text) in
      let m = worth 0 ds in
      let t = taken (ltb m (2 ^ 64) && same_text ds (decimal m)) e no_number in
      let b = (and-eq-true_iff (ltb m (2 ^ 64)) (same_text ds (decimal m))).0 t.0 in
      let q = some-parts t.1 in
      let v : m ≡ n = q.0 in
      let w : at + length ds ≡ next = q.1 in
      let d : ds ≡ decimal n = (decide_iff (List-discrete ℕ_discrete ds (decimal m))).0 b.1 ∙ ap decimal v in
      let s = digits-split (drop at text) in
      record { below = rw v at (ltb-true m (2 ^ 64) b.0); piece = rw (← w, d) (stands at (decimal n) s.0 (s.1 ∙ ap (λ (l : List ℕ). l ++ s.0) d)) }

  -- and the decimal that stands there is read, where no digit comes after it
  pub number-back : digits_of (drop next text) ≡ [] → IsRead text at n next → number_of text at ≡ Some (n, next)
  number-back z r =
      let e = ap digits_of r.piece.found ∙ digits-front (decimal n) (drop next text) (spelling n).digits in
      sym (number-whole text at n next r.below e z r.piece.place)
