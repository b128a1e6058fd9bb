-- Bundles by their bytes: sixteen bytes are mixed where both halves are, and where a bundle isn't another's each byte is the old or the
-- new one's. Assumes nothing.
use mathlib.Core.Path.{◌≡◌, refl, sym, ap, ◌∙◌, subst}
use mathlib.Core.Bool.{Bool, true, false, false≢true, ◌&&◌, ◌||◌}
use mathlib.Core.List.{List, [], ◌∷◌, ◌++◌}
use mathlib.Core.Logic.{◌⊎◌, inl, inr}
use Prim.Native.Nat.{ℕ, zero, suc, ◌*◌, ◌/◌, ◌%◌, ◌<◌, ◌^◌}
use native.Mathlib.Omega.{arith}
use borrow.Author.Tests.{eqb-true, eq-eqb, ne_eqb}
use lib.Dec.{T, eqb, eqb→eq}
use lib.ListN.{length, get_or}
use mir.Facts.{and_yes}
use mathlib.Core.Path.{ap₂}
use native.Mathlib.Nat.{div-one, div-div-eq-div-mul}
use Rattle.std.specs.Int.{w64, byte_at, bytes_low_first, to_le_bytes}
use Rattle.std.specs.List.{list_all, zip}
use Rattle.bundle.specs.Bytes.{bytes}
use Rattle.bundle.specs.Bundle.{whole}
use Rattle.bundle.specs.declared.half.Halves.{Halves}
use Rattle.bundle.proofs.Bytes.{bytes-above, length-bytes}
use Rattle.redo.specs.State.{bytes_of, of_either, state_of, OneOf, NoOtherByte, TornIsKnown}
use Rattle.redo.specs.declared.state.State.TheVariants.{Old, New, Torn, Other}

-- a number's bytes, as std has them
byte-is : (i n : ℕ) → byte_at i n ≡ n / 256 ^ i % 2 ^ 8
byte-is zero n = rw div-one
byte-is (suc i) n = refl

next-byte : (i n : ℕ) → n / 256 ^ suc i ≡ n / 256 ^ i / 2 ^ 8
next-byte i n = let more : 256 ^ suc i ≡ 256 ^ i * 256 = omega arith in ap (λ (m : ℕ). n / m) more ∙ sym (div-div-eq-div-mul n (256 ^ i) 256)

low-bytes : (i k n : ℕ) → bytes_low_first i k n ≡ bytes k (n / 256 ^ i)
unfolding bytes
low-bytes i zero n = refl
low-bytes i (suc k) n = ap₂ ◌∷◌ (byte-is i n) (low-bytes (suc i) k n ∙ ap (bytes k) (next-byte i n))

pub bytes-are : (n : ℕ) → to_le_bytes w64 n ≡ bytes 8 n
bytes-are n = low-bytes 0 8 n ∙ ap (bytes 8) (div-one n)

-- a byte of either, and its pairs
abbrev pub is_either : ℕ × (ℕ × ℕ) → Bool
is_either p = eqb p.0 p.1.0 || eqb p.0 p.1.1

pub mixed-pairs : (k now old new : ℕ) → list_all is_either (zip (bytes k now) (zip (bytes k old) (bytes k new))) ≡ of_either (bytes k now) (bytes k old) (bytes k new)
unfolding bytes
mixed-pairs zero now old new = refl
mixed-pairs (suc k) now old new =
    ap (λ (t : Bool). is_either (now % 256, (old % 256, new % 256)) && t) (mixed-pairs k (now / 256) (old / 256) (new / 256))

-- two bundles are the same where both halves are
module _ (a b : Halves) (few : a.low < 2 ^ 64) (few₁ : b.low < 2 ^ 64) where
  by-high : a.low ≡ b.low → (t : Bool) → eqb a.high b.high ≡ t → t ≡ eqb (whole a) (whole b)
  by-high l true h = sym (eq-eqb (whole a) (whole b) (omega (arith, l, eqb-true a.high b.high h)))
  by-high l false h =
      sym (ne_eqb (whole a) (whole b) (λ e. let same : a.high ≡ b.high = omega (arith, l, e) in false≢true (sym h ∙ eq-eqb a.high b.high same)))

  by-low : (t : Bool) → eqb a.low b.low ≡ t → (t && eqb a.high b.high) ≡ eqb (whole a) (whole b)
  by-low true l = by-high (eqb-true a.low b.low l) (eqb a.high b.high) refl
  by-low false l =
      sym (ne_eqb (whole a) (whole b) (λ e. let same : a.low ≡ b.low = omega (arith, e) in false≢true (sym l ∙ eq-eqb a.low b.low same)))

  pub same-whole : (eqb a.low b.low && eqb a.high b.high) ≡ eqb (whole a) (whole b)
  same-whole = by-low (eqb a.low b.low) refl

and_assoc : (a b c : Bool) → (a && (b && c)) ≡ ((a && b) && c)
and_assoc true b c = refl
and_assoc false b c = refl

-- bytes after bytes
mixed-append : (k now old new : ℕ) (bs olds news : List ℕ) → of_either (bytes k now ++ bs) (bytes k old ++ olds) (bytes k new ++ news) ≡ (of_either (bytes k now) (bytes k old) (bytes k new) && of_either bs olds news)
unfolding bytes
mixed-append zero now old new bs olds news = refl
mixed-append (suc k) now old new bs olds news =
    ap (λ (t : Bool). (eqb (now % 256) (old % 256) || eqb (now % 256) (new % 256)) && t) (mixed-append k (now / 256) (old / 256) (new / 256) bs olds news)
    ∙ and_assoc (eqb (now % 256) (old % 256) || eqb (now % 256) (new % 256)) _ _

-- the low half's bytes come first
halves-bytes : (h : Halves) → h.low < 2 ^ 64 → bytes_of h ≡ bytes 8 h.low ++ bytes 8 h.high
halves-bytes h l = bytes-above 8 8 h.low h.high l

pub mixed-halves : (now old new : Halves) → now.low < 2 ^ 64 → old.low < 2 ^ 64 → new.low < 2 ^ 64
    → (of_either (bytes 8 now.low) (bytes 8 old.low) (bytes 8 new.low) && of_either (bytes 8 now.high) (bytes 8 old.high) (bytes 8 new.high)) ≡ of_either (bytes_of now) (bytes_of old) (bytes_of new)
mixed-halves now old new n o w =
    sym (rw (halves-bytes now n, halves-bytes old o, halves-bytes new w) (mixed-append 8 now.low old.low new.low (bytes 8 now.high) (bytes 8 old.high) (bytes 8 new.high)))

-- one of two tests, and so of numbers
either : (x y : Bool) → T (x || y) → T x ⊎ T y
either true y t = inl tt
either false y t = inr t

-- each of mixed bytes is one of the two
mixed-each : (bs olds news : List ℕ) → T (of_either bs olds news) → (k : ℕ) → k < length bs → (get_or bs k 0 ≡ get_or olds k 0) ⊎ (get_or bs k 0 ≡ get_or news k 0)
mixed-each [] olds news t k h = absurd (omega arith)
mixed-each (b ∷ bs) [] news t k h = absurd t
mixed-each (b ∷ bs) (o ∷ olds) [] t k h = absurd t
mixed-each (b ∷ bs) (o ∷ olds) (n ∷ news) t zero h =
    elim (either (eqb b o) (eqb b n) (and_yes (eqb b o || eqb b n) (of_either bs olds news) t).0) [
      | inl e ↦ inl (eqb→eq b o e)
      | inr e ↦ inr (eqb→eq b n e)
    ]
mixed-each (b ∷ bs) (o ∷ olds) (n ∷ news) t (suc k) h = mixed-each bs olds news (and_yes (eqb b o || eqb b n) (of_either bs olds news) t).1 k (omega arith)

pub no-other-byte : NoOtherByte
unfolding state_of
no-other-byte now old new d k h = by_old (eqb (whole now) (whole old)) refl
  where
    by-torn : eqb (whole now) (whole old) ≡ false → eqb (whole now) (whole new) ≡ false → (t : Bool) → of_either (bytes_of now) (bytes_of old) (bytes_of new) ≡ t → OneOf now old new k
    by-torn o n true t = mixed-each (bytes_of now) (bytes_of old) (bytes_of new) (subst T (sym t) tt) k (omega (arith, length-bytes 16 (whole now)))
    by-torn o n false t = absurd (d (rw (o, n, t)))

    by-new : eqb (whole now) (whole old) ≡ false → (t : Bool) → eqb (whole now) (whole new) ≡ t → OneOf now old new k
    by-new o true n = inr (ap (λ (w : ℕ). get_or (bytes 16 w) k 0) (eqb-true (whole now) (whole new) n))
    by-new o false n = by-torn o n (of_either (bytes_of now) (bytes_of old) (bytes_of new)) refl

    by_old : (t : Bool) → eqb (whole now) (whole old) ≡ t → OneOf now old new k
    by_old true o = inl (ap (λ (w : ℕ). get_or (bytes 16 w) k 0) (eqb-true (whole now) (whole old) o))
    by_old false o = by-new o (eqb (whole now) (whole new)) refl

either_true : (x y z : Bool) → y ≡ true → z ≡ true → ((x || y) && z) ≡ true
either_true true y z p q = q
either_true false y z p q = rw (p, q)

-- bytes each of which is one of the two are mixed
each-mixed : (bs olds news : List ℕ) → length olds ≡ length bs → length news ≡ length bs
    → ((k : ℕ) → k < length bs → (get_or bs k 0 ≡ get_or olds k 0) ⊎ (get_or bs k 0 ≡ get_or news k 0)) → of_either bs olds news ≡ true
each-mixed [] olds news o n all = refl
each-mixed (b ∷ bs) [] news o n all = absurd (omega arith)
each-mixed (b ∷ bs) (c ∷ olds) [] o n all = absurd (omega arith)
each-mixed (b ∷ bs) (c ∷ olds) (d ∷ news) o n all =
    let rest = each-mixed bs olds news (omega arith) (omega arith) (λ k h. all (suc k) (omega arith)) in
    elim (all 0 (omega arith)) [
      | inl e ↦ rw (eq-eqb b c e) rest
      | inr e ↦ either_true (eqb b c) (eqb b d) (of_either bs olds news) (eq-eqb b d e) rest
    ]

-- what is known isn't another's
differ-old : Old ≡ Other → ⊥
differ-old e = let z : ◌≡◌ {A = ℕ} 0 1 = cc in omega arith

differ_new : New ≡ Other → ⊥
differ_new e = let z : ◌≡◌ {A = ℕ} 0 1 = cc in omega arith

differ-torn : Torn ≡ Other → ⊥
differ-torn e = let z : ◌≡◌ {A = ℕ} 0 1 = cc in omega arith

pub torn-is-known : TornIsKnown
unfolding state_of
torn-is-known now old new all e = by_old (eqb (whole now) (whole old)) refl
  where
    long : (h : Halves) → length (bytes_of h) ≡ length (bytes_of now)
    long h = length-bytes 16 (whole h) ∙ sym (length-bytes 16 (whole now))

    torn : of_either (bytes_of now) (bytes_of old) (bytes_of new) ≡ true
    torn = each-mixed (bytes_of now) (bytes_of old) (bytes_of new) (long old) (long new) (λ k h. all k (omega (arith, length-bytes 16 (whole now))))

    by-new : eqb (whole now) (whole old) ≡ false → (t : Bool) → eqb (whole now) (whole new) ≡ t → ⊥
    by-new o true n = differ_new (rw (o, n) at e)
    by-new o false n = differ-torn (rw (o, n, torn) at e)

    by_old : (t : Bool) → eqb (whole now) (whole old) ≡ t → ⊥
    by_old true o = differ-old (rw o at e)
    by_old false o = by-new o (eqb (whole now) (whole new)) refl
