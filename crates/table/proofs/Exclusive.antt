-- At most one entry answers a word, by a test of any two entries: they disagree in a field that both look at. Once, over any table.
-- Assumes nothing.
use mathlib.Core.Path.{◌≡◌, refl, sym, ap, ◌∙◌, subst}
use mathlib.Core.Bool.{Bool, true, false, cond, not, ◌&&◌, ◌||◌}
use mathlib.Core.List.{List, [], ◌∷◌}
use mathlib.Core.Logic.{⊎_elim}
use Prim.Native.Nat.{ℕ, zero, suc, ◌+◌, ◌-◌}
use lib.Dec.{T, eqb, leb, eqb→eq}
use borrow.Author.Tests.{eq-eqb}
use mir.Facts.{and_yes, or_yes}
use Rattle.bits.specs.Part.{part}
use Rattle.table.specs.Entry.{Field, Entry, holds, answers, chosen, answers_at, AtMostOne, AnyPlace}
use Rattle.table.proofs.Known.{Has, inside, value_in, decided}

-- the bits that both look at, and whether they have two values there
abbrev overlap : Field → Field → Field
overlap f g =
    let low = cond (leb f.0 g.0) g.0 f.0 in
    let high = cond (leb (f.0 + f.1) (g.0 + g.1)) (f.0 + f.1) (g.0 + g.1) in
    (low, high - low, 0)

abbrev pub disagree : Field → Field → Bool
disagree f g = let h = overlap f g in inside f h && (inside g h && not (eqb (value_in f h) (value_in g h)))

-- one of the fields disagrees; one of the one with one of the other
abbrev pub against : Field → List Field → Bool
against f [] = false
against f (g ∷ gs) = disagree f g || against f gs

abbrev pub exclude : List Field → List Field → Bool
exclude [] gs = false
exclude (f ∷ fs) gs = against f gs || exclude fs gs

-- an entry and each of some; any two of them
abbrev pub excludes_all {ℓ} : {A : Type ℓ} → List Field → List (Entry A) → Bool
excludes_all fs [] = true
excludes_all fs (e ∷ es) = exclude fs e.0 && excludes_all fs es

abbrev pub exclusive {ℓ} : {A : Type ℓ} → List (Entry A) → Bool
exclusive [] = true
exclusive (e ∷ es) = excludes_all e.0 es && exclusive es

is_true : (b : Bool) → T b → b ≡ true
is_true true t = refl
is_true false t = absurd t

pub is_false : (b : Bool) → (T b → ⊥) → b ≡ false
is_false true h = absurd (h tt)
is_false false h = refl

module _ (word : ℕ) where
  -- a word does not have two values in bits that both look at
  apart : (f g : Field) → T (disagree f g) → Has word f → Has word g → ⊥
  apart f g t p q =
      let h = overlap f g in
      let a = and_yes (inside f h) (inside g h && not (eqb (value_in f h) (value_in g h))) t in
      let b = and_yes (inside g h) (not (eqb (value_in f h) (value_in g h))) a.1 in
      subst (λ (x : Bool). T (not x)) (eq-eqb (value_in f h) (value_in g h) (sym (decided word f h p a.0) ∙ decided word g h q b.0)) b.1

  -- so no field that holds is against fields that hold, and two lists of fields that exclude each other do not both hold
  pub not-against : (f : Field) (gs : List Field) → T (against f gs) → Has word f → T (holds gs word) → ⊥
  not-against f [] t p h = t
  not-against f (g ∷ gs) t p h =
      let both = and_yes (eqb (part word g.0 g.1) g.2) (holds gs word) h in
      ⊎_elim (λ d. apart f g d p (eqb→eq _ _ both.0)) (λ r. not-against f gs r p both.1) (or_yes (disagree f g) (against f gs) t)

  not-both : (fs gs : List Field) → T (exclude fs gs) → T (holds fs word) → T (holds gs word) → ⊥
  not-both [] gs t h k = t
  not-both (f ∷ fs) gs t h k =
      let both = and_yes (eqb (part word f.0 f.1) f.2) (holds fs word) h in
      ⊎_elim (λ d. not-against f gs d (eqb→eq _ _ both.0) k) (λ r. not-both fs gs r both.1 k) (or_yes (against f gs) (exclude fs gs) t)

  none-later {ℓ} : {A : Type ℓ} (fs : List Field) (es : List (Entry A)) (i : ℕ) → T (excludes_all fs es) → T (holds fs word) → T (answers_at es i word) → ⊥
  none-later fs [] i t h k = k
  none-later fs (e ∷ es) zero t h k = not-both fs e.0 (and_yes (exclude fs e.0) (excludes_all fs es) t).0 h k
  none-later fs (e ∷ es) (suc i) t h k = none-later fs es i (and_yes (exclude fs e.0) (excludes_all fs es) t).1 h k

pub at_most_one {ℓ} : {A : Type ℓ} (es : List (Entry A)) → T (exclusive es) → AtMostOne es
at_most_one [] t word i j h k = absurd h
at_most_one (e ∷ es) t word zero zero h k = refl
at_most_one (e ∷ es) t word zero (suc j) h k = absurd (none-later word e.0 es j (and_yes (excludes_all e.0 es) (exclusive es) t).0 h k)
at_most_one (e ∷ es) t word (suc i) zero h k = absurd (none-later word e.0 es i (and_yes (excludes_all e.0 es) (exclusive es) t).0 k h)
at_most_one (e ∷ es) t word (suc i) (suc j) h k = ap suc (at_most_one es (and_yes (excludes_all e.0 es) (exclusive es) t).1 word i j h k)

-- so what is chosen is what the entry that answers has, wherever it stands
pub any_place {ℓ} : {A : Type ℓ} (es : List (Entry A)) (other : A) → T (exclusive es) → AnyPlace es other
any_place [] other t word i h = refl
any_place (e ∷ es) other t word zero h = ap (λ (b : Bool). cond b e.1 (chosen es word other)) (is_true (answers e word) h)
any_place (e ∷ es) other t word (suc i) h =
    let both = and_yes (excludes_all e.0 es) (exclusive es) t in
    ap (λ (b : Bool). cond b e.1 (chosen es word other)) (is_false (answers e word) (λ k. none-later word e.0 es i both.0 k h)) ∙ any_place es other both.1 word i h
