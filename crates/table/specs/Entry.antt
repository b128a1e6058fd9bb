-- A table whose entries each look at some fields of a word. A field is a place, a width and the value that stands there, so an
-- entry's fields are a mask and a pattern. Assumes nothing.
use Rattle.std.specs.Prelude.{ℕ, zero, suc, ◌≡◌, Bool, true, false, cond, ◌&&◌, ◌||◌, List, [], ◌∷◌, T, eqb}
use Rattle.bits.specs.Part.{part}

abbrev pub Field : Type 0
Field = ℕ × ℕ × ℕ

-- the fields that an entry looks at, and what it has
abbrev pub Entry {ℓ} : Type ℓ → Type ℓ
Entry A = List Field × A

-- each of the fields has its value in the word
abbrev pub holds : List Field → ℕ → Bool
holds [] word = true
holds (f ∷ fs) word = eqb (part word f.0 f.1) f.2 && holds fs word

-- an entry answers a word in which its fields hold; some entry does
abbrev pub answers {ℓ} : {A : Type ℓ} → Entry A → ℕ → Bool
answers e word = holds e.0 word

abbrev pub answered {ℓ} : {A : Type ℓ} → List (Entry A) → ℕ → Bool
answered [] word = false
answered (e ∷ es) word = answers e word || answered es word

-- what the entry that answers has, and `other` where none does
abbrev pub chosen {ℓ} : {A : Type ℓ} → List (Entry A) → ℕ → A → A
chosen [] word other = other
chosen (e ∷ es) word other = cond (answers e word) e.1 (chosen es word other)

-- the entry at a place answers; what it has
abbrev pub answers_at {ℓ} : {A : Type ℓ} → List (Entry A) → ℕ → ℕ → Bool
answers_at [] i word = false
answers_at (e ∷ es) zero word = answers e word
answers_at (e ∷ es) (suc i) word = answers_at es i word

abbrev pub has_at {ℓ} : {A : Type ℓ} → List (Entry A) → ℕ → A → A
has_at [] i other = other
has_at (e ∷ es) zero other = e.1
has_at (e ∷ es) (suc i) other = has_at es i other

-- at most one entry answers a word
abbrev pub AtMostOne {ℓ} : {A : Type ℓ} → List (Entry A) → Type 0
AtMostOne es = (word i j : ℕ) → T (answers_at es i word) → T (answers_at es j word) → i ≡ j

-- an entry that answers is the one that is chosen, wherever it stands
abbrev pub AnyPlace {ℓ} : {A : Type ℓ} → List (Entry A) → A → Type ℓ
AnyPlace es other = (word i : ℕ) → T (answers_at es i word) → chosen es word other ≡ has_at es i other
