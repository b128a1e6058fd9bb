-- What a `match` on a number tells of a table: a number that no arm names is the key of no entry whose key some arm names.
-- Assumes nothing.
use mathlib.Core.Path.{◌≡◌, refl, sym, ap, ◌∙◌}
use mathlib.Core.Bool.{Bool, true, false, cond, ◌&&◌, ◌||◌}
use mathlib.Core.List.{List, [], ◌∷◌, ◌++◌}
use mathlib.Core.Logic.{◌⊎◌, inl, inr, ⊎_elim}
use Prim.Native.Nat.{ℕ}
use lib.Dec.{T, eqb, eqb→eq}
use borrow.Author.Tests.{ne_eqb}
use mir.Facts.{and_yes, or_yes}
use Rattle.table.specs.Table.{select}

-- the numbers of an arm, and what is known in it
abbrev pub OneOf : ℕ → List ℕ → Type 0
OneOf n [] = ⊥
OneOf n (k ∷ []) = n ≡ k
OneOf n (k ∷ j ∷ ks) = (n ≡ k) ⊎ OneOf n (j ∷ ks)

-- the arms, the last one first, and what is known after them
abbrev pub Rest : ℕ → List (List ℕ) → Type 0
Rest n [] = Unit {0}
Rest n (arm ∷ arms) = Rest n arms × (OneOf n arm → ⊥)

-- arms of one number each
abbrev pub ones : List ℕ → List (List ℕ)
ones [] = []
ones (k ∷ ks) = (k ∷ []) ∷ ones ks

-- the arm names the number; some arm does
abbrev pub names : List ℕ → ℕ → Bool
names [] k = false
names (j ∷ js) k = eqb k j || names js k

abbrev pub any_names : List (List ℕ) → ℕ → Bool
any_names [] k = false
any_names (arm ∷ arms) k = names arm k || any_names arms k

-- the arms name every key of the table
abbrev pub covers {ℓ} : {A : Type ℓ} → List (List ℕ) → List (ℕ × A) → Bool
covers arms [] = true
covers arms (e ∷ es) = any_names arms e.0 && covers arms es

one_of : (arm : List ℕ) (n k : ℕ) → n ≡ k → T (names arm k) → OneOf n arm
one_of [] n k p t = t
one_of (j ∷ []) n k p t = ⊎_elim (λ h. p ∙ eqb→eq k j h) (λ h. absurd h) (or_yes (eqb k j) false t)
one_of (j ∷ i ∷ js) n k p t = ⊎_elim (λ h. inl (p ∙ eqb→eq k j h)) (λ h. inr (one_of (i ∷ js) n k p h)) (or_yes (eqb k j) (names (i ∷ js) k) t)

pub not_named : (arms : List (List ℕ)) (n k : ℕ) → Rest n arms → T (any_names arms k) → n ≡ k → ⊥
not_named [] n k r t p = t
not_named (arm ∷ arms) n k r t p = ⊎_elim (λ h. r.1 (one_of arm n k p h)) (λ h. not_named arms n k r.0 h p) (or_yes (names arm k) (any_names arms k) t)

select-append {ℓ} : {A : Type ℓ} (n : ℕ) (es ds : List (ℕ × A)) (other : A) → select n (es ++ ds) other ≡ select n es (select n ds other)
select-append n [] ds other = refl
select-append n (e ∷ es) ds other = ap (cond (eqb n e.0) e.1) (select-append n es ds other)

missed {ℓ} : {A : Type ℓ} (arms : List (List ℕ)) (n : ℕ) (es : List (ℕ × A)) (other : A) → T (covers arms es) → Rest n arms → select n es other ≡ other
missed arms n [] other t r = refl
missed arms n (e ∷ es) other t r =
    let both = and_yes (any_names arms e.0) (covers arms es) t in
    ap (λ (b : Bool). cond b e.1 (select n es other)) (ne_eqb n e.0 (not_named arms n e.0 r both.0)) ∙ missed arms n es other both.1 r

-- the arm after all of them: of a table that they cover, and of one whose first part they cover
pub otherwise {ℓ} : {A : Type ℓ} (arms : List (List ℕ)) (n : ℕ) (es : List (ℕ × A)) (other : A) → T (covers arms es) → Rest n arms → other ≡ select n es other
otherwise arms n es other t rest = sym (missed arms n es other t rest)

pub onward {ℓ} : {A : Type ℓ} (arms : List (List ℕ)) (n : ℕ) (es ds : List (ℕ × A)) (other : A) → T (covers arms es) → Rest n arms
    → select n ds other ≡ select n (es ++ ds) other
onward arms n es ds other t rest = otherwise arms n es (select n ds other) t rest ∙ sym (select-append n es ds other)
