-- A test that every entry of a table passes is passed by what is found in it: what is found is an entry's, or what was given for none. By
-- a key, and by the fields of a word. Assumes nothing.
use mathlib.Core.Path.{◌≡◌, refl, sym, subst}
use mathlib.Core.Bool.{Bool, true, false, cond, ◌&&◌, ◌||◌}
use mathlib.Core.List.{List, [], ◌∷◌}
use Prim.Native.Nat.{ℕ}
use lib.Dec.{T, eqb, eqb→eq}
use mir.Facts.{and_yes}
use Rattle.table.specs.Entry.{Entry, answers, answered, chosen}
use Rattle.table.specs.Table.{select}

-- every entry passes, with its key
abbrev pub every {ℓ} : {A : Type ℓ} → (ℕ → A → Bool) → List (ℕ × A) → Bool
every test [] = true
every test (e ∷ es) = test e.0 e.1 && every test es

by_key {ℓ} : {A : Type ℓ} (test : ℕ → A → Bool) (n k : ℕ) (a other : A) (b : Bool) → eqb n k ≡ b → T (test k a) → T (test n other) → T (test n (cond b a other))
by_key test n k a other true q t s = subst (λ (x : ℕ). T (test x a)) (sym (eqb→eq n k (subst T (sym q) tt))) t
by_key test n k a other false q t s = s

pub held {ℓ} : {A : Type ℓ} (test : ℕ → A → Bool) (n : ℕ) (es : List (ℕ × A)) (other : A) → T (every test es) → T (test n other) → T (test n (select n es other))
held test n [] other t s = s
held test n (e ∷ es) other t s =
    let both = and_yes (test e.0 e.1) (every test es) t in
    by_key test n e.0 e.1 (select n es other) (eqb n e.0) refl both.0 (held test n es other both.1 s)

-- every entry passes
abbrev pub all {ℓ} : {A : Type ℓ} → (A → Bool) → List (Entry A) → Bool
all test [] = true
all test (e ∷ es) = test e.1 && all test es

by_answer {ℓ} : {A : Type ℓ} (test : A → Bool) (a b : A) (x : Bool) → T (test a) → T (test b) → T (test (cond x a b))
by_answer test a b true s t = s
by_answer test a b false s t = t

pub chosen-held {ℓ} : {A : Type ℓ} (test : A → Bool) (es : List (Entry A)) (word : ℕ) (other : A) → T (all test es) → T (test other) → T (test (chosen es word other))
chosen-held test [] word other t o = o
chosen-held test (e ∷ es) word other t o =
    let both = and_yes (test e.1) (all test es) t in
    by_answer test e.1 (chosen es word other) (answers e word) both.0 (chosen-held test es word other both.1 o)

-- so one that every entry passes and `other` does not tells whether an entry answers
tells {ℓ} : {A : Type ℓ} (test : A → Bool) (a b : A) (x y : Bool) → T (test a) → test b ≡ y → test (cond x a b) ≡ (x || y)
tells test a b true y s e = yes (test a) s
  where
    yes : (c : Bool) → T c → c ≡ true
    yes true t = refl
    yes false t = absurd t
tells test a b false y s e = e

pub told {ℓ} : {A : Type ℓ} (test : A → Bool) (es : List (Entry A)) (word : ℕ) (other : A) → T (all test es) → test other ≡ false → test (chosen es word other) ≡ answered es word
told test [] word other t o = o
told test (e ∷ es) word other t o =
    let both = and_yes (test e.1) (all test es) t in
    tells test e.1 (chosen es word other) (answers e word) (answered es word) both.0 (told test es word other both.1 o)
