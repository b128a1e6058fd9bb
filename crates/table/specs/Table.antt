-- A table: entries with a number for a key. Assumes nothing.
use Rattle.std.specs.Prelude.{ℕ, cond, List, [], ◌∷◌, eqb}

-- what the first entry with the key has, and `other` where no entry has the key
abbrev pub select {ℓ} : {A : Type ℓ} → ℕ → List (ℕ × A) → A → A
select key [] other = other
select key (e ∷ es) other = cond (eqb key e.0) e.1 (select key es other)
