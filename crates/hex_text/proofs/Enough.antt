-- A text of hex bytes is decided by its first characters: three for each byte that there is room for, and two more.
-- By induction on the room. Assumes nothing.
use mathlib.Core.Path.{◌≡◌, refl, sym}
use mathlib.Core.List.{List, [], ◌∷◌}
use Prim.Native.Nat.{ℕ, zero, suc, ◌+◌, ◌*◌}
use native.Mathlib.Omega.{arith}
use lib.ListN.{take, drop}
use lib.Seq.{take-nil}
use Rattle.hex_text.specs.Hex.{front, parted, pair_of, hex_bytes}

front-two : (t : List ℕ) → front 0 (take 2 t) ≡ front 0 t
unfolding front pair_of
front-two [] = refl
front-two (a ∷ []) = refl
front-two (a ∷ b ∷ t) = refl

parted-one : (k : ℕ) (t : List ℕ) → parted (take (suc k) t) ≡ parted t
unfolding parted
parted-one k [] = refl
parted-one k (c ∷ t) = refl

pub front-three : (room k : ℕ) (t : List ℕ) → front room (take (suc (suc (suc k))) t) ≡ front room t
unfolding front
front-three room k [] = refl
front-three room k (a ∷ []) = refl
front-three room k (a ∷ b ∷ t) = rw (parted-one k t)

drop-three : (k : ℕ) (t : List ℕ) → drop 3 (take (suc (suc (suc k))) t) ≡ take k (drop 3 t)
drop-three k [] = sym (take-nil k)
drop-three k (a ∷ []) = sym (take-nil k)
drop-three k (a ∷ b ∷ []) = sym (take-nil k)
drop-three k (a ∷ b ∷ c ∷ t) = refl

-- as many characters as decide
abbrev pub decisive : ℕ → ℕ
decisive room = 3 * room + 2

pub enough : (room : ℕ) (t : List ℕ) → hex_bytes room (take (decisive room) t) ≡ hex_bytes room t
unfolding hex_bytes
enough zero t = rw (front-two t)
enough (suc room) t =
    let e : decisive (suc room) ≡ suc (suc (suc (decisive room))) = omega arith in
    rw (e, front-three (suc room) (decisive room) t, drop-three (decisive room) t, enough room (drop 3 t))
