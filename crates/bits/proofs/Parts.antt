-- The laws of `gather` and `scatter`, over any list of parts: each goes through the list, by the laws of one part. Assumes nothing.
use mathlib.Core.Path.{◌≡◌, refl, sym, ap, ap₂, ◌∙◌}
use mathlib.Core.Bool.{Bool, true, false, ◌||◌}
use mathlib.Core.List.{[], ◌∷◌}
use mathlib.Core.Logic.{◌⊎◌, inl, inr, ⊎_elim}
use Prim.Native.Nat.{ℕ, ◌+◌, ◌/◌, ◌%◌, ◌≤◌, ◌<◌, ◌^◌}
use native.Mathlib.Nat.{div-one, mod-one, add_comm, mul_comm}
use native.Mathlib.Omega.{arith}
use lib.Dec.{T, leb, leb→le, le→leb, lit<}
use lib.Pow.{mod-pow-add}
use mir.Facts.{and_yes, or_yes}
use Rattle.bits.specs.Part.{part, above, put, bit}
use Rattle.bits.specs.Parts.{Parts, widths, gather, scatter, apart, apart_from, meet_not, separate, all_below}
use Rattle.bits.proofs.Laws.{part-lt, above-mod, above-div, above-lt, get-put, put-get, put-put, put-comm, put-lt, put-below, put-above, put-low-bits}

pub gather-lt : (n : ℕ) (ps : Parts) → gather n ps < 2 ^ widths ps
unfolding gather
gather-lt n [] = lit< tt
gather-lt n (p ∷ ps) = above-lt p.1 _ _ (part-lt n p.0 p.1) (widths ps) (gather-lt n ps)

-- a part of no width is not there
pub gather_none : (n p : ℕ) (ps : Parts) → gather n ((p, 0) ∷ ps) ≡ gather n ps
unfolding gather
gather_none n p ps = omega (arith, mod-one (n / 2 ^ p))

pub scatter-none : (n p : ℕ) (ps : Parts) (v : ℕ) → scatter n ((p, 0) ∷ ps) v ≡ scatter n ps v
unfolding scatter
scatter-none n p ps v =
    let same = put-low-bits n p 0 v ∙ ap (put n p 0) (mod-one v ∙ sym (mod-one (n / 2 ^ p))) ∙ put-get n p 0 in
    ap₂ (λ (m u : ℕ). scatter m ps u) same (div-one v)

pub scatter-lt : (m n : ℕ) (ps : Parts) (v : ℕ) → T (all_below m ps) → n < 2 ^ m → scatter n ps v < 2 ^ m
unfolding scatter
scatter-lt m n [] v t h = h
scatter-lt m n (p ∷ ps) v t h =
    let s = and_yes (leb (p.0 + p.1) m) (all_below m ps) t in
    scatter-lt m (put n p.0 p.1 v) ps (v / 2 ^ p.1) s.1 (put-lt n p.0 p.1 v m (leb→le _ _ s.0) h)

-- parts apart: one ends where the other begins or before, and so do those that lie within them
apart-sides : (p q : ℕ × ℕ) → T (apart p q) → (p.0 + p.1 ≤ q.0) ⊎ (q.0 + q.1 ≤ p.0)
apart-sides p q t = ⊎_elim (λ h. inl (leb→le _ _ h)) (λ h. inr (leb→le _ _ h)) (or_yes (leb (p.0 + p.1) q.0) (leb (q.0 + q.1) p.0) t)

yes-or : (a b : Bool) → T a ⊎ T b → T (a || b)
yes-or true b t = tt
yes-or false b (inl t) = absurd t
yes-or false b (inr t) = t

pub sides_apart : (p q : ℕ × ℕ) → (p.0 + p.1 ≤ q.0) ⊎ (q.0 + q.1 ≤ p.0) → T (apart p q)
sides_apart p q h =
    yes-or (leb (p.0 + p.1) q.0) (leb (q.0 + q.1) p.0) (⊎_elim (λ l. inl (le→leb _ _ l)) (λ l. inr (le→leb _ _ l)) h)

pub apart-within : (p q r s : ℕ × ℕ) → T (apart r s) → r.0 ≤ p.0 → p.0 + p.1 ≤ r.0 + r.1 → s.0 ≤ q.0 → q.0 + q.1 ≤ s.0 + s.1 → T (apart p q)
apart-within p q r s t a b c d = sides_apart p q (⊎_elim (λ h. inl (omega arith)) (λ h. inr (omega arith)) (apart-sides r s t))

-- writes into parts apart

part_apart : (n : ℕ) (p q : ℕ × ℕ) (v : ℕ) → T (apart q p) → part (put n p.0 p.1 v) q.0 q.1 ≡ part n q.0 q.1
part_apart n p q v t = ⊎_elim (put-below n p.0 p.1 v q.0 q.1) (put-above n p.0 p.1 v q.0 q.1) (apart-sides q p t)

put-apart : (n : ℕ) (p q : ℕ × ℕ) (v u : ℕ) → T (apart q p)
    → put (put n p.0 p.1 v) q.0 q.1 u ≡ put (put n q.0 q.1 u) p.0 p.1 v
put-apart n p q v u t =
    ⊎_elim (λ h. sym (put-comm n q.0 q.1 u p.0 p.1 v h)) (put-comm n p.0 p.1 v q.0 q.1 u) (apart-sides q p t)

-- a part apart from the others reads as before, and writing it can be done first
pub part-scatter : (n : ℕ) (q : ℕ × ℕ) (ps : Parts) (v : ℕ) → T (apart_from q ps) → part (scatter n ps v) q.0 q.1 ≡ part n q.0 q.1
unfolding scatter
part-scatter n q [] v t = refl
part-scatter n q (p ∷ ps) v t =
    let s = and_yes (apart q p) (apart_from q ps) t in
    part-scatter (put n p.0 p.1 v) q ps (v / 2 ^ p.1) s.1 ∙ part_apart n p q v s.0

put-scatter : (n : ℕ) (q : ℕ × ℕ) (ps : Parts) (v u : ℕ) → T (apart_from q ps)
    → put (scatter n ps v) q.0 q.1 u ≡ scatter (put n q.0 q.1 u) ps v
unfolding scatter
put-scatter n q [] v u t = refl
put-scatter n q (p ∷ ps) v u t =
    let s = and_yes (apart q p) (apart_from q ps) t in
    put-scatter (put n p.0 p.1 v) q ps (v / 2 ^ p.1) u s.1 ∙ ap (λ (x : ℕ). scatter x ps (v / 2 ^ p.1)) (put-apart n p q v u s.0)

-- what was written is read
pub gather-scatter : (n : ℕ) (ps : Parts) (v : ℕ) → T (separate ps) → gather (scatter n ps v) ps ≡ v % 2 ^ widths ps
unfolding gather scatter
gather-scatter n [] v t = sym (mod-one v)
gather-scatter n (p ∷ ps) v t =
    let s = and_yes (apart_from p ps) (separate ps) t in
    ap₂ (above p.1) (part-scatter (put n p.0 p.1 v) p ps (v / 2 ^ p.1) s.0 ∙ get-put n p.0 p.1 v) (gather-scatter (put n p.0 p.1 v) ps (v / 2 ^ p.1) s.1)
    ∙ add_comm (v % 2 ^ p.1) _
    ∙ ap (λ (x : ℕ). x + v % 2 ^ p.1) (mul_comm (2 ^ p.1) _)
    ∙ sym (mod-pow-add v (widths ps) p.1)
    ∙ ap (λ (x : ℕ). v % 2 ^ x) (add_comm (widths ps) p.1)

-- what is there, written again, changes nothing
pub scatter-gather : (n : ℕ) (ps : Parts) → scatter n ps (gather n ps) ≡ n
unfolding gather scatter
scatter-gather n [] = refl
scatter-gather n (p ∷ ps) =
    let low = part-lt n p.0 p.1 in
    let same =
    put-low-bits n p.0 p.1 _ ∙ ap (put n p.0 p.1) (above-mod p.1 _ (gather n ps) low) ∙ put-get n p.0 p.1 in
    ap₂ (λ (x v : ℕ). scatter x ps v) same (above-div p.1 _ (gather n ps) low) ∙ scatter-gather n ps

-- of two writes into the same parts the second stands
pub scatter-scatter : (n : ℕ) (ps : Parts) (u v : ℕ) → T (separate ps) → scatter (scatter n ps u) ps v ≡ scatter n ps v
unfolding scatter
scatter-scatter n [] u v t = refl
scatter-scatter n (p ∷ ps) u v t =
    let s = and_yes (apart_from p ps) (separate ps) t in
    ap (λ (x : ℕ). scatter x ps (v / 2 ^ p.1))
    (put-scatter _ p ps _ v s.0 ∙ ap (λ (x : ℕ). scatter x ps (u / 2 ^ p.1)) (put-put n p.0 p.1 u v))
    ∙ scatter-scatter (put n p.0 p.1 v) ps (u / 2 ^ p.1) (v / 2 ^ p.1) s.1

-- writes into parts that don't meet commute
pub scatter-comm : (n : ℕ) (ps qs : Parts) (u v : ℕ) → T (meet_not qs ps) → scatter (scatter n ps u) qs v ≡ scatter (scatter n qs v) ps u
unfolding scatter
scatter-comm n ps [] u v t = refl
scatter-comm n ps (q ∷ qs) u v t =
    let s = and_yes (apart_from q ps) (meet_not qs ps) t in
    ap (λ (x : ℕ). scatter x qs (v / 2 ^ q.1)) (put-scatter n q ps u v s.0) ∙ scatter-comm (put n q.0 q.1 v) ps qs u (v / 2 ^ q.1) s.1

-- no other bit changes
pub scatter-bit : (n i : ℕ) (ps : Parts) (v : ℕ) → T (apart_from (i, 1) ps) → bit (scatter n ps v) i ≡ bit n i
scatter-bit n i ps v t = part-scatter n (i, 1) ps v t
