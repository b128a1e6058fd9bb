-- The lines of a text: the first ends with the first newline, or with the text. Assumes nothing.
use Rattle.std.proofs.Common.{◌≡◌, ℕ, zero, suc, ◌+◌, ◌-◌, ◌<◌, ◌≤◌, Bool, true, false, cond, eqb, List, [], ◌∷◌, length, get_or, take, drop, refl, ap, ◌∙◌, arith, length-append, length-drop, length-take, drop-drop}
use Rattle.text.specs.Ascii.{newline, starts_with}
use Rattle.text.proofs.RoundTrip.{starts_is}
use Rattle.script.specs.Line.{in_first, lines_of}
use Rattle.script.specs.inner.Going.{index_of, line_at}

-- where a byte was found, and where it wasn't
pub index-found : (b : ℕ) (t : List ℕ) (k : ℕ) → k < length t → eqb (get_or t k 0) b ≡ true → ((i : ℕ) → 0 ≤ i → i < k → eqb (get_or t i 0) b ≡ true → ⊥) → index_of b t ≡ k
index-found b [] k h e n = absurd (omega arith)
index-found b (c ∷ t) zero h e n = ap (λ (x : Bool). cond x 0 (suc (index_of b t))) e
index-found b (c ∷ t) (suc k) h e n =
    (elim (eqb c b) as (λ x. eqb c b ≡ x → cond x 0 (suc (index_of b t)) ≡ suc k) [
      | true ↦ λ q. absurd (n 0 (omega arith) (omega arith) q)
      | false ↦ λ q. ap suc (index-found b t k (omega arith) e (λ i l m. n (suc i) (omega arith) (omega arith)))
    ]) refl

pub index-none : (b : ℕ) (t : List ℕ) → ((i : ℕ) → 0 ≤ i → i < length t → eqb (get_or t i 0) b ≡ true → ⊥) → index_of b t ≡ length t
index-none b [] n = refl
index-none b (c ∷ t) n =
    (elim (eqb c b) as (λ x. eqb c b ≡ x → cond x 0 (suc (index_of b t)) ≡ suc (length t)) [
      | true ↦ λ q. absurd (n 0 (omega arith) (omega arith) q)
      | false ↦ λ q. ap suc (index-none b t (λ i l m. n (suc i) (omega arith) (omega arith)))
    ]) refl

-- the first line, and the others
first-line : (c : ℕ) (t : List ℕ) → let k = suc (index_of newline (c ∷ t)) in lines_of (c ∷ t) ≡ take k (c ∷ t) ∷ lines_of (drop k (c ∷ t))
unfolding lines_of
first-line c [] =
    elim (eqb c newline) as (λ b. let k = suc (cond b 0 (suc zero)) in cond b ((c ∷ []) ∷ []) ((c ∷ []) ∷ []) ≡ take k (c ∷ []) ∷ lines_of (drop k (c ∷ []))) [ true ↦ refl | false ↦ refl ]
first-line c (d ∷ u) = go (eqb c newline) (first-line d u)
  where
    go : (b : Bool) → let n = suc (index_of newline (d ∷ u)) in lines_of (d ∷ u) ≡ take n (d ∷ u) ∷ lines_of (drop n (d ∷ u)) →
        let k = suc (cond b 0 (suc (index_of newline (d ∷ u)))) in cond b ((c ∷ []) ∷ lines_of (d ∷ u)) (in_first c (lines_of (d ∷ u))) ≡ take k (c ∷ d ∷ u) ∷ lines_of (drop k (c ∷ d ∷ u))
    go true e = refl
    go false e = ap (in_first c) e

module _ (text : List ℕ) (at : ℕ) (h : at < length text) where
  -- where the line at a place ends
  pub line-within : at + length (line_at text at) ≤ length text
  line-within = omega (arith, length-take (suc (index_of newline (drop at text))) (drop at text), length-drop at text)

  pub line-some : 0 < length (line_at text at)
  line-some = omega (arith, length-take (suc (index_of newline (drop at text))) (drop at text), length-drop at text)

  -- it is the first of those that are left
  pub line_first : lines_of (drop at text) ≡ line_at text at ∷ lines_of (drop (at + length (line_at text at)) text)
  line_first =
      go (drop at text) (length-drop at text)
      ∙ ap (λ (t : List ℕ). line_at text at ∷ lines_of t) (cut (suc (index_of newline (drop at text))) (drop at text) ∙ drop-drop (length (line_at text at)) at text)
    where
      go : (t : List ℕ) → length t ≡ length text - at → let k = suc (index_of newline t) in lines_of t ≡ take k t ∷ lines_of (drop k t)
      go [] e = absurd (omega arith)
      go (c ∷ t) e = first-line c t

      cut : (k : ℕ) (t : List ℕ) → drop k t ≡ drop (length (take k t)) t
      cut zero t = refl
      cut (suc k) [] = refl
      cut (suc k) (c ∷ t) = cut k t

-- a part of as many bytes as the line has is the line
pub line-part : (k : ℕ) (t : List ℕ) → take (length (take k t)) t ≡ take k t
line-part zero t = refl
line-part (suc k) [] = refl
line-part (suc k) (c ∷ t) = ap (λ (l : List ℕ). c ∷ l) (line-part k t)

-- a word that stands at a place lies in the text
pub word-within : (word text : List ℕ) (at : ℕ) → 0 < length word → starts_with word (drop at text) ≡ true → at + length word ≤ length text
word-within word text at some e = omega (arith, length-drop at text, ap length (starts_is word (drop at text) e), length-append word (drop (length word) (drop at text)))
