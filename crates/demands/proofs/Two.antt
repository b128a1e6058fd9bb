-- Two bundles of one code: making the one anew leaves the other as it is, and the two can be made anew in either order. What stands behind
-- whole bundles is a code by itself, in which the later of the two lies. Assumes nothing.
use mathlib.Core.Path.{◌≡◌, refl, sym, ap, ap₂, ◌∙◌}
use mathlib.Core.List.{List, ◌++◌, append_assoc}
use Prim.Native.Nat.{ℕ, suc, ◌+◌, ◌-◌, ◌*◌, ◌<◌}
use native.Mathlib.Decide.{dec_lt}
use native.Mathlib.Omega.{arith}
use lib.ListN.{length, take, drop, take-append-drop, length-append}
use lib.Seq.{length-take-le, take_at, drop_at, drop-drop, take-append-add, drop-append-add}
use Rattle.bundle.specs.Bytes.{number, bytes}
use Rattle.bundle.specs.Bundle.{bundle_at, number_at}
use Rattle.bundle.proofs.Bytes.{length-bytes}
use Rattle.bundle.proofs.Laws.{found-sixteen}
use Rattle.bundle.proofs.Lies.{Lies, found-when}
use Rattle.journal.specs.Change.{rewritten}

-- bundles in front
module _ (a : List ℕ) (j : ℕ) (h : length a ≡ 16 * j) where
  -- what stands behind them
  module _ (c : List ℕ) (i : ℕ) where
    at : 16 * (j + i) ≡ length a + 16 * i
    at = omega arith

    past : 16 * (j + i) + 16 ≡ length a + (16 * i + 16)
    past = omega arith

    behind-number : number_at (a ++ c) (j + i) ≡ number_at c i
    behind-number = ap (λ (r : List ℕ). number (take 16 r)) (ap (λ (k : ℕ). drop k (a ++ c)) at ∙ drop-append-add a c (16 * i))

    behind : (n : ℕ) → rewritten (a ++ c) (j + i) n ≡ a ++ rewritten c i n
    unfolding rewritten
    behind n =
        ap₂ (λ (k m : ℕ). take k (a ++ c) ++ (bytes 16 n ++ drop m (a ++ c))) at past
        ∙ ap₂ (λ (f r : List ℕ). f ++ (bytes 16 n ++ r)) (take-append-add a c (16 * i)) (drop-append-add a c (16 * i + 16))
        ∙ append_assoc a (take (16 * i) c) _

  -- the bundle next to them
  module _ (b c : List ℕ) (sixteen : length b ≡ 16) where
    next-number : number_at (a ++ (b ++ c)) j ≡ number b
    next-number = ap (λ (r : List ℕ). number (take 16 r)) (drop_at a (b ++ c) (16 * j) h) ∙ ap number (take_at b c 16 sixteen)

    next : (n : ℕ) → rewritten (a ++ (b ++ c)) j n ≡ a ++ (bytes 16 n ++ c)
    unfolding rewritten
    next n =
        ap₂ (λ (f r : List ℕ). f ++ (bytes 16 n ++ r)) (take_at a (b ++ c) (16 * j) h)
        (sym (drop-drop 16 (16 * j) (a ++ (b ++ c))) ∙ ap (drop 16) (drop_at a (b ++ c) (16 * j) h) ∙ drop_at b c 16 sixteen)

-- bundle j of a code, and bundle k after it
module _ (code : List ℕ) (j k : ℕ) (l : Lies code k) (less : j < k) where
  abbrev front : List ℕ
  front = take (16 * j) code

  abbrev rest : List ℕ
  rest = drop (16 * j + 16) code

  before : Lies code j
  before = record { short = l.short; within = let h = l.within in omega arith }

  front_length : length front ≡ 16 * j
  front_length = length-take-le (16 * j) code (let h = l.within in omega arith)

  sixteen : length (bundle_at code j) ≡ 16
  sixteen = found-sixteen code j (found-when code j before)

  split : front ++ (bundle_at code j ++ rest) ≡ code
  split =
      ap (λ (r : List ℕ). front ++ (bundle_at code j ++ r)) (sym (drop-drop 16 (16 * j) code))
      ∙ ap (λ (r : List ℕ). front ++ r) (take-append-drop 16 (drop (16 * j) code))
      ∙ take-append-drop (16 * j) code

  -- with any bundle in j's place, k lies in the rest
  module _ (b : List ℕ) (h : length b ≡ 16) where
    ends : length (front ++ b) ≡ 16 * suc j
    ends = length-append front b ∙ omega (arith, front_length)

    is-k : k ≡ suc j + (k - suc j)
    is-k = omega arith

    later-number : number_at (front ++ (b ++ rest)) k ≡ number_at rest (k - suc j)
    later-number = ap₂ number_at (sym (append_assoc front b rest)) is-k ∙ behind-number (front ++ b) (suc j) ends rest (k - suc j)

    later : (n : ℕ) → rewritten (front ++ (b ++ rest)) k n ≡ front ++ (b ++ rewritten rest (k - suc j) n)
    later n =
        ap₂ (λ (c : List ℕ) (i : ℕ). rewritten c i n) (sym (append_assoc front b rest)) is-k
        ∙ behind (front ++ b) (suc j) ends rest (k - suc j) n
        ∙ append_assoc front b _

  k-anew : (n : ℕ) → rewritten code k n ≡ front ++ (bundle_at code j ++ rewritten rest (k - suc j) n)
  k-anew n = ap (λ (c : List ℕ). rewritten c k n) (sym split) ∙ later (bundle_at code j) sixteen n

  j-anew : (m : ℕ) → rewritten code j m ≡ front ++ (bytes 16 m ++ rest)
  unfolding rewritten
  j-anew m = refl

  k_stays : (m : ℕ) → number_at (rewritten code j m) k ≡ number_at code k
  k_stays m =
      ap (λ (c : List ℕ). number_at c k) (j-anew m)
      ∙ later-number (bytes 16 m) (length-bytes 16 m)
      ∙ sym (later-number (bundle_at code j) sixteen)
      ∙ ap (λ (c : List ℕ). number_at c k) split

  j-stays : (n : ℕ) → number_at (rewritten code k n) j ≡ number_at code j
  j-stays n = ap (λ (c : List ℕ). number_at c j) (k-anew n) ∙ next-number front j front_length (bundle_at code j) _ sixteen

  either_first : (m n : ℕ) → rewritten (rewritten code j m) k n ≡ rewritten (rewritten code k n) j m
  either_first m n =
      ap (λ (c : List ℕ). rewritten c k n) (j-anew m)
      ∙ later (bytes 16 m) (length-bytes 16 m) n
      ∙ sym (next front j front_length (bundle_at code j) (rewritten rest (k - suc j) n) sixteen m)
      ∙ sym (ap (λ (c : List ℕ). rewritten c j m) (k-anew n))

-- the same, whichever of the two comes first
module _ (code : List ℕ) (j k : ℕ) (lj : Lies code j) (lk : Lies code k) (d : j ≡ k → ⊥) where
  after : (j < k → ⊥) → k < j
  after h = elim (dec_lt k j) [ yes g ↦ g | no g ↦ absurd (d (omega arith)) ]

  pub rewritten-other : (m : ℕ) → number_at (rewritten code j m) k ≡ number_at code k
  rewritten-other m = elim (dec_lt j k) [ yes h ↦ k_stays code j k lk h m | no h ↦ j-stays code k j lj (after h) m ]

  pub rewritten-comm : (m n : ℕ) → rewritten (rewritten code j m) k n ≡ rewritten (rewritten code k n) j m
  rewritten-comm m n = elim (dec_lt j k) [ yes h ↦ either_first code j k lk h m n | no h ↦ sym (either_first code k j lj (after h) n m) ]
