-- A code with one bundle made anew: its length and every other byte stay, and the bundle reads as it was made. Where the bundle lies
-- in the code its front has just the length 16 * k. Assumes nothing.
use mathlib.Core.Path.{◌≡◌, sym, ap, ap₂, ◌∙◌}
use mathlib.Core.List.{List, [], ◌∷◌, ◌++◌}
use Prim.Native.Nat.{ℕ, zero, suc, ◌+◌, ◌*◌, ◌/◌, ◌<◌, ◌^◌}
use native.Mathlib.Nat.{mod-lt}
use native.Mathlib.Omega.{arith}
use lib.ListN.{length, take, drop, take-append-drop, length-append, length-drop}
use lib.Seq.{length-take-le, take_at, drop_at, drop-drop}
use lib.Pow.{pow_pos}
use Rattle.bundle.specs.Bytes.{number, bytes}
use Rattle.bundle.specs.Bundle.{number_at, bundle_at}
use Rattle.bundle.proofs.Bytes.{Bytes, length-bytes, number-bytes, bytes-number, bytes_take, bytes_drop}
use Rattle.bundle.proofs.Lies.{Lies, found-when}
use Rattle.bundle.proofs.Laws.{found-sixteen}
use Rattle.journal.specs.Change.{rewritten}

bytes-append : (xs ys : List ℕ) → Bytes xs → Bytes ys → Bytes (xs ++ ys)
bytes-append [] ys h g i = g i
bytes-append (x ∷ xs) ys h g zero = h 0
bytes-append (x ∷ xs) ys h g (suc i) = bytes-append xs ys (λ j. h (suc j)) g i

bytes-bytes : (k n : ℕ) → Bytes (bytes k n)
unfolding bytes
bytes-bytes zero n i = pow_pos 8
bytes-bytes (suc k) n zero = mod-lt n (pow_pos 8)
bytes-bytes (suc k) n (suc i) = bytes-bytes k (n / 2 ^ 8) i

module _ (code : List ℕ) (k : ℕ) (l : Lies code k) where
  front : length (take (16 * k) code) ≡ 16 * k
  front = length-take-le (16 * k) code (let h = l.within in omega arith)

  sixteen : length (bundle_at code k) ≡ 16
  sixteen = found-sixteen code k (found-when code k l)

  pub rewritten-before : (n : ℕ) → take (16 * k) (rewritten code k n) ≡ take (16 * k) code
  unfolding rewritten
  rewritten-before n = take_at (take (16 * k) code) _ (16 * k) front

  from : (n : ℕ) → drop (16 * k) (rewritten code k n) ≡ bytes 16 n ++ drop (16 * k + 16) code
  unfolding rewritten
  from n = drop_at (take (16 * k) code) _ (16 * k) front

  pub rewritten-past : (n : ℕ) → drop (16 * k + 16) (rewritten code k n) ≡ drop (16 * k + 16) code
  rewritten-past n = sym (drop-drop 16 (16 * k) (rewritten code k n)) ∙ ap (drop 16) (from n) ∙ drop_at (bytes 16 n) _ 16 (length-bytes 16 n)

  pub rewritten-number : (n : ℕ) → n < 2 ^ 128 → number_at (rewritten code k n) k ≡ n
  rewritten-number n h =
      ap (λ (r : List ℕ). number (take 16 r)) (from n)
      ∙ ap number (take_at (bytes 16 n) _ 16 (length-bytes 16 n))
      ∙ number-bytes 16 n h

  pub rewritten-length : (n : ℕ) → length (rewritten code k n) ≡ length code
  unfolding rewritten
  rewritten-length n = let h = l.within in simp (length-append, front, length-bytes, length-drop) (omega arith)

  pub rewritten-twice : (n m : ℕ) → rewritten (rewritten code k n) k m ≡ rewritten code k m
  unfolding rewritten
  rewritten-twice n m = ap₂ (λ (a b : List ℕ). a ++ (bytes 16 m ++ b)) (rewritten-before n) (rewritten-past n)

  module _ (b : Bytes code) where
    pub rewritten-bytes : (n : ℕ) → Bytes (rewritten code k n)
    unfolding rewritten
    rewritten-bytes n =
        bytes-append (take (16 * k) code) _ (bytes_take (16 * k) code b)
        (bytes-append (bytes 16 n) _ (bytes-bytes 16 n) (bytes_drop (16 * k + 16) code b))

    -- a bundle made as it is
    pub rewritten-own : rewritten code k (number_at code k) ≡ code
    unfolding rewritten
    rewritten-own =
        ap₂ (λ (m r : List ℕ). take (16 * k) code ++ (m ++ r)) own (sym (drop-drop 16 (16 * k) code))
        ∙ ap (λ (r : List ℕ). take (16 * k) code ++ r) (take-append-drop 16 (drop (16 * k) code))
        ∙ take-append-drop (16 * k) code
      where
        own : bytes 16 (number_at code k) ≡ bundle_at code k
        own =
            ap (λ (m : ℕ). bytes m (number_at code k)) (sym sixteen)
            ∙ bytes-number (bundle_at code k) (bytes_take 16 (drop (16 * k) code) (bytes_drop (16 * k) code b))
