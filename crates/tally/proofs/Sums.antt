-- Two reports added up, a number at a time: which sums fit, and what adding hands back then. Assumes nothing.
use mathlib.Core.Path.{◌≡◌, refl, sym, ap}
use mathlib.Core.List.{List, [], ◌∷◌, ◌++◌, zip_with}
use Prim.Native.Nat.{ℕ, zero, suc, ◌+◌, ◌^◌, ◌≤◌, ◌<◌}
use native.Mathlib.Nat.{zero-add}
use native.Mathlib.Omega.{arith}
use lib.Dec.{leb}
use lib.ListN.{length, get_or, take, drop, set}
use lib.Seq.{take-suc, split_at, paste-suc}
use borrow.Author.Tests.{lt-ltb, le-ltb, le-leb, lt-leb}
use Rattle.answer.specs.Answer.{accepted, bad_value, too_long}
use Rattle.bundle.specs.Bundle.{longest_code}
use Rattle.tally.specs.Report.{how_many, report_of, plus, added_by, added_of}
use Rattle.tally.proofs.Lists.{count-append, count-cons}

pub plus-length : (a b : List ℕ) → length a ≡ length b → length (plus a b) ≡ length a
unfolding zip_with
plus-length [] b e = refl
plus-length (x ∷ a) [] e = sym e
plus-length (x ∷ a) (y ∷ b) e = ap suc (plus-length a b (omega arith))

pub plus-at : (a b : List ℕ) (i : ℕ) → i < length a → i < length b → get_or (plus a b) i 0 ≡ get_or a i 0 + get_or b i 0
unfolding zip_with
plus-at [] b i h k = absurd (omega arith)
plus-at (x ∷ a) [] i h k = absurd (omega arith)
plus-at (x ∷ a) (y ∷ b) zero h k = refl
plus-at (x ∷ a) (y ∷ b) (suc i) h k = plus-at a b i (omega arith) (omega arith)

-- the sums as far as they are made, before what they were made of
pub sums-more : (report sums : List ℕ) (i : ℕ) → i < length report → i < length sums
    → set (take i sums ++ drop i report) i (get_or sums i 0) ≡ take (suc i) sums ++ drop (suc i) report
sums-more report sums i h k = simp zero-add at (paste-suc report 0 sums i 0 (omega arith) k)

-- how many numbers take more than 64 bits
abbrev pub large : List ℕ → ℕ
large l = how_many (leb (2 ^ 64)) l

pub large-cons : (x : ℕ) (l : List ℕ) → x < 2 ^ 64 → large l ≡ 0 → large (x ∷ l) ≡ 0
large-cons x l s e = rw (count-cons (leb (2 ^ 64)) x l, lt-leb (2 ^ 64) x s) (omega arith)

pub large-more : (l : List ℕ) (i : ℕ) → i < length l → get_or l i 0 < 2 ^ 64 → large (take i l) ≡ 0 → large (take (suc i) l) ≡ 0
large-more l i h s e =
    rw (take-suc l i 0 h, count-append (leb (2 ^ 64)) (take i l) (get_or l i 0 ∷ []), lt-leb (2 ^ 64) (get_or l i 0) s) (omega arith)

pub large-some : (l : List ℕ) (i : ℕ) → i < length l → 2 ^ 64 ≤ get_or l i 0 → 0 < large l
large-some l i h s =
    rw (ap large (split_at l i 0 h), count-append (leb (2 ^ 64)) (take i l) (get_or l i 0 ∷ drop (suc i) l), count-cons (leb (2 ^ 64)) (get_or l i 0) (drop (suc i) l), le-leb (2 ^ 64) (get_or l i 0) s)
    (omega arith)

pub added-fits : (report more : List ℕ) → large (plus report more) ≡ 0 → added_by [] report more ≡ record { answer = accepted; report = plus report more }
unfolding added_by
added-fits report more e = rw (le-ltb 0 (large (plus report more)) (omega arith))

pub added-large : (report more : List ℕ) → 0 < large (plus report more) → added_by [] report more ≡ record { answer = bad_value; report = report }
unfolding added_by
added-large report more h = rw (lt-ltb 0 (large (plus report more)) h)

-- an image by its length
module _ (report image : List ℕ) where
  pub long_kept : longest_code < length image → added_of report image ≡ record { answer = too_long; report = report }
  unfolding added_of added_by
  long_kept h = rw (lt-ltb longest_code (length image) h)

  pub short-added : length image ≤ longest_code → added_of report image ≡ added_by [] report (report_of image)
  unfolding added_of added_by
  short-added h = rw (le-ltb longest_code (length image) h)
