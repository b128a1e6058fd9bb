-- Cutting and joining are inverse to each other: joining what was cut gives the bundle's bytes back, and cutting what was joined
-- gives the tag and the slots back. The bytes, the number and its parts say the same. Assumes nothing.
use mathlib.Core.Path.{◌≡◌, sym, ap, ◌∙◌, subst}
use mathlib.Core.Bool.{false}
use mathlib.Core.List.{List, [], ◌∷◌, ◌++◌}
use Prim.Native.Nat.{ℕ, ◌+◌, ◌*◌, ◌≤◌, ◌<◌, ◌^◌}
use native.Mathlib.Nat.{le_of_suc-le-suc}
use native.Mathlib.Omega.{arith}
use borrow.Author.Tests.{le-ltb, lt-leb}
use lib.ListN.{length, drop, length-append, length-drop}
use lib.Seq.{take_at}
use Rattle.answer.specs.Answer.{accepted, first}
use Rattle.bits.proofs.Laws.{part-lt}
use Rattle.bundle.specs.Bytes.{number, bytes}
use Rattle.bundle.specs.Template.{reserved, template_of}
use Rattle.bundle.specs.Bundle.{longest_code, bundle_at, number_at, find_answer, Cut, cut_of, tag_of, slots_of, slot_of, joined, join_refusals, join_of}
use Rattle.bundle.proofs.Bytes.{Bytes, bytes-number, number-bytes, number_lt, length-bytes, bytes_take, bytes_drop}
use Rattle.bundle.proofs.Whole.{joined-cut, cut-joined, cut-joined-tag, joined-lt}
use Rattle.bundle.proofs.Laws.{Joinable, found-sixteen, cut-found, cut-done, join-done, joinable}

-- the number of sixteen bytes
number-sixteen : (l : List ℕ) → Bytes l → length l ≡ 16 → (number l < 2 ^ 128) × (bytes 16 (number l) ≡ l)
number-sixteen l h e =
    (subst (λ (n : ℕ). number l < 2 ^ (8 * n)) e (number_lt l h), ap (λ (n : ℕ). bytes n (number l)) (sym e) ∙ bytes-number l h)

-- bundle k was cut: it was found, and its tag isn't reserved
pub join-after-cut : (code out : List ℕ) (k : ℕ) → Bytes code → find_answer code k ≡ accepted → reserved (tag_of (number_at code k)) ≡ false → 16 ≤ length out
    → join_of (cut_of code k).template.tag (cut_of code k).slots out ≡ record { answer = accepted; out = bundle_at code k ++ drop 16 out }
join-after-cut code out k b found known room =
    let l = bundle_at code k in
    let n = number l in
    let s = number-sixteen l (bytes_take 16 (drop (16 * k) code) (bytes_drop (16 * k) code b)) (found-sixteen code k found) in
    let done : first (join_refusals (tag_of n) (slots_of n) (length out)) ≡ accepted =
    rw (
      le-ltb 31 (tag_of n) (le_of_suc-le-suc (part-lt n 0 5)),
      lt-leb (2 ^ 41) (slot_of n 0) (part-lt n 5 41),
      lt-leb (2 ^ 41) (slot_of n 1) (part-lt n 46 41),
      lt-leb (2 ^ 41) (slot_of n 2) (part-lt n 87 41),
      known,
      le-ltb (length out) 16 room,
    ) in
    ap (λ (c : Cut). join_of c.template.tag c.slots out) (cut-found code k found ∙ cut-done n known)
    ∙ join-done (tag_of n) (slots_of n) out done
    ∙ ap (λ r. record { answer = accepted; out = r ++ drop 16 out }) (ap (bytes 16) (joined-cut n s.0) ∙ s.1)

module _ (tag a b c : ℕ) (out : List ℕ) (short : length out ≤ longest_code) where
  n : ℕ
  n = joined tag (a ∷ b ∷ c ∷ [])

  code : List ℕ
  code = bytes 16 n ++ drop 16 out

  written : Joinable tag (a ∷ b ∷ c ∷ []) out → (find_answer code 0 ≡ accepted) × (number_at code 0 ≡ n)
  unfolding n code find_answer
  written j =
      let size : length (bytes 16 n ++ drop 16 out) ≡ length out = simp (length-append, length-bytes, length-drop) (omega (arith, j.room)) in
      let short' : length code ≤ longest_code = omega arith in
      let within : 16 * 0 + 16 ≤ length code = omega (arith, j.room) in (
        rw (le-ltb longest_code (length code) short', le-ltb (length code) (16 * 0 + 16) within),
        ap number (take_at (bytes 16 n) (drop 16 out) 16 (length-bytes 16 n)) ∙ number-bytes 16 n (joined-lt tag a b c j.fitting),
      )

  pub cut-after-join : (join_of tag (a ∷ b ∷ c ∷ []) out).answer ≡ accepted
      → cut_of (join_of tag (a ∷ b ∷ c ∷ []) out).out 0 ≡ record { answer = accepted; template = template_of tag; slots = a ∷ b ∷ c ∷ [] }
  unfolding join_of n code
  cut-after-join done =
      let j = joinable tag (a ∷ b ∷ c ∷ []) out done in
      let w = written j in
      let t : tag_of (number_at code 0) ≡ tag = ap tag_of w.1 ∙ cut-joined-tag tag a b c j.fitting in
      let s : slots_of (number_at code 0) ≡ a ∷ b ∷ c ∷ [] = ap slots_of w.1 ∙ cut-joined tag a b c j.fitting in
      ap (λ r. cut_of r.out 0) (join-done tag (a ∷ b ∷ c ∷ []) out done)
      ∙ cut-found code 0 w.0
      ∙ cut-done (number_at code 0) (ap reserved t ∙ j.known)
      ∙ (λ i. record { answer = accepted; template = template_of (t i); slots = s i })
