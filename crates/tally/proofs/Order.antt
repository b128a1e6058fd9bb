-- Images in any order: where no sum is refused, a report and two images add up to the same both ways, and each order comes of another by
-- such changes of two neighbours. Assumes nothing.
use mathlib.Core.Path.{◌≡◌, refl, sym, ap, ap₂, ◌∙◌}
use mathlib.Core.List.{List, [], ◌∷◌, ◌++◌, zip_with, Permᴰ}
use Prim.Native.Nat.{ℕ, ◌+◌, ◌^◌, ◌≤◌, ◌<◌}
use native.Mathlib.Nat.{add_assoc, add_right_comm}
use native.Mathlib.Decide.{ℕ_discrete, dec_lt}
use native.Mathlib.Omega.{arith}
use lib.Dec.{leb}
use lib.ListN.{length, length-append}
use borrow.Author.Tests.{lt-leb, le-leb, eqb-false}
use Rattle.answer.specs.Answer.{accepted, bad_value, too_long}
use Rattle.bundle.specs.Bundle.{longest_code}
use Rattle.tally.specs.Report.{Added, report_of, plus, added_by, added_of}
use Rattle.tally.specs.Holds.{added_all, JoinedAdds, AnyOrder}
use Rattle.tally.proofs.Lists.{count-cons}
use Rattle.tally.proofs.Sums.{large, large-cons, added-fits, added-large, long_kept, short-added}
use Rattle.tally.proofs.Reports.{report-size}
use Rattle.tally.proofs.Joins.{joined}

plus-swap : (r a b : List ℕ) → plus (plus r a) b ≡ plus (plus r b) a
unfolding zip_with
plus-swap [] a b = refl
plus-swap (x ∷ r) [] [] = refl
plus-swap (x ∷ r) [] (z ∷ b) = refl
plus-swap (x ∷ r) (y ∷ a) [] = refl
plus-swap (x ∷ r) (y ∷ a) (z ∷ b) = λ i. add_right_comm x y z i ∷ plus-swap r a b i

plus_assoc : (r a b : List ℕ) → plus r (plus a b) ≡ plus (plus r a) b
unfolding zip_with
plus_assoc [] a b = refl
plus_assoc (x ∷ r) [] b = refl
plus_assoc (x ∷ r) (y ∷ a) [] = refl
plus_assoc (x ∷ r) (y ∷ a) (z ∷ b) = ap₂ ◌∷◌ (sym (add_assoc x y z)) (plus_assoc r a b)

plus-short : (a b : List ℕ) → length (plus a b) ≤ length b
unfolding zip_with
plus-short [] b = omega arith
plus-short (x ∷ a) [] = omega arith
plus-short (x ∷ a) (y ∷ b) = omega (arith, plus-short a b)

small-cons : (x : ℕ) (l : List ℕ) → large (x ∷ l) ≡ 0 → (x < 2 ^ 64) × (large l ≡ 0)
small-cons x l e =
    let sums = sym (count-cons (leb (2 ^ 64)) x l) ∙ e in
    elim (dec_lt x (2 ^ 64)) [
      | yes h ↦ (h, omega (arith, rw (lt-leb (2 ^ 64) x h) at sums))
      | no h ↦ absurd (omega (arith, rw (le-leb (2 ^ 64) x (omega arith)) at sums))
    ]

-- what is added only makes numbers larger
large-kept : (a b : List ℕ) → length a ≤ length b → large (plus a b) ≡ 0 → large a ≡ 0
unfolding zip_with
large-kept [] b h e = refl
large-kept (x ∷ a) [] h e = absurd (omega arith)
large-kept (x ∷ a) (y ∷ b) h e =
    let s = small-cons (x + y) (plus a b) e in
    large-cons x a (omega arith) (large-kept a b (omega arith) s.1)

module _ (report image : List ℕ) where
  -- a sum that isn't refused fits
  short-fits : length image ≤ longest_code → ((added_of report image).answer ≡ bad_value → ⊥)
      → (large (plus report (report_of image)) ≡ 0) × (added_of report image ≡ record { answer = accepted; report = plus report (report_of image) })
  short-fits h d =
      elim (ℕ_discrete (large (plus report (report_of image))) 0) [
        | yes e ↦ (e, short-added report image h ∙ added-fits report (report_of image) e)
        | no n ↦ absurd (d (ap (λ (r : Added). r.answer) (short-added report image h ∙ added-large report (report_of image) (omega arith))))
      ]

pub swapped : (r a b : List ℕ) → ((added_of r b).answer ≡ bad_value → ⊥) → ((added_of (added_of r b).report a).answer ≡ bad_value → ⊥)
    → ((added_of r a).answer ≡ bad_value → ⊥) × ((added_of (added_of r a).report b).answer ≡ bad_value → ⊥)
    × ((added_of (added_of r a).report b).report ≡ (added_of (added_of r b).report a).report)
swapped r a b db da =
    elim (dec_lt longest_code (length a)) [
      | yes long ↦
          let kept : (x : List ℕ) → added_of x a ≡ record { answer = too_long; report = x } = λ x. long_kept x a long in
          (rw (kept r) (eqb-false too_long bad_value refl), rw (kept r) db, rw (kept r, kept (added_of r b).report))
      | no na ↦
          elim (dec_lt longest_code (length b)) [
            | yes long ↦
                let kept : (x : List ℕ) → added_of x b ≡ record { answer = too_long; report = x } = λ x. long_kept x b long in
                (rw (kept r) at da, rw (kept (added_of r a).report) (eqb-false too_long bad_value refl), rw (kept (added_of r a).report, kept r))
            | no nb ↦
                let A = report_of a in
                let B = report_of b in
                let fb = short-fits r b (omega arith) db in
                let fa = rw fb.1 at (short-fits (added_of r b).report a (omega arith) da) in
                let both : large (plus (plus r A) B) ≡ 0 = rw (plus-swap r A B) fa.0 in
                let one : large (plus r A) ≡ 0 = large-kept (plus r A) B (omega (arith, plus-short r A, report-size a, report-size b)) both in
                let first = short-added r a (omega arith) ∙ added-fits r A one in
                let second : added_of (added_of r a).report b ≡ record { answer = accepted; report = plus (plus r A) B } =
                rw first (short-added (plus r A) b (omega arith) ∙ added-fits (plus r A) B both) in (
                  rw first (eqb-false accepted bad_value refl),
                  rw second (eqb-false accepted bad_value refl),
                  rw (second, fb.1, fa.1) (plus-swap r A B),
                )
          ]
    ]

pub any_order : AnyOrder
any_order report images others Permᴰ.nil f = (f, refl)
any_order report images others (Permᴰ.cons e p) f =
    let h = any_order report _ _ p f.0 in
    ((h.0, rw (h.1, ← e) f.1), ap₂ (λ (r i : List ℕ). (added_of r i).report) h.1 (sym e))
any_order report images others (Permᴰ.swap {a = a} {b = b} {l = l} e₁ e₂) f =
    let s = swapped (added_all report l) a b f.0.1 f.1 in
    rw (← e₁, ← e₂) (((f.0.0, s.0), s.1), s.2)
any_order report images others (Permᴰ.trans p q) f =
    let h = any_order report _ _ p f in
    let k = any_order report _ _ q h.0 in
    (k.0, k.1 ∙ h.1)

pub joined-adds : JoinedAdds
joined-adds report a b whole short f =
    let A = report_of a in
    let B = report_of b in
    let fa = short-fits report a (omega (arith, length-append a b)) f.0.1 in
    let fb = short-fits (added_of report a).report b (omega (arith, length-append a b)) f.1 in
    let all : large (plus report (plus A B)) ≡ 0 = rw (plus_assoc report A B) (rw fa.1 at fb.0) in
    let both = ap (λ (x : Added). x.report) fb.1 ∙ ap (λ (x : Added). plus x.report B) fa.1 in
    short-added report (a ++ b) short ∙ ap (added_by [] report) (joined a b whole) ∙ added-fits report (plus A B) all
    ∙ ap (λ (l : List ℕ). record { answer = accepted; report = l }) (plus_assoc report A B ∙ sym both)
