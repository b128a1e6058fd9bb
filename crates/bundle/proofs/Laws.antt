-- What loading, cutting and joining come to, case by case. Each case takes the list of refusals as far as it goes.
-- Assumes nothing.
use mathlib.Core.Path.{◌≡◌, refl, ap, subst}
use mathlib.Core.Bool.{Bool, true, false, cond, ◌||◌}
use mathlib.Core.List.{List, ◌++◌}
use Prim.Native.Nat.{ℕ, ◌*◌, ◌≤◌, ◌<◌, ◌^◌, suc-le-suc}
use native.Mathlib.Omega.{arith}
use borrow.Author.Tests.{ltb-false, leb-false}
use lib.Dec.{T, eqb, ltb, leb}
use lib.ListN.{length, get_or, drop, length-drop}
use lib.Seq.{length-take-le}
use Rattle.answer.specs.Answer.{accepted, bad_bundle, first}
use Rattle.answer.proofs.Laws.{none-applies, refuses}
use Rattle.bundle.specs.Bytes.{bytes}
use Rattle.bundle.specs.Template.{reserved, template_of}
use Rattle.bundle.specs.Bundle.{bundle_at, number_at, find_answer, tag_of, slots_of, halves_of, whole, joined, loaded_of, bundle_refusals, cut_number, uncut, cut_of, join_refusals, join_of}
use Rattle.bundle.proofs.Bytes.{Bytes, number_lt, bytes_take, bytes_drop}
use Rattle.bundle.proofs.Whole.{Fitting, tag-of-whole, slots-of-whole}
use Rattle.bundle.proofs.Lies.{lies}

-- a number by whether its tag is reserved
module _ (n : ℕ) where
  pub cut-reserved : reserved (tag_of n) ≡ true → cut_number n ≡ record { answer = bad_bundle; template = template_of (tag_of n); slots = slots_of 0 }
  unfolding cut_number
  cut-reserved r = rw r

  pub cut-done : reserved (tag_of n) ≡ false → cut_number n ≡ record { answer = accepted; template = template_of (tag_of n); slots = slots_of n }
  unfolding cut_number
  cut-done r = rw r

  -- its tag and slots lie in its halves
  cut-whole : cut_number (whole (halves_of n)) ≡ cut_number n
  unfolding cut_number
  cut-whole =
      let answer = first (bundle_refusals n) in
      let slots = elim (eqb answer accepted) as (λ b. slots_of (cond b (whole (halves_of n)) 0) ≡ slots_of (cond b n 0)) [ true ↦ slots-of-whole n | false ↦ refl ] in
      rw (tag-of-whole n) (λ i. record { answer = answer; template = template_of (tag_of n); slots = slots i })

module _ (code : List ℕ) (k : ℕ) where
  module _ (refused : find_answer code k ≡ accepted → ⊥) where
    pub loaded-not-found : loaded_of code k ≡ record { answer = find_answer code k; halves = halves_of 0 }
    unfolding loaded_of
    loaded-not-found = rw (refuses (find_answer code k) (number_at code k) 0 refused)

    pub cut-not-found : cut_of code k ≡ uncut (find_answer code k)
    unfolding loaded_of cut_of
    cut-not-found = refuses (find_answer code k) _ (uncut (find_answer code k)) refused

  module _ (found : find_answer code k ≡ accepted) where
    pub loaded_found : loaded_of code k ≡ record { answer = accepted; halves = halves_of (number_at code k) }
    unfolding loaded_of
    loaded_found = rw found

    pub cut-found : cut_of code k ≡ cut_number (number_at code k)
    unfolding cut_of
    cut-found = rw loaded_found (cut-whole (number_at code k))

    pub found-sixteen : length (bundle_at code k) ≡ 16
    found-sixteen =
        let h = lies code k found in
        let e : 16 ≤ length (drop (16 * k) code) = simp length-drop (omega arith) in
        length-take-le 16 (drop (16 * k) code) e

    -- sixteen bytes are a number below 2 ^ 128
    pub number-at-lt : Bytes code → number_at code k < 2 ^ 128
    number-at-lt b =
        subst (λ (n : ℕ). number_at code k < 2 ^ (8 * n)) found-sixteen
        (number_lt (bundle_at code k) (bytes_take 16 (drop (16 * k) code) (bytes_drop (16 * k) code b)))

pub or-false : (a b : Bool) → (a || b) ≡ false → (a ≡ false) × (b ≡ false)
or-false true b e = let z : ◌≡◌ {A = Bool} true false = e in (z, absurd (subst T z tt))
or-false false b e = (refl, e)

-- the tag and the slots fit, the tag isn't reserved, and there is room
pub record Joinable (tag : ℕ) (slots out : List ℕ) : Type 0 where
  pub fitting : Fitting tag (get_or slots 0 0) (get_or slots 1 0) (get_or slots 2 0)
  pub known : reserved tag ≡ false
  pub room : 16 ≤ length out

module _ (tag : ℕ) (slots out : List ℕ) where
  pub join-refused : (first (join_refusals tag slots (length out)) ≡ accepted → ⊥)
      → join_of tag slots out ≡ record { answer = first (join_refusals tag slots (length out)); out = out }
  unfolding join_of
  join-refused d = ap (λ l. record { answer = first (join_refusals tag slots (length out)); out = l }) (refuses (first (join_refusals tag slots (length out))) _ out d)

  module _ (done : first (join_refusals tag slots (length out)) ≡ accepted) where
    pub join-done : join_of tag slots out ≡ record { answer = accepted; out = bytes 16 (joined tag slots) ++ drop 16 out }
    unfolding join_of
    join-done = rw done

    pub joinable : Joinable tag slots out
    joinable =
        let n = none-applies (join_refusals tag slots (length out)) tt done in
        let f₂ = or-false _ (leb (2 ^ 41) (get_or slots 2 0)) n.0 in
        let f₁ = or-false _ (leb (2 ^ 41) (get_or slots 1 0)) f₂.0 in
        let f₀ = or-false (ltb 31 tag) (leb (2 ^ 41) (get_or slots 0 0)) f₁.0 in
        record {
          fitting = record {
            tag_fits = suc-le-suc (ltb-false 31 tag f₀.0);
            a-fits = leb-false _ _ f₀.1;
            b-fits = leb-false _ _ f₁.1;
            c-fits = leb-false _ _ f₂.1;
          };
          known = n.1.0;
          room = ltb-false _ _ n.1.1.0;
        }
