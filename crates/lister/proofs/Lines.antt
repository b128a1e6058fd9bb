-- The lines of a listing, spelled out. Each by its definition. Assumes nothing.
use mathlib.Core.Path.{◌≡◌, refl, sym, ap, ap₂, ◌∙◌}
use mathlib.Core.Bool.{Bool, true, false, false≢true}
use mathlib.Core.List.{List, [], ◌∷◌, ◌++◌, append-nil, append_assoc}
use Rattle.std.specs.Prelude.{Result, Ok, Err}
use Prim.Native.Nat.{ℕ, zero, suc, min, ◌+◌, ◌*◌, ◌/◌, ◌≤◌, ◌<◌}
use native.Mathlib.Numerals.{add-one}
use native.Mathlib.Omega.{arith}
use lib.ListN.{length, get_or, take}
use borrow.Author.Tests.{eq-eqb, ne_eqb, le-ltb}
use Rattle.answer.specs.Answer.{accepted, number_of, bad_bundle}
use Rattle.answer.specs.declared.Refusal.{Refusal}
use Rattle.answer.proofs.Laws.{no-acceptance}
use Rattle.bundle.specs.Bundle.{Cut, longest_code, find_answer, number_at, tag_of, cut_of, uncut, as_cut}
use Rattle.bundle.specs.Template.{units_of, reserved, marked, marked_units}
use Rattle.bundle.specs.declared.Bundle.{Bundle}
use Rattle.bundle.specs.declared.Uncut.{Uncut}
use Rattle.bundle.specs.declared.Uncut.TheVariants.{Missing, Reserved}
use Rattle.bundle.specs.declared.template.Template.{Template}
use Rattle.bundle.proofs.Laws.{cut-reserved, cut-done, cut-found}
use Rattle.bundle.proofs.Elements.{listed}
use Rattle.table.specs.Ascii.{ascii}
use Rattle.text.specs.Decimal.{decimal}
use Rattle.text.specs.Fields.{fields}
use Rattle.lister.specs.Listing.{WasFound, shown, end_of, bundle_line, bundle_lines, rest_of}

pub end-reserved : (b : Cut) → b.answer ≡ bad_bundle → end_of b ≡ ascii "reserved\n"
unfolding end_of
end-reserved b e = rw (eq-eqb b.answer bad_bundle e)

pub end-shown : (b : Cut) → (b.answer ≡ bad_bundle → ⊥) → end_of b ≡ shown b.template b.slots
unfolding end_of
end-shown b d = rw (ne_eqb b.answer bad_bundle d)

zero-is-known : reserved 0 ≡ true → ⊥
unfolding units_of
zero-is-known e = false≢true e

-- a bundle of a code is found
pub in-code : (code : List ℕ) (n : ℕ) → length code ≤ longest_code → n < length code / 16 → find_answer code n ≡ accepted
unfolding find_answer
in-code code n l h = rw (le-ltb longest_code (length code) l, le-ltb (length code) (16 * n + 16) (omega arith))

-- what is cut there
module _ (code : List ℕ) (n : ℕ) (found : find_answer code n ≡ accepted) where
  not-missing : (refusal : Refusal) → (t : Bool) → reserved (tag_of (number_at code n)) ≡ t → uncut (number_of refusal) ≡ cut_of code n → ⊥
  not-missing refusal false t e =
      no-acceptance refusal (ap (λ (c : Cut). c.answer) (e ∙ cut-found code n found ∙ cut-done (number_at code n) t))
  not-missing refusal true t e =
      let tag : 0 ≡ tag_of (number_at code n) = ap (λ (c : Cut). c.template.tag) (e ∙ cut-found code n found ∙ cut-reserved (number_at code n) t) in
      zero-is-known (ap reserved tag ∙ t)

  pub found-cut : (cut : Result Bundle Uncut) → as_cut cut ≡ cut_of code n → WasFound cut
  found-cut (Ok bundle) e = tt
  found-cut (Err (Reserved tag)) e = tt
  found-cut (Err (Missing refusal)) e = not-missing refusal (reserved (tag_of (number_at code n))) refl e

-- the first units of a template, each with its stop
abbrev pub marks : List ℕ → List Bool → List ℕ
marks [] stops = []
marks (u ∷ us) [] = []
marks (u ∷ us) (s ∷ stops) = marked u s ++ marks us stops

pub marks-next : (i : ℕ) (us : List ℕ) (stops : List Bool) → i < length us → i < length stops → marks (take (suc i) us) (take (suc i) stops) ≡ marks (take i us) (take i stops) ++ marked (get_or us i 0) (get_or stops i false)
marks-next i [] stops h g = absurd (omega arith)
marks-next i (u ∷ us) [] h g = absurd (omega arith)
marks-next zero (u ∷ us) (s ∷ stops) h g = append-nil (marked u s)
marks-next (suc i) (u ∷ us) (s ∷ stops) h g =
    ap (λ (l : List ℕ). marked u s ++ l) (marks-next i us stops (omega arith) (omega arith)) ∙ sym (append_assoc (marked u s) (marks (take i us) (take i stops)) (marked (get_or us i 0) (get_or stops i false)))

pub marks-all : (i : ℕ) (us : List ℕ) (stops : List Bool) → min (length us) (length stops) ≤ i → marks (take i us) (take i stops) ≡ marks us stops
marks-all zero [] stops h = refl
marks-all (suc i) [] stops h = refl
marks-all zero (u ∷ us) [] h = refl
marks-all (suc i) (u ∷ us) [] h = refl
marks-all zero (u ∷ us) (s ∷ stops) h = absurd (omega arith)
marks-all (suc i) (u ∷ us) (s ∷ stops) h = ap (λ (l : List ℕ). marked u s ++ l) (marks-all i us stops (omega arith))

three : (a b c : List ℕ) → a ++ (b ++ (c ++ [])) ≡ a ++ b ++ c
three a b c = ap (λ (l : List ℕ). a ++ (b ++ l)) (append-nil c) ∙ sym (append_assoc a b c)

pub marks-three : (t : Template) → length t.units ≡ 3 → length t.stops ≡ 3 → marks t.units t.stops ≡ marked_units t
unfolding marked_units
marks-three t u s =
    ap₂ marks (listed t.units 0 3 u) (listed t.stops false 3 s)
    ∙ three (marked (get_or t.units 0 0) (get_or t.stops 0 false)) (marked (get_or t.units 1 0) (get_or t.stops 1 false)) (marked (get_or t.units 2 0) (get_or t.stops 2 false))

-- a line's units and slots, as they are written
pub shown-is : (t : Template) (slots : List ℕ) → length slots ≡ 3 → marked_units t ++ (9 ∷ fields slots (9 ∷ 9 ∷ 10 ∷ [])) ≡ shown t slots
shown-is t slots h = ap (λ (l : List ℕ). marked_units t ++ (9 ∷ fields l (9 ∷ 9 ∷ 10 ∷ []))) (listed slots 0 3 h)

pub rest_some : (k : ℕ) → 0 < k → rest_of k ≡ ascii "rest\t" ++ (decimal k ++ (10 ∷ []))
unfolding rest_of
rest_some zero h = absurd (omega arith)
rest_some (suc k) h = refl

pub lines_more : (code : List ℕ) (n : ℕ) → bundle_lines code (n + 1) ≡ bundle_lines code n ++ bundle_line n (cut_of code n)
unfolding bundle_lines
lines_more code n = rw add-one
