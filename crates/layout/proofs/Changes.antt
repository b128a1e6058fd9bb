-- The windows other than one, taken a window at a time, and that a window is listed as was asked. Assumes nothing.
use mathlib.Core.Path.{◌≡◌, refl, sym, ap, ap₂, ◌∙◌}
use mathlib.Core.Bool.{Bool, true, false, cond, ◌||◌}
use mathlib.Core.List.{List, [], ◌∷◌, ◌++◌, append_assoc, append-nil}
use Prim.Native.Nat.{ℕ, suc, ◌+◌, ◌≤◌}
use native.Mathlib.Decide.{ℕ_discrete}
use native.Mathlib.Omega.{arith}
use borrow.Author.Tests.{eq-eqb, ne_eqb}
use lib.Dec.{eqb}
use lib.ListN.{length, length-append}
use Rattle.layout.specs.Change.{lists, others, windows_with}
use Rattle.layout.specs.Layout.{first_line, line_of, lines_of, layout_of}
use Rattle.layout.specs.RoundTrip.{ListsAsAsked}
use Rattle.layout.specs.declared.Reading.{Reading}

pub lines-append : (vs ws : List ℕ) → lines_of (vs ++ ws) ≡ lines_of vs ++ lines_of ws
lines-append [] ws = refl
lines-append (v ∷ vs) ws = ap (λ (l : List ℕ). line_of v ++ l) (lines-append vs ws) ∙ sym (append_assoc (line_of v) (lines_of vs) (lines_of ws))

module _ (w : ℕ) where
  pub others-first : (v : ℕ) (vs : List ℕ) → others w (v ∷ vs) ≡ others w (v ∷ []) ++ others w vs
  others-first v vs = elim (eqb v w) as (λ t. cond t (others w vs) (v ∷ others w vs) ≡ cond t [] (v ∷ []) ++ others w vs) [ true ↦ refl | false ↦ refl ]

  pub others-few : (vs : List ℕ) → length (others w vs) ≤ length vs
  others-few [] = omega arith
  others-few (v ∷ vs) =
      let on = others-few vs in
      elim (eqb v w) as (λ t. length (cond t (others w vs) (v ∷ others w vs)) ≤ suc (length vs)) [ true ↦ omega arith | false ↦ omega arith ]

  pub count-first : (v : ℕ) (vs : List ℕ) → length (others w (v ∷ vs)) ≡ length (others w (v ∷ [])) + length (others w vs)
  count-first v vs = ap length (others-first v vs) ∙ length-append (others w (v ∷ [])) (others w vs)

  -- their lines
  pub lines-first : (v : ℕ) (vs : List ℕ) → lines_of (others w (v ∷ vs)) ≡ lines_of (others w (v ∷ [])) ++ lines_of (others w vs)
  lines-first v vs = ap lines_of (others-first v vs) ∙ lines-append (others w (v ∷ [])) (others w vs)

  -- among them w isn't, and any other is where it was
  others-own : (vs ws : List ℕ) → lists (others w vs ++ ws) w ≡ lists ws w
  others-own [] ws = refl
  others-own (v ∷ vs) ws =
      let on = others-own vs ws in
      elim (ℕ_discrete v w) [
        | yes e ↦ rw (eq-eqb v w e) on
        | no d ↦ rw (ne_eqb v w d, ne_eqb v w d) on
      ]

  others-other : (u : ℕ) → (u ≡ w → ⊥) → (vs ws : List ℕ) → lists ws u ≡ false → lists (others w vs ++ ws) u ≡ lists vs u
  others-other u d [] ws n = n
  others-other u d (v ∷ vs) ws n =
      let on = others-other u d vs ws n in
      elim (ℕ_discrete v w) [
        | yes e ↦ rw (eq-eqb v w e, ne_eqb v u (λ q. d (sym q ∙ e))) on
        | no n ↦ rw (ne_eqb v w n) (ap (λ (t : Bool). eqb v u || t) on)
      ]

pub lists-as-asked : ListsAsAsked
lists-as-asked w listed ws =
    record {
      own = others-own w ws (cond listed (w ∷ []) []) ∙ (elim listed as (λ t. lists (cond t (w ∷ []) []) w ≡ t) [ true ↦ rw (eq-eqb w w refl) | false ↦ refl ]);
      other = λ v d. others-other w v d ws (cond listed (w ∷ []) []) (elim listed as (λ t. lists (cond t (w ∷ []) []) v ≡ false) [ true ↦ rw (ne_eqb w v (λ e. d (sym e))) | false ↦ refl ]);
    }

-- the text of a layout with a window listed last, and with it not listed
module _ (reading : Reading) (w : ℕ) (ws : List ℕ) where
  pub layout-with : (first_line reading (length (others w ws) + 1) ++ lines_of (others w ws)) ++ line_of w ≡ layout_of (record { reading = reading; windows = windows_with w true ws })
  unfolding layout_of
  layout-with =
      let os = others w ws in
      append_assoc (first_line reading (length os + 1)) (lines_of os) (line_of w)
      ∙ ap (λ (l : List ℕ). first_line reading (length os + 1) ++ (lines_of os ++ l)) (sym (append-nil (line_of w)))
      ∙ ap₂ (λ (n : ℕ) (l : List ℕ). first_line reading n ++ l) (sym (length-append os (w ∷ []))) (sym (lines-append os (w ∷ [])))

  pub layout-without : first_line reading (length (others w ws)) ++ lines_of (others w ws) ≡ layout_of (record { reading = reading; windows = windows_with w false ws })
  unfolding layout_of
  layout-without = ap (λ (vs : List ℕ). first_line reading (length vs) ++ lines_of vs) (sym (append-nil (others w ws)))
