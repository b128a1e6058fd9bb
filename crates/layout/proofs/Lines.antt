-- What going through the lines of a layout comes to, by the first of them; a line is read where it stands, and what is read stands there.
-- Assumes nothing.
use mathlib.Core.Path.{◌≡◌, refl, ap, ◌∙◌}
use mathlib.Core.Bool.{true, false, false≢true}
use mathlib.Core.List.{List, [], ◌∷◌}
use Prim.Native.Nat.{ℕ, zero, suc, ◌+◌, ◌-◌, ◌≤◌, ◌<◌}
use native.Mathlib.Omega.{arith}
use borrow.Author.Tests.{eq-eqb, eqb-true}
use lib.ListN.{length, drop, length-append, length-drop}
use Rattle.text.specs.Decimal.{decimal}
use Rattle.text.specs.Fields.{Words}
use Rattle.std.specs.Prelude.{Option, Some, None}
use Rattle.text.proofs.RoundTrip.{field-read, field_back}
use Rattle.text.proofs.Stands.{Stands, stands-then, stands_parts}
use Rattle.layout.specs.Layout.{line_of, lines_of}
use Rattle.layout.specs.Read.{window_at, ends_after, windows_at}

-- by the first line
module _ (text : List ℕ) (at left : ℕ) (some : 0 < left) where
  more : left ≡ suc (left - 1)
  more = omega arith

  module _ {w next : ℕ} (e : window_at text at ≡ Some (w, next)) where
    pub ends_more : ends_after text at left ≡ ends_after text next (left - 1)
    unfolding ends_after
    ends_more = ap (ends_after text at) more ∙ rw e

    pub windows-more : windows_at text at left ≡ w ∷ windows_at text next (left - 1)
    unfolding windows_at
    windows-more = ap (windows_at text at) more ∙ rw e

  module _ (e : window_at text at ≡ None) where
    pub ends-none : ends_after text at left ≡ false
    unfolding ends_after
    ends-none = ap (ends_after text at) more ∙ rw e

    pub windows-none : windows_at text at left ≡ []
    unfolding windows_at
    windows-none = ap (windows_at text at) more ∙ rw e

-- past the last line
pub windows-end : (text : List ℕ) (at left : ℕ) → left ≡ 0 → windows_at text at left ≡ []
unfolding windows_at
windows-end text at left e = rw e

module _ (text : List ℕ) where
  -- a line that was read lies in the text
  line-within : (at w next : ℕ) → window_at text at ≡ Some (w, next) → (at < next) × (next ≤ length text)
  line-within at w next e =
      let p = (field-read text at 10 w next e).piece in
      let long = length-append (decimal w) (10 ∷ []) in
      let rest = ap length p.found ∙ length-append (line_of w) (drop next text) in
      (omega (arith, p.place, long), omega (arith, p.place, long, rest, length-drop at text, length-drop next text))

  -- there are no more windows than bytes left
  pub windows-few : (left at : ℕ) → length (windows_at text at left) ≤ length text - at
  unfolding windows_at
  windows-few zero at = omega arith
  windows-few (suc left) at = go (window_at text at) refl (windows-few left)
    where
      go : (m : Option (ℕ × ℕ)) → window_at text at ≡ m → ((next : ℕ) → length (windows_at text next left) ≤ length text - next) → length (windows_at text at (suc left)) ≤ length text - at
      go None e on = rw e (omega arith)
      go (Some (w, next)) e on = let h = line-within at w next e in rw e (omega (arith, on next, h.0, h.1))

  -- the lines of some windows are read as those windows
  pub lines-back : (ws : List ℕ) (at : ℕ) → Words ws → Stands text at (lines_of ws) (length text) → (ends_after text at (length ws) ≡ true) × (windows_at text at (length ws) ≡ ws)
  unfolding ends_after windows_at
  lines-back [] at b s = (eq-eqb at (length text) (omega (arith, s.place)), refl)
  lines-back (w ∷ ws) at b s =
      let p = stands_parts (line_of w) s in
      let e = field_back text at 10 w _ refl b.0 p.0 in
      let on = lines-back ws (at + length (line_of w)) b.1 p.1 in
      (rw e on.0, rw e (ap (λ (vs : List ℕ). w ∷ vs) on.1))

-- lines that end the text stand there
pub record LinesRead (text : List ℕ) (at left : ℕ) : Type 0 where
  pub long : length (windows_at text at left) ≡ left
  pub words : Words (windows_at text at left)
  pub stands : Stands text at (lines_of (windows_at text at left)) (length text)

module _ (text : List ℕ) where
  pub lines-read : (left at : ℕ) → ends_after text at left ≡ true → LinesRead text at left
  unfolding ends_after windows_at
  lines-read zero at e =
      let p = eqb-true at (length text) e in
      record { long = refl; words = tt; stands = record { found = ap (λ (k : ℕ). drop k text) p; place = omega arith } }
  lines-read (suc left) at e = go (window_at text at) refl (lines-read left)
    where
      go : (m : Option (ℕ × ℕ)) → window_at text at ≡ m → ((next : ℕ) → ends_after text next left ≡ true → LinesRead text next left) → LinesRead text at (suc left)
      go None f on = absurd (false≢true (rw f at e))
      go (Some (w, next)) f on =
          let r = field-read text at 10 w next f in
          let rest = on next (rw f at e) in
          record { long = rw f (ap suc rest.long); words = rw f (r.words.0, rest.words); stands = rw f (stands-then r.piece rest.stands) }
