-- A piece that stands in a text, from one place to another: two pieces that follow each other are one, and the other way round.
-- Assumes nothing.
use mathlib.Core.Path.{◌≡◌, refl, sym, ap, ◌∙◌}
use mathlib.Core.List.{List, ◌++◌, append_assoc, append-nil}
use Prim.Native.Nat.{ℕ, ◌+◌}
use native.Mathlib.Omega.{arith}
use lib.ListN.{length, drop, length-append}
use lib.Seq.{drop-drop, drop_at, drop-length}

-- the piece stands at `at` and ends at `next`
pub record Stands (text : List ℕ) (at : ℕ) (piece : List ℕ) (next : ℕ) : Type 0 where
  pub found : drop at text ≡ piece ++ drop next text
  pub place : next ≡ at + length piece

-- a text stands in itself
pub whole-stands : (text : List ℕ) → Stands text 0 text (length text)
whole-stands text = record { found = sym (ap (λ (l : List ℕ). text ++ l) (drop-length text) ∙ append-nil text); place = omega arith }

module _ {text : List ℕ} where
  -- the text goes on with the piece
  pub stands : (at : ℕ) (piece rest : List ℕ) → drop at text ≡ piece ++ rest → Stands text at piece (at + length piece)
  stands at piece rest e =
      let r : drop (at + length piece) text ≡ rest = sym (drop-drop (length piece) at text) ∙ ap (drop (length piece)) e ∙ drop_at piece rest (length piece) refl in
      record { found = e ∙ ap (λ (l : List ℕ). piece ++ l) (sym r); place = refl }

  pub stands-then : {at middle next : ℕ} {a b : List ℕ} → Stands text at a middle → Stands text middle b next → Stands text at (a ++ b) next
  stands-then {at} {middle} {next} {a} {b} s t =
      record {
        found = s.found ∙ ap (λ (l : List ℕ). a ++ l) t.found ∙ sym (append_assoc a b (drop next text));
        place = omega (arith, s.place, t.place, length-append a b);
      }

  -- the two parts of a piece
  pub stands_parts : {at next : ℕ} (a : List ℕ) {b : List ℕ} → Stands text at (a ++ b) next → Stands text at a (at + length a) × Stands text (at + length a) b next
  stands_parts {at} {next} a {b} s =
      let whole : drop at text ≡ a ++ (b ++ drop next text) = s.found ∙ append_assoc a b (drop next text) in
      let first = stands at a (b ++ drop next text) whole in
      let rest : drop (at + length a) text ≡ b ++ drop next text = sym (drop-drop (length a) at text) ∙ ap (drop (length a)) whole ∙ drop_at a (b ++ drop next text) (length a) refl in
      (first, record { found = rest; place = omega (arith, s.place, length-append a b) })
