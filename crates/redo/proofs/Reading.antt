-- What looking through a text comes to, a case at a time: a place past the text's end is its end, where no last line stands. Assumes nothing.
use mathlib.Core.Path.{◌≡◌, sym, ap, ◌∙◌}
use mathlib.Core.Bool.{true, decide_iff}
use mathlib.Core.List.{List, List-discrete}
use Prim.Native.Nat.{ℕ, suc, ◌+◌, ◌-◌, ◌≤◌, ◌<◌, min}
use native.Mathlib.Decide.{ℕ_discrete, dec_lt}
use native.Mathlib.Omega.{arith}
use lib.ListN.{length, drop, length-drop, drop_of_length-le}
use lib.Seq.{drop-length}
use Rattle.std.specs.Prelude.{Some, None}
use Rattle.text.specs.Ascii.{same_text}
use Rattle.redo.specs.Read.{change_at, after_lines}
use Rattle.redo.specs.Redo.{end_line}
use Rattle.redo.specs.declared.Change.{Change}

-- the place after some lines, by the first of them
module _ (text : List ℕ) (at left : ℕ) (some : 0 < left) where
  pub after_more : {c : Change} {next : ℕ} → change_at text at ≡ Some (c, next) → after_lines text at left ≡ after_lines text next (left - 1)
  unfolding after_lines
  after_more {c} {next} e =
      let more : left ≡ suc (left - 1) = omega arith in
      ap (after_lines text at) more ∙ rw e

  pub after_none : change_at text at ≡ None → after_lines text at left ≡ None
  unfolding after_lines
  after_none e =
      let more : left ≡ suc (left - 1) = omega arith in
      ap (after_lines text at) more ∙ rw e

-- what stands past a place, or past the text's end
pub past-drop : (text : List ℕ) (k : ℕ) → drop (min k (length text)) text ≡ drop k text
past-drop text k =
    elim (dec_lt (length text) k) [
      | yes h ↦
          let e : min k (length text) ≡ length text = omega arith in
          let l : length text ≤ k = omega arith in
          rw e (drop-length text ∙ sym (drop_of_length-le text l))
      | no h ↦ let e : min k (length text) ≡ k = omega arith in rw e
    ]

-- the last line ends the text
pub last-is : (text : List ℕ) (k : ℕ) → same_text (drop k text) end_line ≡ true → drop k text ≡ end_line
last-is text k t = (decide_iff (List-discrete ℕ_discrete (drop k text) end_line)).0 t

pub last_within : (text : List ℕ) (k : ℕ) → same_text (drop k text) end_line ≡ true → k + 4 ≡ length text
last_within text k t = let e = ap length (last-is text k t) in omega (arith, e, length-drop k text)

-- the places after a sheet and a layout of so many bytes, each at most the text's end
module _ (text : List ℕ) (sheet n m layout end : ℕ) (l : layout ≡ min (sheet + n) (length text)) (e : end ≡ min (layout + m) (length text)) where
  pub end-drop : drop end text ≡ drop (sheet + n + m) text
  end-drop =
      let same : end ≡ min (sheet + n + m) (length text) = omega arith in
      ap (λ (k : ℕ). drop k text) same ∙ past-drop text (sheet + n + m)

  pub places : same_text (drop end text) end_line ≡ true → (layout ≡ sheet + n) × (end ≡ sheet + n + m)
  places t = let w = last_within text end t in (omega arith, omega arith)
