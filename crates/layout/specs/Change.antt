-- Whether a layout lists a window, and the layout with a window listed or not. Assumes nothing.
use Rattle.std.specs.Prelude.{ℕ, Bool, false, cond, List, [], ◌∷◌, ◌++◌, eqb}
use Rattle.std.specs.List.{list_any}
use Rattle.std.proofs.Math.Option.{Option, none, some}
use Rattle.answer.specs.Answer.{bad_sheet}
use Rattle.text.specs.Whole.{Written, wrote_of}
use Rattle.layout.specs.Layout.{Layout, layout_of}
use Rattle.layout.specs.Read.{layout_in}

-- a window is among some
abbrev pub lists : List ℕ → ℕ → Bool
lists ws w = list_any (λ v. eqb v w) ws

-- those other than w
abbrev pub others : ℕ → List ℕ → List ℕ
others w [] = []
others w (v ∷ vs) = cond (eqb v w) (others w vs) (v ∷ others w vs)

-- these, and then w where it is listed
abbrev pub windows_with : ℕ → Bool → List ℕ → List ℕ
windows_with w listed ws = others w ws ++ cond listed (w ∷ []) []

abbrev pub with_window : ℕ → Bool → Layout → Layout
with_window w listed l = record { reading = l.reading; windows = windows_with w listed l.windows }

-- what `has` answers: no text that isn't a layout lists one
abbrev pub lists_by : ℕ → Option Layout → Bool
lists_by w none = false
lists_by w (some l) = lists l.windows w

abbrev pub has_of : List ℕ → ℕ → Bool
has_of text w = lists_by w (layout_in text)

-- what `with_window` comes to: the text of the layout with the window listed or not
abbrev pub changed_by : ℕ → Bool → List ℕ → Option Layout → Written × List ℕ
changed_by w listed out none = (record { answer = bad_sheet; length = 0 }, out)
changed_by w listed out (some l) = wrote_of [] (layout_of (with_window w listed l)) out

abbrev pub with_window_of : List ℕ → ℕ → Bool → List ℕ → Written × List ℕ
with_window_of text w listed out = changed_by w listed out (layout_in text)
