-- A field that is known to have its value decides every field that lies within it. Once, over any word. Assumes nothing.
use mathlib.Core.Path.{◌≡◌, sym, ap, ◌∙◌}
use mathlib.Core.Bool.{Bool, ◌&&◌}
use Prim.Native.Nat.{ℕ, ◌+◌, ◌-◌, ◌≤◌}
use native.Mathlib.Omega.{arith}
use lib.Dec.{T, leb, leb→le}
use mir.Facts.{and_yes}
use Rattle.bits.specs.Part.{part}
use Rattle.bits.proofs.Laws.{part-part}
use Rattle.table.specs.Entry.{Field}

-- the word has the field's value there
abbrev pub Has : ℕ → Field → Type 0
Has word f = part word f.0 f.1 ≡ f.2

-- g's bits are among f's, and what stands there by f
abbrev pub inside : Field → Field → Bool
inside f g = leb f.0 g.0 && leb (g.0 + g.1) (f.0 + f.1)

abbrev pub value_in : Field → Field → ℕ
value_in f g = part f.2 (g.0 - f.0) g.1

pub decided : (word : ℕ) (f g : Field) → Has word f → T (inside f g) → part word g.0 g.1 ≡ value_in f g
decided word f g p t =
    let both = and_yes (leb f.0 g.0) (leb (g.0 + g.1) (f.0 + f.1)) t in
    let low : f.0 ≤ g.0 = leb→le _ _ both.0 in
    let high : g.0 + g.1 ≤ f.0 + f.1 = leb→le _ _ both.1 in
    let at : g.0 ≡ f.0 + (g.0 - f.0) = omega arith in
    let fits : (g.0 - f.0) + g.1 ≤ f.1 = omega arith in
    ap (λ (x : ℕ). part word x g.1) at ∙ sym (part-part word f.0 f.1 (g.0 - f.0) g.1 fits) ∙ ap (λ (x : ℕ). part x (g.0 - f.0) g.1) p
