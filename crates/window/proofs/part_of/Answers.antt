-- A case of what the part is at each return.
use Rattle.std.specs.Prelude.{Some}
use Rattle.std.proofs.Common.{◌≡◌, ℕ, ◌+◌, ◌-◌, arith, sym, ap, ◌∙◌}
use mathlib.Core.Path.{ap₂}
use Prim.Native.Nat.{min}
use Rattle.window.specs.Window.{span, cut_to}
use Rattle.window.specs.declared.Extent.{Extent}
use Rattle.window.specs.declared.Part.{Part}
use Rattle.window.proofs.Laws.{Lies, code-lies, part_none, part-empty, part-is}
use Rattle.window.proofs.part_of.Goals as goal

-- the numbers that were worked out are the definition's
same : (e : Extent) (window skipped first size rest room : ℕ) → skipped ≡ window - e.address → first ≡ e.address - window → rest ≡ e.size - skipped → room ≡ span - first → size ≡ min rest room → record { first = first; offset = e.offset + skipped; size = size } ≡ cut_to e window
same e window skipped first size rest room s f r o m =
    let n = m ∙ ap₂ min (r ∙ ap (λ (n : ℕ). e.size - n) s) (o ∙ ap (λ (n : ℕ). span - n) f) in
    λ i. record { first = f i; offset = e.offset + s i; size = n i }

pub returns-then-not-is_code : goal.returns-then-not-is_code
returns-then-not-is_code c = part_none _ _ (sym c.is_code.ensures ∙ c.if-not-is_code.true) _

pub returns-then-size-eq0 : goal.returns-then-size-eq0
returns-then-size-eq0 c =
    let e = same c.args.extent c.args.window _ _ _ _ _ c.saturating_sub-skipped.ensures c.saturating_sub-first.ensures c.saturating_sub-left.ensures c.saturating_sub-room.ensures c.min-size.ensures in
    part-empty _ _ (sym c.is_code.ensures ∙ c.if-not-is_code.false) _ (sym (ap (λ (p : Part). p.size) e) ∙ c.if-size-eq0.true)

pub overflow_add-result : goal.overflow_add-result
overflow_add-result c =
    let lies : Lies c.args.extent c.args.length = code-lies _ _ (sym c.is_code.ensures ∙ c.if-not-is_code.false) in
    omega arith

pub returns : goal.returns
returns c =
    let e = same c.args.extent c.args.window _ _ _ _ _ c.saturating_sub-skipped.ensures c.saturating_sub-first.ensures c.saturating_sub-left.ensures c.saturating_sub-room.ensures c.min-size.ensures in
    ap Some e ∙ part-is _ _ (sym c.is_code.ensures ∙ c.if-not-is_code.false) _ (omega (arith, ap (λ (p : Part). p.size) e, c.if-size-eq0.false))
