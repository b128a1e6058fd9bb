-- Reading a sheet, a line at a time: what the lines left give by the line that comes next, and the other way round. By the definitions'
-- tests. Assumes nothing.
use mathlib.Core.Path.{◌≡◌, refl}
use mathlib.Core.List.{List, [], ◌∷◌}
use mathlib.Core.Option.{none, some, map, some-injective, none-ne-some}
use mathlib.Core.Option as maybe
use Rattle.std.specs.Prelude.{Option, Some, None}
use Prim.Native.Nat.{ℕ, zero, suc, ◌+◌, ◌-◌, ◌≤◌, ◌<◌}
use native.Mathlib.Decide.{ℕ_discrete}
use native.Mathlib.Omega.{arith}
use lib.ListN.{length}
use borrow.Author.Tests.{eq-eqb, ne_eqb}
use Rattle.record.specs.declared.Record.{Record}
use Rattle.sheet.specs.Load.{line_at, records_at}
use Rattle.sheet.specs.declared.line.Kind.{Kind}

-- so many lines are left past the first i
pub left : (i count : ℕ) → i < count → count - i ≡ suc (count - (i + 1))
left i count h = omega arith

pub done : (i count : ℕ) → count ≤ i → count - i ≡ 0
done i count h = omega arith

-- where lines give records, the text ends after the last of them
pub records-end : (party : ℕ) (kind : Kind) (text : List ℕ) (at : ℕ) (rs : List Record) → records_at party kind text at zero ≡ some rs → ([] ≡ rs) × (at ≡ length text)
unfolding records_at
records-end party kind text at rs e =
    elim (ℕ_discrete at (length text)) [
      | yes q ↦ (some-injective [] rs (rw (eq-eqb at (length text) q) at e), q)
      | no d ↦ absurd (none-ne-some rs (rw (ne_eqb at (length text) d) at e))
    ]

-- and the first is that of the line that comes next
pub record More (party : ℕ) (kind : Kind) (text : List ℕ) (at left : ℕ) (rs : List Record) : Type 0 where
  pub one : Record
  pub next : ℕ
  pub others : List Record
  pub line-is : line_at party kind text at ≡ Some (one, next)
  pub others-are : records_at party kind text next left ≡ some others
  pub is : one ∷ others ≡ rs

pub more : (party : ℕ) (kind : Kind) (text : List ℕ) (at left : ℕ) (rs : List Record) → records_at party kind text at (suc left) ≡ some rs → More party kind text at left rs
unfolding records_at
more party kind text at left rs = by-line (line_at party kind text at) refl
  where
    by-others : (r : Record) (next : ℕ) → line_at party kind text at ≡ Some (r, next) → (o : maybe.Option (List Record)) → records_at party kind text next left ≡ o → map (λ (qs : List Record). r ∷ qs) o ≡ some rs → More party kind text at left rs
    by-others r next e none q f = absurd (none-ne-some rs f)
    by-others r next e (some qs) q f = record { one = r; next = next; others = qs; line-is = e; others-are = q; is = some-injective (r ∷ qs) rs f }

    by-line : (m : Option (Record × ℕ)) → line_at party kind text at ≡ m → records_at party kind text at (suc left) ≡ some rs → More party kind text at left rs
    by-line None e f = absurd (none-ne-some rs (rw e at f))
    by-line (Some (r, next)) e f = by-others r next e (records_at party kind text next left) refl (rw e at f)
