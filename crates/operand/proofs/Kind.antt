-- The kinds of an operand: an immediate of a kind, or any other. By cases on the kind. Assumes nothing.
use mathlib.Core.Path.{◌≡◌, refl, ap}
use mathlib.Core.Logic.{◌⊎◌, inl, inr}
use Prim.Native.Nat.{ℕ}
use lib.IntN.{ℤ}
use Rattle.operand.specs.Kind.{Kind, other, kind_of, if_i64, if_u64, of_i64, of_u64}
use Rattle.operand.specs.declared.Operand.{Operand}
use Rattle.operand.specs.declared.Operand.TheVariants.{None, GPRegister, FloatRegister, PredicateRegister, ImmI64, ImmU64, Memory, PSR, PSR_l, PSR_um, PR, IP, ApplicationRegister, BranchRegister, ControlRegister, Indirection}

-- an operand is an immediate, or its kind is another
data Told (o : Operand) : Type 0 where
  an-i64 : (v : ℤ) → o ≡ ImmI64 v → Told o
  an-u64 : (v : ℕ) → o ≡ ImmU64 v → Told o
  none : kind_of o ≡ other → Told o

told : (o : Operand) → Told o
told None = none refl
told (GPRegister r) = none refl
told (FloatRegister r) = none refl
told (PredicateRegister r) = none refl
told (ImmI64 v) = an-i64 v refl
told (ImmU64 v) = an-u64 v refl
told (Memory r) = none refl
told PSR = none refl
told PSR_l = none refl
told PSR_um = none refl
told PR = none refl
told IP = none refl
told (ApplicationRegister r) = none refl
told (BranchRegister r) = none refl
told (ControlRegister r) = none refl
told (Indirection i r) = none refl

pub i64-or-not {ℓ} : {A : Type ℓ} (o : Operand) (f : ℤ → A) (else : A) → ((v : ℤ) × (o ≡ ImmI64 v)) ⊎ (of_i64 o f else ≡ else)
i64-or-not o f else = by (told o)
  where
    by : Told o → ((v : ℤ) × (o ≡ ImmI64 v)) ⊎ (of_i64 o f else ≡ else)
    by (an-i64 v e) = inl (v, e)
    by (an-u64 v e) = inr (ap (λ (x : Operand). of_i64 x f else) e)
    by (none e) = inr (ap (λ (k : Kind). if_i64 k f else) e)

pub u64-or-not {ℓ} : {A : Type ℓ} (o : Operand) (f : ℕ → A) (else : A) → ((v : ℕ) × (o ≡ ImmU64 v)) ⊎ (of_u64 o f else ≡ else)
u64-or-not o f else = by (told o)
  where
    by : Told o → ((v : ℕ) × (o ≡ ImmU64 v)) ⊎ (of_u64 o f else ≡ else)
    by (an-i64 v e) = inr (ap (λ (x : Operand). of_u64 x f else) e)
    by (an-u64 v e) = inl (v, e)
    by (none e) = inr (ap (λ (k : Kind). if_u64 k f else) e)
