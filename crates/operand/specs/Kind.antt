-- Taking an immediate out of an operand. Assumes nothing.
use Rattle.std.specs.Prelude.{ℕ, ℤ}
use Rattle.operand.specs.declared.Operand.{Operand}
use Rattle.operand.specs.declared.Operand.TheVariants.{None, GPRegister, FloatRegister, PredicateRegister, ImmI64, ImmU64, Memory, PSR, PSR_l, PSR_um, PR, IP, ApplicationRegister, BranchRegister, ControlRegister, Indirection}

-- an operand by its kind: an `ImmI64`, an `ImmU64`, or any other
pub data Kind : Type 0 where
  i64 : ℤ → Kind
  u64 : ℕ → Kind
  other : Kind

abbrev pub kind_of : Operand → Kind
kind_of None = other
kind_of (GPRegister r) = other
kind_of (FloatRegister r) = other
kind_of (PredicateRegister r) = other
kind_of (ImmI64 v) = i64 v
kind_of (ImmU64 v) = u64 v
kind_of (Memory r) = other
kind_of PSR = other
kind_of PSR_l = other
kind_of PSR_um = other
kind_of PR = other
kind_of IP = other
kind_of (ApplicationRegister r) = other
kind_of (BranchRegister r) = other
kind_of (ControlRegister r) = other
kind_of (Indirection i r) = other

abbrev pub if_i64 {ℓ} : {A : Type ℓ} → Kind → (ℤ → A) → A → A
if_i64 (i64 v) f else = f v
if_i64 (u64 v) f else = else
if_i64 other f else = else

abbrev pub if_u64 {ℓ} : {A : Type ℓ} → Kind → (ℕ → A) → A → A
if_u64 (i64 v) f else = else
if_u64 (u64 v) f else = f v
if_u64 other f else = else

-- f of an `ImmI64`, and `else` of any other kind
abbrev pub of_i64 {ℓ} : {A : Type ℓ} → Operand → (ℤ → A) → A → A
of_i64 o f else = if_i64 (kind_of o) f else

-- f of an `ImmU64`, and `else` of any other kind
abbrev pub of_u64 {ℓ} : {A : Type ℓ} → Operand → (ℕ → A) → A → A
of_u64 o f else = if_u64 (kind_of o) f else
