-- What the manual's table says of every tag, each by a computed check over its lines or over the tags. Assumes nothing.
use mathlib.Core.Path.{◌≡◌, refl, subst, sym}
use mathlib.Core.Bool.{Bool, true, false, cond, beq}
use mathlib.Core.List.{List, [], ◌∷◌}
use Prim.Native.Nat.{ℕ, ◌/◌, ◌≤◌, ◌<◌}
use lib.Dec.{T, eqb, eqb→eq, leb, leb→le}
use lib.ListN.{length}
use Rattle.table.specs.Table.{select}
use Rattle.table.proofs.Check.{below, checked, same, same→eq}
use Rattle.table.proofs.Held.{held}
use Rattle.bundle.specs.Template.{no_units, no_stops, unitless, templates, units_in_line, stops_in_line, units_of, stops_of, reserved, template_of, reserved_template, marked_units}

beq→eq : (a b : Bool) → T (beq a b) → a ≡ b
beq→eq true true t = refl
beq→eq true false t = absurd t
beq→eq false true t = absurd t
beq→eq false false t = refl

-- a reserved tag has no units, and no stops
pub reserved-unitless : (tag : ℕ) → reserved tag ≡ true → units_of tag ≡ no_units
unfolding units_of
reserved-unitless tag r =
    same→eq eqb eqb→eq (units_of tag) no_units
    (subst (λ (b : Bool). T (cond b (same eqb (units_of tag) no_units) true)) r
    (held (λ _ line. cond (unitless (units_in_line line)) (same eqb (units_in_line line) no_units) true) tag templates no_units tt tt))

pub reserved-stopless : (tag : ℕ) → reserved tag ≡ true → stops_of tag ≡ no_stops
unfolding units_of stops_of
reserved-stopless tag r =
    same→eq beq beq→eq (stops_of tag) no_stops
    (subst (λ (b : Bool). T (cond b (same beq (stops_of tag) no_stops) true)) r
    (held (λ _ line. cond (unitless (units_in_line line)) (same beq (stops_in_line line) no_stops) true) tag templates no_units tt tt))

pub reserved-is : (tag : ℕ) → reserved tag ≡ true → reserved_template tag ≡ template_of tag
reserved-is tag r = sym (λ i. record { tag = tag; units = reserved-unitless tag r i; stops = reserved-stopless tag r i })

-- a tag's units with their stops are its line, which has at most five characters
pub marked-line : (tag : ℕ) → marked_units (template_of tag) ≡ select tag templates no_units
unfolding units_of stops_of marked_units
marked-line tag =
    same→eq eqb eqb→eq _ _
    (held (λ _ line. same eqb (marked_units (record { tag = 0; units = units_in_line line; stops = stops_in_line line })) line) tag templates no_units tt tt)

pub marked-most : (tag : ℕ) → length (marked_units (template_of tag)) ≤ 5
marked-most tag = rw (marked-line tag) (leb→le _ 5 (held (λ _ line. leb (length line) 5) tag templates no_units tt tt))

-- the units by half the tag: two neighbours differ in their last stop alone
abbrev halved : List (ℕ × List ℕ) → List (ℕ × List ℕ)
halved [] = []
halved (e ∷ []) = []
halved (e ∷ _ ∷ es) = (e.0 / 2, units_in_line e.1) ∷ halved es

abbrev pub units_by_half : List (ℕ × List ℕ)
units_by_half = halved templates

pub units-by-half : (tag : ℕ) → tag < 32 → units_of tag ≡ select (tag / 2) units_by_half no_units
unfolding units_of
units-by-half tag h = same→eq eqb eqb→eq _ _ (checked (λ t. same eqb (units_of t) (select (t / 2) units_by_half no_units)) 32 tt tag h)

-- flags that are the stops at every tag
pub stops-are : (flags : ℕ → List Bool) → T (below (λ t. same beq (flags t) (stops_of t)) 32) → (tag : ℕ) → tag < 32 → flags tag ≡ stops_of tag
stops-are flags t tag h = same→eq beq beq→eq (flags tag) (stops_of tag) (checked (λ k. same beq (flags k) (stops_of k)) 32 t tag h)

-- a tag has three units
pub three-units : (tag : ℕ) → length (units_of tag) ≡ 3
unfolding units_of
three-units tag = eqb→eq _ 3 (held (λ _ line. eqb (length (units_in_line line)) 3) tag templates no_units tt tt)
