-- Fields of a text: decimals, each ended by a byte of its own. Assumes nothing.
use Rattle.std.specs.Prelude.{ℕ, ◌+◌, ◌^◌, ◌<◌, cond, List, [], ◌∷◌, ◌++◌, drop, replicate, Option, Some, None}
use Rattle.std.proofs.Math.Option as maybe
use Rattle.std.proofs.lemmas.List.Edits.{sets}
use Rattle.text.specs.Ascii.{starts_with}
use Rattle.text.specs.Decimal.{decimal}
use Rattle.text.specs.Number.{number_of}

-- numbers written, each with the byte that ends it
abbrev pub fields : List ℕ → List ℕ → List ℕ
fields [] ends = []
fields (n ∷ ns) [] = []
fields (n ∷ ns) (end ∷ ends) = decimal n ++ (end ∷ fields ns ends)

-- numbers of 64 bits
abbrev pub Words : List ℕ → Type 0
Words [] = Unit {0}
Words (n ∷ ns) = (n < 2 ^ 64) × Words ns

-- what comes after a number, or where there is none
abbrev pub after_number {ℓ} : {A : Type ℓ} → Option (ℕ × ℕ) → (ℕ → ℕ → A) → A → A
after_number (Some r) more other = more r.0 r.1
after_number None more other = other

-- the number at a place that the byte `end` ends, and the place after that byte
unfoldable pub field_at : List ℕ → ℕ → ℕ → Option (ℕ × ℕ)
field_at text at end =
    after_number (number_of text at) (λ n next. cond (starts_with (end ∷ []) (drop next text)) (Some (n, next + 1)) None) None

-- a number before others
abbrev pub before : ℕ → maybe.Option (List ℕ × ℕ) → maybe.Option (List ℕ × ℕ)
before n maybe.none = maybe.none
before n (maybe.some r) = maybe.some (n ∷ r.0, r.1)

-- the numbers at a place that these bytes end, one after the other, and the place after them
unfoldable pub fields_at : List ℕ → ℕ → List ℕ → maybe.Option (List ℕ × ℕ)
fields_at text at [] = maybe.some ([], at)
fields_at text at (end ∷ ends) = after_number (field_at text at end) (λ n next. before n (fields_at text next ends)) maybe.none

-- such numbers in an array of eight, from place i on, and the place after them
abbrev pub read_to : List ℕ → ℕ → maybe.Option (List ℕ × ℕ) → Option (List ℕ × ℕ)
read_to of i maybe.none = None
read_to of i (maybe.some r) = Some (sets of i r.0, r.1)

-- what reading answers: the numbers, and zeros after them
unfoldable pub fields_of : List ℕ → ℕ → List ℕ → Option (List ℕ × ℕ)
fields_of text at ends = read_to (replicate 8 0) 0 (fields_at text at ends)
