-- What a bundle in the file is, where a commit is finished: the old one, the new one, torn between them, or another. Assumes nothing.
use Rattle.std.specs.Prelude.{ℕ, ◌<◌, ◌≡◌, Bool, true, false, cond, ◌&&◌, ◌||◌, List, [], ◌∷◌, ◌⊎◌, eqb, get_or}
use Rattle.bundle.specs.Bytes.{bytes}
use Rattle.bundle.specs.Bundle.{whole}
use Rattle.bundle.specs.declared.half.Halves.{Halves}
use Rattle.redo.specs.declared.state.State.{State}
use Rattle.redo.specs.declared.state.State.TheVariants.{Old, New, Torn, Other}

-- a bundle's sixteen bytes
abbrev pub bytes_of : Halves → List ℕ
bytes_of h = bytes 16 (whole h)

-- whether each byte of the first is that of the second or that of the third
abbrev pub of_either : List ℕ → List ℕ → List ℕ → Bool
of_either [] olds news = true
of_either (b ∷ bs) [] news = false
of_either (b ∷ bs) (o ∷ olds) [] = false
of_either (b ∷ bs) (o ∷ olds) (n ∷ news) = (eqb b o || eqb b n) && of_either bs olds news

-- what the bundle that stands there is
unfoldable pub state_of : Halves → Halves → Halves → State
state_of now old new =
    cond (eqb (whole now) (whole old)) Old (cond (eqb (whole now) (whole new)) New (cond (of_either (bytes_of now) (bytes_of old) (bytes_of new)) Torn Other))

-- byte k is the old or the new one's
abbrev pub OneOf : Halves → Halves → Halves → ℕ → Type 0
OneOf now old new k = (get_or (bytes_of now) k 0 ≡ get_or (bytes_of old) k 0) ⊎ (get_or (bytes_of now) k 0 ≡ get_or (bytes_of new) k 0)

-- where it isn't another's, each of its bytes is the old or the new one's; and the other way round
abbrev pub NoOtherByte : Type 0
NoOtherByte = (now old new : Halves) → (state_of now old new ≡ Other → ⊥) → (k : ℕ) → k < 16 → OneOf now old new k

abbrev pub TornIsKnown : Type 0
TornIsKnown = (now old new : Halves) → ((k : ℕ) → k < 16 → OneOf now old new k) → state_of now old new ≡ Other → ⊥
