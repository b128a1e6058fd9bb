-- Document 01's section "Bundles": finding, cutting and joining. Assumes nothing.
use Rattle.std.specs.Prelude.{ℕ, ◌+◌, ◌*◌, ◌^◌, Bool, ◌||◌, List, [], ◌∷◌, ◌++◌, ltb, leb, length, get_or, take, drop}
use Rattle.std.specs.declared.result.Result.{Result}
use Rattle.std.specs.declared.result.Result.TheVariants.{Ok, Err}
use Rattle.answer.specs.Answer.{Reason, first, outcome, accepted, exhausted_input, bad_bundle, bad_word, too_long, no_room, number_of}
use Rattle.answer.specs.declared.Refusal.{Refusal}
use Rattle.bits.specs.Part.{part, above}
use Rattle.bundle.specs.Bytes.{number, bytes}
use Rattle.bundle.specs.Template.{units_of, reserved, template_of, reserved_template, no_template}
use Rattle.bundle.specs.declared.template.Template.{Template}
use Rattle.bundle.specs.declared.Bundle.{Bundle}
use Rattle.bundle.specs.declared.Uncut.{Uncut}
use Rattle.bundle.specs.declared.Uncut.TheVariants.{Missing, Reserved}
use Rattle.bundle.specs.declared.half.Halves.{Halves}

-- how many bytes a code has at most
abbrev pub longest_code : ℕ
longest_code = 65536

-- the sixteen bytes of bundle k
abbrev pub bundle_at : List ℕ → ℕ → List ℕ
bundle_at code k = take 16 (drop (16 * k) code)

-- the number that they are
abbrev pub number_at : List ℕ → ℕ → ℕ
number_at code k = number (bundle_at code k)

-- when finding is refused
abbrev pub find_refusals : List ℕ → ℕ → List Reason
find_refusals code k = (too_long, ltb longest_code (length code)) ∷ (exhausted_input, ltb (length code) (16 * k + 16)) ∷ []

-- what finding answers
unfoldable pub find_answer : List ℕ → ℕ → ℕ
find_answer code k = first (find_refusals code k)

-- what finding hands back
unfoldable pub find_of : List ℕ → ℕ → List ℕ
find_of code k = outcome (find_answer code k) (bundle_at code k) []

-- the tag of a bundle's number: bits 0 to 4
abbrev pub tag_of : ℕ → ℕ
tag_of n = part n 0 5

-- slot i of it: 41 bits
abbrev pub slot_of : ℕ → ℕ → ℕ
slot_of n i = part n (5 + 41 * i) 41

abbrev pub slots_of : ℕ → List ℕ
slots_of n = slot_of n 0 ∷ slot_of n 1 ∷ slot_of n 2 ∷ []

-- a bundle's units
abbrev pub units_in : ℕ → List ℕ
units_in n = units_of (tag_of n)

-- the unit of a slot, and the word in it
abbrev pub unit_at : ℕ → ℕ → ℕ
unit_at n slot = get_or (units_in n) slot 0

abbrev pub word_at : ℕ → ℕ → ℕ
word_at n slot = get_or (slots_of n) slot 0

-- the number of a tag and three slots
abbrev pub joined : ℕ → List ℕ → ℕ
joined tag slots = above 5 tag (above 41 (get_or slots 0 0) (above 41 (get_or slots 1 0) (get_or slots 2 0)))

-- a bundle's number as a low and a high 64-bit number, and back
abbrev pub halves_of : ℕ → Halves
halves_of n = record { low = part n 0 64; high = part n 64 64 }

abbrev pub whole : Halves → ℕ
whole h = above 64 h.low h.high

-- what loading comes to: an answer, and a bundle's halves
pub record Loaded : Type 0 where
  pub answer : ℕ
  pub halves : Halves

-- that, of what `load` hands back: the halves of 0 where it refuses
abbrev pub as_loaded : Result Halves Refusal → Loaded
as_loaded (Ok halves) = record { answer = accepted; halves = halves }
as_loaded (Err refusal) = record { answer = number_of refusal; halves = halves_of 0 }

-- what loading comes to: a bundle's halves, and those of 0 where none was found
unfoldable pub loaded_of : List ℕ → ℕ → Loaded
loaded_of code k = record { answer = find_answer code k; halves = halves_of (outcome (find_answer code k) (number_at code k) 0) }

-- when a bundle is refused, by its number
abbrev pub bundle_refusals : ℕ → List Reason
bundle_refusals n = (bad_bundle, reserved (tag_of n)) ∷ []

-- what cutting comes to: an answer, a template and three slots
pub record Cut : Type 0 where
  pub answer : ℕ
  pub template : Template
  pub slots : List ℕ

-- a bundle cut, by its number; the slots of a refused one are zeros
unfoldable pub cut_number : ℕ → Cut
cut_number n =
    let answer = first (bundle_refusals n) in
    record { answer = answer; template = template_of (tag_of n); slots = slots_of (outcome answer n 0) }

-- what is cut where no bundle was found
abbrev pub uncut : ℕ → Cut
uncut answer = record { answer = answer; template = no_template; slots = slots_of 0 }

-- what `cut` hands back, as that: zeros where it refuses, and the tag where it is a reserved one
abbrev pub as_cut : Result Bundle Uncut → Cut
as_cut (Ok bundle) = record { answer = accepted; template = bundle.template; slots = bundle.slots }
as_cut (Err (Missing refusal)) = uncut (number_of refusal)
as_cut (Err (Reserved tag)) = record { answer = bad_bundle; template = reserved_template tag; slots = slots_of 0 }

-- what cutting comes to
abbrev pub cut_loaded : Loaded → Cut
cut_loaded loaded = outcome loaded.answer (cut_number (whole loaded.halves)) (uncut loaded.answer)

unfoldable pub cut_of : List ℕ → ℕ → Cut
cut_of code k = cut_loaded (loaded_of code k)

-- an answer, and what the output then holds
pub record Joined : Type 0 where
  pub answer : ℕ
  pub out : List ℕ

-- a tag above 31 or a slot of 2 ^ 41 or more
abbrev pub too_large : ℕ → List ℕ → Bool
too_large tag slots = ltb 31 tag || leb (2 ^ 41) (get_or slots 0 0) || leb (2 ^ 41) (get_or slots 1 0) || leb (2 ^ 41) (get_or slots 2 0)

-- when joining is refused
abbrev pub join_refusals : ℕ → List ℕ → ℕ → List Reason
join_refusals tag slots room = (bad_word, too_large tag slots) ∷ (bad_bundle, reserved tag) ∷ (no_room, ltb room 16) ∷ []

-- what joining answers, and the output: the sixteen bytes and then what stood there before
unfoldable pub join_of : ℕ → List ℕ → List ℕ → Joined
join_of tag slots out =
    let answer = first (join_refusals tag slots (length out)) in
    record { answer = answer; out = outcome answer (bytes 16 (joined tag slots) ++ drop 16 out) out }
