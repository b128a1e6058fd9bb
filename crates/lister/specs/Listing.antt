-- The listing of document 01: a header, a line for each bundle, and how many bytes are left over. Assumes nothing.
use Rattle.std.specs.Prelude.{◌≡◌, ℕ, zero, suc, ◌/◌, ◌%◌, cond, List, [], ◌∷◌, ◌++◌, eqb, ltb, length, get_or, take, Result, Ok, Err}
use Rattle.answer.specs.Answer.{Reason, bad_bundle, too_long}
use Rattle.bundle.specs.Bundle.{Cut, longest_code, cut_of}
use Rattle.bundle.specs.Template.{marked_units}
use Rattle.bundle.specs.declared.Bundle.{Bundle}
use Rattle.bundle.specs.declared.Uncut.{Uncut}
use Rattle.bundle.specs.declared.Uncut.TheVariants.{Missing, Reserved}
use Rattle.bundle.specs.declared.template.Template.{Template}
use Rattle.hex_text.specs.Hex.{hex_bytes}
use Rattle.hex_text.specs.declared.Ending.{Ending}
use Rattle.hex_text.specs.declared.Ending.TheVariants.{Whole, BadHex, TooLong}
use Rattle.table.specs.Ascii.{ascii}
use Rattle.text.specs.Ascii.{tab, line}
use Rattle.text.specs.Decimal.{decimal}
use Rattle.text.specs.Fields.{fields}

-- the first line
abbrev pub header : List ℕ
header = line (ascii "bundle" ∷ ascii "tag" ∷ ascii "units" ∷ ascii "slot0" ∷ ascii "slot1" ∷ ascii "slot2" ∷ [])

-- a line's units and slots
abbrev pub shown : Template → List ℕ → List ℕ
shown template slots = line (marked_units template ∷ decimal (get_or slots 0 0) ∷ decimal (get_or slots 1 0) ∷ decimal (get_or slots 2 0) ∷ [])

-- the end of a bundle's line, after its number and its tag
unfoldable pub end_of : Cut → List ℕ
end_of b = cond (eqb b.answer bad_bundle) (line (ascii "reserved" ∷ [])) (shown b.template b.slots)

-- the line of bundle n
unfoldable pub bundle_line : ℕ → Cut → List ℕ
bundle_line n b = fields (n ∷ b.template.tag ∷ []) (tab ∷ tab ∷ []) ++ end_of b

-- a bundle was cut, or its tag is a reserved one
abbrev pub WasFound : Result Bundle Uncut → Type 0
WasFound (Ok bundle) = Unit {0}
WasFound (Err (Reserved tag)) = Unit {0}
WasFound (Err (Missing refusal)) = ⊥

-- the lines of the first n bundles of a code
unfoldable pub bundle_lines : List ℕ → ℕ → List ℕ
bundle_lines code zero = []
bundle_lines code (suc n) = bundle_lines code n ++ bundle_line n (cut_of code n)

-- the line of the bytes left over, where there are any
unfoldable pub rest_of : ℕ → List ℕ
rest_of zero = []
rest_of (suc k) = line (ascii "rest" ∷ decimal (suc k) ∷ [])

-- the listing of a code
unfoldable pub list_of : List ℕ → List ℕ
list_of code = header ++ (bundle_lines code (length code / 16) ++ rest_of (length code % 16))

-- which code isn't listed
abbrev pub list_refusals : List ℕ → List Reason
list_refusals code = (too_long, ltb longest_code (length code)) ∷ []

-- the listing of the bytes that a text gives, or the one line of its fault
abbrev pub listing_from : List ℕ → Ending → List ℕ
listing_from code Whole = list_of code
listing_from code BadHex = line (ascii "badhex" ∷ [])
listing_from code TooLong = line (ascii "toolong" ∷ [])

-- the listing of a text
unfoldable pub listing_of : List ℕ → List ℕ
listing_of text = listing_from (hex_bytes longest_code text).0 (hex_bytes longest_code text).1

-- its first n characters decide it
pub record Decides (n : ℕ) (text : List ℕ) : Type 0 where
  pub same : listing_of (take n text) ≡ listing_of text
