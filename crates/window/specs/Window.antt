-- Code in a file, by address, and its windows: 65,536 bytes from an address whose low 16 bits are zero. Assumes nothing.
use Rattle.std.specs.Prelude.{ℕ, ◌+◌, ◌-◌, ◌*◌, ◌/◌, ◌%◌, ◌^◌, ◌<◌, min, ◌≡◌, Bool, ◌&&◌, cond, eqb, leb, Option, Some, None}
use Rattle.window.specs.declared.Extent.{Extent}
use Rattle.window.specs.declared.Part.{Part}
use Rattle.window.specs.declared.Spot.{Spot}

-- how many bytes a window has
abbrev pub span : ℕ
span = 65536

-- an address: its window, the bundle there, and what is left below sixteen
abbrev pub spot_of : ℕ → Spot
spot_of address = record { window = address / span * span; bundle = address % span / 16; rest = address % 16 }

-- whether an extent's bytes lie in a file of so many, and its addresses below 2 ^ 64
unfoldable pub lies_in : Extent → ℕ → Bool
lies_in e length = leb (e.offset + e.size) length && leb (e.address + e.size) (2 ^ 64)

-- whether it is code in such a file
abbrev pub is_code : Extent → ℕ → Bool
is_code e length = e.code && lies_in e length

-- an extent without its bytes before a window and those past it; `a - b` is 0 where a isn't above b
abbrev pub cut_to : Extent → ℕ → Part
cut_to e window =
    record { first = e.address - window; offset = e.offset + (window - e.address); size = min (e.size - (window - e.address)) (span - (e.address - window)) }

-- the part of a file that is an extent's code in a window, where there is one
unfoldable pub shown_in : Extent → ℕ → ℕ → Option Part
shown_in e length window = cond (is_code e length) (cond (eqb (cut_to e window).size 0) None (Some (cut_to e window))) None

-- where in the file the sixteen bytes from an address on stand: nowhere, where one of them isn't the extent's code
unfoldable pub place_of : Extent → ℕ → ℕ → Option ℕ
place_of e length address =
    cond (is_code e length && (leb e.address address && leb (address + 16) (e.address + e.size))) (Some (e.offset + (address - e.address))) None

-- an address is its window, its bundle and the rest
abbrev pub SpotIsAddress : Type 0
SpotIsAddress = (address : ℕ) → (spot_of address).window + (16 * (spot_of address).bundle + (spot_of address).rest) ≡ address

-- where in the file a bundle of the window stands, by the part alone: nowhere, where there is none
abbrev pub bundle_place : Option Part → ℕ → Option ℕ
bundle_place None bundle = None
bundle_place (Some p) bundle = cond (leb p.first (16 * bundle) && leb (16 * bundle + 16) (p.first + p.size)) (Some (p.offset + (16 * bundle - p.first))) None

-- a window leaves no bundle of the extent out, and has no other: each stands where the extent has it
abbrev pub WindowShows : Type 0
WindowShows = (e : Extent) (length window bundle : ℕ) → bundle < 4096 → bundle_place (shown_in e length window) bundle ≡ place_of e length (window + 16 * bundle)
