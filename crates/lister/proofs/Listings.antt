-- Which code is listed, and what a text's listing comes to by how reading it ended. Assumes nothing.
use mathlib.Core.Path.{◌≡◌, ap, sym, ◌∙◌}
use mathlib.Core.List.{List, []}
use Prim.Native.Nat.{ℕ, ◌≤◌, ◌<◌}
use native.Mathlib.Omega.{arith}
use lib.ListN.{length, take}
use lib.Seq.{length-take-le}
use borrow.Author.Tests.{lt-ltb, le-ltb}
use Rattle.answer.specs.Answer.{first, accepted, too_long}
use Rattle.bundle.specs.Bundle.{longest_code}
use Rattle.hex_text.specs.Hex.{hex_bytes}
use Rattle.hex_text.specs.declared.Decoded.{Decoded}
use Rattle.hex_text.specs.declared.Ending.{Ending}
use Rattle.hex_text.specs.declared.Ending.TheVariants.{Whole}
use Rattle.hex_text.proofs.Enough.{decisive, enough}
use Rattle.hex_text.proofs.Fronts.{Handed}
use Rattle.text.specs.Whole.{wrote_of}
use Rattle.text.proofs.Wholes.{whole-passed}
use Rattle.lister.specs.Listing.{list_of, list_refusals, listing_from, listing_of, Decides}

pub short-listed : (code : List ℕ) → length code ≤ longest_code → first (list_refusals code) ≡ accepted
short-listed code h = rw (le-ltb longest_code (length code) h)

pub long-refused : (code : List ℕ) → longest_code < length code → first (list_refusals code) ≡ too_long
long-refused code h = rw (lt-ltb longest_code (length code) h)

pub listing-is : (text : List ℕ) (e : Ending) → (hex_bytes longest_code text).1 ≡ e → listing_of text ≡ listing_from (hex_bytes longest_code text).0 e
unfolding listing_of
listing-is text e h = ap (listing_from (hex_bytes longest_code text).0) h

pub listing-enough : (text : List ℕ) → Decides (decisive longest_code) text
unfolding listing_of
listing-enough text = record { same = rw (enough longest_code text) }

-- what reading a text into the longest code gave
module _ (text code : List ℕ) (r : Decoded) (read : Handed text longest_code r code) (long : length code ≡ longest_code) where
  pub taken_fits : r.count ≤ length code
  taken_fits = omega (arith, long, read.within)

  pub taken : r.count ≡ length (take r.count code)
  taken = sym (length-take-le r.count code taken_fits)

  pub lists : (out : List ℕ) → r.ending ≡ Whole → let given = take r.count code in wrote_of (list_refusals given) (list_of given) out ≡ wrote_of [] (listing_of text) out
  lists out e =
      let given = take r.count code in
      whole-passed (list_refusals given) (list_of given) out tt (short-listed given (omega (arith, taken, read.within)))
      ∙ ap (λ (l : List ℕ). wrote_of [] l out) (ap list_of read.bytes ∙ sym (listing-is text Whole (sym read.ending ∙ e)))
