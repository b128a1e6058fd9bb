-- The listing of the bytes that were read, or the line of the fault.
use Rattle.std.proofs.Common.{ℕ, ◌≡◌, List, length, replicate, sym, ◌∙◌}
use lib.ListN.{length-replicate}
use Rattle.bundle.specs.Bundle.{longest_code}
use Rattle.hex_text.specs.Hex.{decoded_of}
use Rattle.hex_text.specs.declared.Decoded.{Decoded}
use Rattle.hex_text.specs.declared.Ending.TheVariants.{BadHex, TooLong}
use Rattle.hex_text.proofs.Fronts.{Handed, handed}
use Rattle.lister.proofs.Listings.{listing-is, listing-enough, taken_fits, taken, lists}
use Rattle.lister.proofs.listing.Goals as goal

read : (text : List ℕ) {code : List ℕ} {r : Decoded} → (r, code) ≡ decoded_of text (replicate longest_code 0) → Handed text longest_code r code
read text e = rw (length-replicate {A = ℕ} longest_code 0) at (handed text (replicate longest_code 0) e)

long : (code : List ℕ) → length code ≡ length {A = ℕ} (replicate longest_code 0) → length code ≡ longest_code
long code e = e ∙ length-replicate {A = ℕ} longest_code 0

pub slice_bounds-code-end : goal.slice_bounds-code-end
slice_bounds-code-end c = taken_fits c.args.text.now _ _ (read c.args.text.now c.decode-decoded.ensures) (long _ c.decode-decoded.auto.out)

pub slice_bounds-list-end : goal.slice_bounds-list-end
slice_bounds-list-end c = taken c.args.text.now _ _ (read c.args.text.now c.decode-decoded.ensures) (long _ c.decode-decoded.auto.out)

pub returns-in-Whole-clause-out_after : goal.returns-in-Whole-clause-out_after
returns-in-Whole-clause-out_after c =
    c.list.ensures ∙ lists c.args.text.now _ _ (read c.args.text.now c.decode-decoded.ensures) (long _ c.decode-decoded.auto.out) _ c.in-Whole.is

pub returns-in-Whole-clause-enough : goal.returns-in-Whole-clause-enough
returns-in-Whole-clause-enough c = listing-enough c.args.text.now

pub returns-in-BadHex-clause-out_after : goal.returns-in-BadHex-clause-out_after
returns-in-BadHex-clause-out_after c =
    rw (listing-is c.args.text.now BadHex (sym (read c.args.text.now c.decode-decoded.ensures).ending ∙ c.in-BadHex.is)) c.put_whole.ensures

pub returns-in-BadHex-clause-enough : goal.returns-in-BadHex-clause-enough
returns-in-BadHex-clause-enough c = listing-enough c.args.text.now

pub returns-in-TooLong-clause-out_after : goal.returns-in-TooLong-clause-out_after
returns-in-TooLong-clause-out_after c =
    rw (listing-is c.args.text.now TooLong (sym (read c.args.text.now c.decode-decoded.ensures).ending ∙ c.in-TooLong.is)) c.put_whole-in-TooLong.ensures

pub returns-in-TooLong-clause-enough : goal.returns-in-TooLong-clause-enough
returns-in-TooLong-clause-enough c = listing-enough c.args.text.now
