-- How long a listing can be: a number below 10 ^ k has at most k digits, so a bundle's line has at most 56 bytes, and a code
-- of at most 65,536 bytes has at most 4,096 of them. Assumes nothing.
use mathlib.Core.List.{List}
use Prim.Native.Nat.{ℕ, zero, suc, ◌*◌, ◌/◌, ◌%◌, ◌^◌, ◌≤◌, ◌<◌}
use native.Mathlib.Omega.{arith}
use native.Mathlib.Decide.{ℕ_discrete}
use lib.Dec.{lit<, lit≤}
use lib.ListN.{length, get_or, length-append}
use Rattle.answer.specs.Answer.{accepted, bad_bundle}
use Rattle.bits.proofs.Laws.{part-lt}
use Rattle.bundle.specs.Bundle.{Cut, longest_code, find_answer, cut_number, cut_of, number_at, tag_of}
use Rattle.bundle.specs.Template.{marked_units}
use Rattle.bundle.proofs.Laws.{cut-found, cut-not-found}
use Rattle.bundle.proofs.Templates.{marked-most}
use Rattle.text.specs.Decimal.{decimal}
use Rattle.text.proofs.Numerals.{decimal-length}
use Rattle.lister.specs.Listing.{end_of, bundle_line, bundle_lines, rest_of, list_of}
use Rattle.lister.proofs.Lines.{end-reserved, end-shown}

record Small (b : Cut) : Type 0 where
  tag : b.template.tag < 2 ^ 5
  units : length (marked_units b.template) ≤ 5
  slot0 : get_or b.slots 0 0 < 2 ^ 41
  slot1 : get_or b.slots 1 0 < 2 ^ 41
  slot2 : get_or b.slots 2 0 < 2 ^ 41

number_small : (n : ℕ) → Small (cut_number n)
unfolding cut_number
number_small n =
    record {
      tag = part-lt n 0 5;
      units = marked-most (tag_of n);
      slot0 = part-lt _ 5 41;
      slot1 = part-lt _ 46 41;
      slot2 = part-lt _ 87 41;
    }

cut_small : (code : List ℕ) (k : ℕ) → Small (cut_of code k)
unfolding marked_units
cut_small code k =
    elim (ℕ_discrete (find_answer code k) accepted) [
      | yes found ↦ rw (cut-found code k found) (number_small (number_at code k))
      | no d ↦ rw (cut-not-found code k d) (record { tag = lit< tt; units = lit≤ tt; slot0 = lit< tt; slot1 = lit< tt; slot2 = lit< tt })
    ]

digits13 : (n : ℕ) → n < 2 ^ 41 → length (decimal n) ≤ 13
digits13 n h = decimal-length 12 n (omega arith)

end-most : (b : Cut) → Small b → length (end_of b) ≤ 48
end-most b s =
    elim (ℕ_discrete b.answer bad_bundle) [
      | yes e ↦ rw (end-reserved b e) (lit≤ tt)
      | no d ↦
          rw (end-shown b d)
          (simp length-append (omega (arith, s.units, digits13 (get_or b.slots 0 0) s.slot0, digits13 (get_or b.slots 1 0) s.slot1, digits13 (get_or b.slots 2 0) s.slot2)))
    ]

pub line-most : (code : List ℕ) (n : ℕ) → n < 4096 → length (bundle_line n (cut_of code n)) ≤ 56
unfolding bundle_line
line-most code n h =
    let s = cut_small code n in
    simp length-append (omega (arith, decimal-length 3 n (omega arith), decimal-length 1 (cut_of code n).template.tag (omega (arith, s.tag)), end-most (cut_of code n) s))

pub lines-most : (code : List ℕ) (n : ℕ) → n ≤ 4096 → length (bundle_lines code n) ≤ 56 * n
unfolding bundle_lines
lines-most code zero h = lit≤ tt
lines-most code (suc n) h = rw length-append (omega (arith, lines-most code n (omega arith), line-most code n (omega arith)))

pub rest-most : (k : ℕ) → k < 16 → length (rest_of k) ≤ 8
unfolding rest_of
rest-most zero h = lit≤ tt
rest-most (suc k) h = simp length-append (omega (arith, decimal-length 1 (suc k) (omega arith)))

pub list-most : (code : List ℕ) → length code ≤ longest_code → length (list_of code) ≤ 229419
unfolding list_of
list-most code h =
    simp length-append (omega (arith, lines-most code (length code / 16) (omega arith), rest-most (length code % 16) (omega arith)))
