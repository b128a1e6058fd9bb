-- Two texts written one after the other are one text written; a text that has room is found where it was written, and what has none is
-- lost. By induction on the text, a byte at a time. Assumes nothing.
use mathlib.Core.Path.{◌≡◌, refl, sym, ap, ◌∙◌}
use mathlib.Core.List.{List, [], ◌∷◌, ◌++◌, append_assoc, append-nil}
use Prim.Native.Nat.{ℕ, zero, suc, ◌+◌, ◌-◌, ◌^◌, min, ◌≤◌, ◌<◌}
use native.Mathlib.Nat.{add-zero, add-suc, suc-add, zero-add}
use native.Mathlib.Decide.{dec_lt}
use native.Mathlib.Omega.{arith}
use lib.ListN.{length, get_or, take, drop, set, length-append, length-drop, drop_of_length-le}
use lib.Seq.{take_all, take-length, drop-length, take-append_seam, set_out, sets-eq, length-sets}
use Rattle.text.specs.Decimal.{decimal}
use Rattle.text.specs.Fields.{fields}
use Rattle.text.specs.Put.{written, past, Put}

pub written-append : (out : List ℕ) (at : ℕ) (a b : List ℕ) → written (written out at a) (at + length a) b ≡ written out at (a ++ b)
written-append out at [] b = rw add-zero
written-append out at (x ∷ a) b = rw (add-suc, ← suc-add) (written-append _ (suc at) a b)

pub written-lost : (out : List ℕ) (at : ℕ) (text : List ℕ) → length out ≤ at → written out at text ≡ out
written-lost out at [] h = refl
written-lost out at (x ∷ text) h = rw (set_out out at x h) (written-lost out (suc at) text (omega arith))

-- with room: what stood before it, the text, and what stood past it
pub written_is : (out : List ℕ) (at : ℕ) (text : List ℕ) → at + length text ≤ length out → written out at text ≡ take at out ++ text ++ drop (at + length text) out
written_is out at text h = sets-eq text out at h

-- from a place on, and at the start where there is room for a part
written_on : (x : ℕ) (out : List ℕ) (at : ℕ) (text : List ℕ) → written (x ∷ out) (suc at) text ≡ x ∷ written out at text
written_on x out at [] = refl
written_on x out at (c ∷ text) = written_on x (set out at c) (suc at) text

written-rest : (out : List ℕ) (at : ℕ) (text : List ℕ) → at ≤ length out → take at out ++ written (drop at out) 0 text ≡ written out at text
written-rest out zero text h = refl
written-rest [] (suc at) text h = absurd (omega arith)
written-rest (x ∷ out) (suc at) text h = rw (written_on x out at text) (ap (λ (l : List ℕ). x ∷ l) (written-rest out at text (omega arith)))

pub written_from : (out : List ℕ) (at : ℕ) (text part : List ℕ) → at ≤ length out → let k = length out - at in part ≡ written (take k (drop at out)) 0 text → take at out ++ (part ++ drop k (drop at out)) ≡ written out at text
written_from out at text part h e =
    let size : length (drop at out) ≤ length out - at = simp length-drop (omega arith) in
    rw (e, take_all (length out - at) (drop at out) size, drop_of_length-le (drop at out) {i = length out - at} size, append-nil (written (drop at out) 0 text)) (written-rest out at text h)

pub written-full : (out text : List ℕ) → length out ≤ length text → written out 0 text ≡ take (length out) text
written-full [] text h = written-lost [] 0 text (omega arith)
written-full (x ∷ out) [] h = absurd (omega arith)
written-full (x ∷ out) (c ∷ text) h = rw (written_on c out 0 text) (ap (λ (l : List ℕ). c ∷ l) (written-full out text (omega arith)))

pub written_start : (out text : List ℕ) → length text ≤ length out → written out 0 text ≡ text ++ drop (length text) out
written_start out text h =
    written_is out 0 text (rw zero-add h) ∙ ap (λ (n : ℕ). text ++ drop n out) (zero-add (length text))

pub written-front : (out text : List ℕ) → length text ≤ length out → take (length text) (written out 0 text) ≡ text
written-front out text h = rw (written_start out text h) (take-append_seam text _)

-- as much of a text as there is room for
pub written-most : (out text part : List ℕ) (n : ℕ) → n ≡ min (length out) (length text) → part ≡ take n text → part ++ drop n out ≡ written out 0 text
written-most out text part n m e =
    elim (dec_lt (length out) (length text)) [
      | yes h ↦
          let full : n ≡ length out = omega arith in
          rw (e, full, drop-length out, append-nil (take (length out) text)) (sym (written-full out text (omega arith)))
      | no h ↦
          let all : n ≡ length text = omega arith in
          rw (e, all, take-length text) (sym (written_start out text (omega arith)))
    ]

-- an output has no place past the last that a number can tell
written_then : (out : List ℕ) (at : ℕ) (a b : List ℕ) → length out < 2 ^ 64 → written (written out at a) (past at (length a)) b ≡ written out at (a ++ b)
written_then out at a b h =
    elim (dec_lt (at + length a) (2 ^ 64)) [
      | yes s ↦
          let e : past at (length a) ≡ at + length a = omega arith in
          rw e (written-append out at a b)
      | no s ↦
          let none : (k : ℕ) → length out ≤ k → written (written out at a) k b ≡ written out at a = λ k l. written-lost _ k b (omega (arith, length-sets out at a)) in
          none (past at (length a)) (omega arith) ∙ sym (none (at + length a) (omega arith)) ∙ written-append out at a b
    ]

pub put-none : {out : List ℕ} {at : ℕ} → at < 2 ^ 64 → Put out at [] out at
put-none {at = at} h = record { bytes = refl; place = omega arith }

pub put_then : {out out' out'' : List ℕ} {at next next' : ℕ} {a b : List ℕ} → length out < 2 ^ 64 → Put out at a out' next → Put out' next b out'' next' → Put out at (a ++ b) out'' next'
put_then {out} {at = at} {next} {a = a} {b} h p q =
    record {
      bytes =
          q.bytes
          ∙ ap (λ (o : List ℕ). written o next b) p.bytes
          ∙ ap (λ (n : ℕ). written (written out at a) n b) p.place
          ∙ written_then out at a b h;
      place = omega (arith, p.place, q.place, length-append a b);
    }

pub put-length : {out out' : List ℕ} {at next : ℕ} {a : List ℕ} → Put out at a out' next → length out' ≡ length out
put-length p = ap length p.bytes ∙ simp length-sets

-- fields written, as far as the first i of them, and all
pub fields-next : (i : ℕ) (ns ends : List ℕ) → i < length ns → i < length ends → fields (take (suc i) ns) (take (suc i) ends) ≡ fields (take i ns) (take i ends) ++ (decimal (get_or ns i 0) ++ (get_or ends i 0 ∷ []))
fields-next i [] ends h l = absurd (omega arith)
fields-next i (n ∷ ns) [] h l = absurd (omega arith)
fields-next zero (n ∷ ns) (e ∷ ends) h l = refl
fields-next (suc i) (n ∷ ns) (e ∷ ends) h l = rw (fields-next i ns ends (omega arith) (omega arith)) (sym (append_assoc (decimal n) _ _))

pub fields-all : (i : ℕ) (ns ends : List ℕ) → min (length ns) (length ends) ≤ i → fields (take i ns) (take i ends) ≡ fields ns ends
fields-all zero [] ends h = refl
fields-all (suc i) [] ends h = refl
fields-all zero (n ∷ ns) [] h = refl
fields-all (suc i) (n ∷ ns) [] h = refl
fields-all zero (n ∷ ns) (e ∷ ends) h = absurd (omega arith)
fields-all (suc i) (n ∷ ns) (e ∷ ends) h = rw (fields-all i ns ends (omega arith))
