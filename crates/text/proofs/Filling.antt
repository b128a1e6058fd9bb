-- A number's digits stored from its last one on: what is left to write, before what is written, comes to the whole. By the
-- clauses of `decimal`, a digit at a time. Assumes nothing.
use mathlib.Core.Path.{◌≡◌, sym, ap, ◌∙◌}
use mathlib.Core.List.{List, [], ◌∷◌, ◌++◌, append_assoc}
use Prim.Native.Nat.{ℕ, suc, ◌+◌, ◌-◌, ◌/◌, ◌%◌, ◌≤◌, ◌<◌}
use native.Mathlib.Numerals.{add-one}
use native.Mathlib.Omega.{arith}
use lib.ListN.{length, take, drop, set, length-set}
use lib.Seq.{drop-cons, lt-length-set, get_or-set_same, drop-set-lt, take-set-le}
use Rattle.text.specs.Decimal.{decimal}
use Rattle.text.specs.Put.{written}
use Rattle.text.proofs.Numerals.{decimal-more, length_more, length-four}
use Rattle.text.proofs.Writing.{written_is}

stored : (t : List ℕ) (j d : ℕ) → j < length t → drop j (set t j d) ≡ d ∷ drop (j + 1) t
stored t j d h =
    drop-cons (set t j d) j 0 (lt-length-set t j d h)
    ∙ rw (get_or-set_same t j d 0 h, drop-set-lt (suc j) t j d (omega arith), add-one)

-- a text that has room, between what stood before it and what stood past it
within : (out : List ℕ) (at : ℕ) (text : List ℕ) (end : ℕ) → at + length text ≡ end → end ≤ length out → written out at text ≡ take at out ++ (text ++ drop end out)
within out at text end e h =
    written_is out at text (omega arith)
    ∙ append_assoc (take at out) text _
    ∙ ap (λ (k : ℕ). take at out ++ (text ++ drop k out)) e

-- of `before`, where `n` is to stand from `at` to `end`, came `out`: the digits of `n` after those of `rest` stand from `i` on
pub record Filling (before : List ℕ) (at end n : ℕ) (out : List ℕ) (i rest : ℕ) : Type 0 where
  pub size : length out ≡ length before
  pub room : i ≤ length before
  pub place : at + length (decimal rest) ≡ i
  pub front : take at out ≡ take at before
  pub back : decimal rest ++ drop i out ≡ decimal n ++ drop end before

module _ {before : List ℕ} {at end n : ℕ} where
  module _ {out : List ℕ} {i rest : ℕ} (f : Filling before at end n out i rest) where
    pub filling-one : (j d : ℕ) → j + 1 ≡ i → 10 ≤ rest → d ≡ 48 + rest % 10 → Filling before at end n (set out j d) j (rest / 10)
    filling-one j d k h e =
        let m : length (decimal rest) ≡ length (decimal (rest / 10)) + 1 = length_more rest h in
        record {
          size = length-set out j d ∙ f.size;
          room = omega arith;
          place = omega arith;
          front = take-set-le at out j d (omega arith) ∙ f.front;
          back =
              ap (λ (t : List ℕ). decimal (rest / 10) ++ t) (stored out j d (omega arith) ∙ rw (k, e))
              ∙ sym (append_assoc (decimal (rest / 10)) ((48 + rest % 10) ∷ []) (drop i out))
              ∙ sym (ap (λ (t : List ℕ). t ++ drop i out) (decimal-more rest h))
              ∙ f.back;
        }

    -- what is left is written
    pub filling-rest : at + length (decimal n) ≡ end → end ≤ length before → written out at (decimal rest) ≡ written before at (decimal n)
    filling-rest e h =
        within out at (decimal rest) i f.place (omega arith)
        ∙ ap (λ (t : List ℕ). t ++ (decimal rest ++ drop i out)) f.front
        ∙ ap (λ (t : List ℕ). take at before ++ t) f.back
        ∙ sym (within before at (decimal n) end e h)

  pub filling-four : {out : List ℕ} {i rest : ℕ} → Filling before at end n out i rest → 10000 ≤ rest → let p = rest % 10000 in Filling before at end n (set (set (set (set out (i - 1) (48 + p % 10)) (i - 2) (48 + p / 10 % 10)) (i - 3) (48 + p / 100 % 10)) (i - 4) (48 + p / 1000)) (i - 4) (rest / 10000)
  filling-four {out} {i} {rest} f h =
      let e : rest / 10000 ≡ rest / 10 / 10 / 10 / 10 = omega arith in
      let a = filling-one f (i - 1) (48 + rest % 10000 % 10) (omega (arith, length-four rest h)) (omega arith) (omega arith) in
      let b = filling-one a (i - 2) (48 + rest % 10000 / 10 % 10) (omega (arith, length-four rest h)) (omega arith) (omega arith) in
      let c = filling-one b (i - 3) (48 + rest % 10000 / 100 % 10) (omega (arith, length-four rest h)) (omega arith) (omega arith) in
      rw e (filling-one c (i - 4) (48 + rest % 10000 / 1000) (omega (arith, length-four rest h)) (omega arith) (omega arith))
