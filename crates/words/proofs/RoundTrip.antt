-- What `text` writes as a decimal and `name` as a form is read back whole, and so is a place: a decimal begins neither with a minus sign nor
-- as hex does, and a name with no dash. Assumes nothing.
use Rattle.std.proofs.Common.{◌≡◌, ℕ, zero, suc, ◌+◌, ◌-◌, ◌*◌, ◌%◌, ◌^◌, ◌<◌, ◌≤◌, Bool, true, false, List, [], ◌∷◌, length, get_or, drop, negsuc, sym, refl, ap, ◌∙◌, append-nil, zero-add, arith, eq-eqb, ne_eqb, le-leb}
use Rattle.form.specs.declared.Form.{Form}
use Rattle.name.specs.Name.{is_letter, name_of}
use Rattle.name.proofs.Names.{letter-name, name_back}
use Rattle.operand.specs.Pattern.{integer_of}
use Rattle.operand.specs.declared.Operand.TheVariants.{ImmI64}
use Rattle.operand.proofs.Moved.{integer-pattern}
use Rattle.table.specs.Ascii.{ascii}
use Rattle.text.specs.Ascii.{within, starts_with}
use Rattle.text.specs.Decimal.{decimal}
use Rattle.text.specs.Number.{number_of}
use Rattle.std.specs.Prelude.{Some}
use Rattle.text.proofs.Numbers.{bounds, digits-past, digits-stop, number-none, number-back, no_number, zero-alone}
use Rattle.text.proofs.RoundTrip.{starts, starts_is}
use Rattle.text.proofs.Stands.{Stands, stands}
use Rattle.words.specs.Number.{decimal_in, unsigned_in, as_number}
use Rattle.words.specs.Words.{signed_by, slot_by, as_place, as_form}
use Rattle.words.specs.declared.outcome.Given.TheVariants.{Unsigned, Negative}
use Rattle.words.proofs.Beginnings.{starts-long}

-- a whole text stands at its start, and nothing comes after it
whole : (text : List ℕ) → Stands text 0 text (length text)
whole text = rw (zero-add (length text)) at (stands {text = text} 0 text [] (sym (append-nil text)))

-- a beginning that a text hasn't
not-begun : (start text : List ℕ) → (starts_with start text ≡ true → ⊥) → starts_with start text ≡ false
not-begun start text n = by (starts_with start text) n
  where
    by : (b : Bool) → (b ≡ true → ⊥) → b ≡ false
    by true n = absurd (n refl)
    by false n = refl

module _ (n : ℕ) (h : n < 2 ^ 64) where
  decimal-read : number_of (decimal n) 0 ≡ Some (n, length (decimal n))
  decimal-read = number-back (decimal n) 0 n (length (decimal n)) (digits-past (decimal n) (length (decimal n)) (omega arith)) (record { below = h; piece = whole (decimal n) })

  no_minus : starts_with (ascii "-") (decimal n) ≡ false
  no_minus =
      not-begun (ascii "-") (decimal n)
      (λ e.
      let first = ap (λ (l : List ℕ). within 48 57 (get_or l 0 0)) (starts_is (ascii "-") (decimal n) e) in
      no_number (number-none (decimal n) 0 (digits-stop (decimal n) 0 (starts-long (ascii "-") (decimal n) e) first) ∙ decimal-read))

  no-hex : (x : ℕ) → starts_with (48 ∷ x ∷ []) (decimal n) ≡ false
  no-hex x = not-begun (48 ∷ x ∷ []) (decimal n) (λ e. zero-alone n x (drop 2 (decimal n)) (starts_is (48 ∷ x ∷ []) (decimal n) e))

  unsigned_back : unsigned_in (decimal n) ≡ Some n
  unfolding unsigned_in decimal_in
  unsigned_back = rw (no-hex 120, no-hex 88, decimal-read, eq-eqb _ (length (decimal n)) refl)

  -- a number that was written is read
  pub number-written : as_number (decimal n) ≡ Some (Unsigned n)
  unfolding as_number
  number-written = rw (no_minus, unsigned_back)

  -- and so much below zero after a minus sign
  pub negative-written : 0 < n → n ≤ 2 ^ 63 → as_number (45 ∷ decimal n) ≡ Some (Negative n)
  unfolding as_number
  negative-written some low = rw (starts (ascii "-") (decimal n), unsigned_back, ne_eqb n 0 (λ e. omega arith), le-leb n (2 ^ 63) low)

-- the value of so much below zero is that integer
pub signed-negative : (m : ℕ) → m < 2 ^ 63 → signed_by (Some (Negative (suc m))) ≡ ImmI64 (negsuc m)
signed-negative m h =
    let pattern : (2 ^ 64 - suc m) % 2 ^ 64 ≡ 2 ^ 64 - suc m = omega arith in
    ap ImmI64 (ap integer_of pattern ∙ integer-pattern (negsuc m) (record { sfits = h }))

-- a slot's number tells the slot
own-slot : (slot : ℕ) → slot < 3 → slot_by slot ≡ Some slot
own-slot zero h = refl
own-slot (suc zero) h = refl
own-slot (suc (suc zero)) h = refl
own-slot (suc (suc (suc slot))) h = absurd (let g : suc (suc (suc slot)) < 3 = h in omega arith)

-- a place that was written as a number is read
pub place-written : (k slot : ℕ) → 16 * k + slot < 2 ^ 64 → slot < 3 → as_place (decimal (16 * k + slot)) ≡ Some (record { address = 16 * k; slot = slot })
unfolding as_place
place-written k slot h s =
    let low : (16 * k + slot) % 16 ≡ slot = omega arith in
    let high : 16 * k + slot - slot ≡ 16 * k = omega arith in
    rw (number-written (16 * k + slot) h, low, own-slot slot s, high)

-- a form that was written is read
pub form-written : (form : Form) → is_letter form.family ≡ true → form.number < 2 ^ 64 → as_form (name_of form) ≡ Some form
unfolding as_form
form-written form l h =
    let name = name_of form in
    let dash : starts_with (ascii "-") name ≡ false =
    not-begun (ascii "-") name
    (λ e.
    let first : form.family ≡ 45 = ap (λ (t : List ℕ). get_or t 0 0) (sym (letter-name form l) ∙ starts_is (ascii "-") name e) in
    omega (arith, bounds 65 90 form.family l)) in
    let read = name_back name 0 form (length name) (digits-past name (length name) (omega arith)) (record { named = rw l; below = h; piece = whole name }) in
    rw (dash, read, eq-eqb _ (length name) refl)
