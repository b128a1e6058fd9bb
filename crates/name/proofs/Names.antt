-- A form's name is read where it stands, and what is read stands there: a letter and a decimal, or a dash, told apart by the first byte.
-- Assumes nothing.
use mathlib.Core.Path.{◌≡◌, refl, sym, ap, ◌∙◌}
use mathlib.Core.Bool.{Bool, true, false, and-eq-true_iff}
use mathlib.Core.List.{List, [], ◌∷◌}
use Prim.Native.Nat.{ℕ, suc, ◌+◌, ◌^◌, ◌<◌}
use native.Mathlib.Nat.{add-zero}
use native.Mathlib.Omega.{arith}
use native.Mathlib.Decide.{dec_lt}
use lib.Dec.{eqb}
use lib.ListN.{length, get_or, drop, get_or-eq_default}
use lib.Seq.{drop-cons, get_or-drop}
use borrow.Author.Tests.{le-leb, lt-leb, eqb-true, eqb-false, eq-eqb, ne_eqb}
use Rattle.form.specs.Form.{no_form, same_form}
use Rattle.form.specs.declared.Form.{Form}
use Rattle.text.specs.Ascii.{within, starts_with}
use Rattle.text.specs.Decimal.{decimal}
use Rattle.text.specs.Number.{digits_of, number_of}
use Rattle.text.proofs.Numbers.{bounds, taken, no_number, some-parts, number-none, number_read, number-back}
use Rattle.text.proofs.RoundTrip.{ended, byte-stands}
use Rattle.text.proofs.Stands.{Stands, stands, stands-then, stands_parts}
use Rattle.std.specs.Prelude.{Option, Some, None}
use Rattle.name.specs.Name.{is_letter, dash, name_of, has_name, name_at, named_at}

-- a form's name, by its family
pub letter-name : (form : Form) → is_letter form.family ≡ true → name_of form ≡ form.family ∷ decimal form.number
unfolding name_of
letter-name form e = rw e

pub other_name : (form : Form) → is_letter form.family ≡ false → name_of form ≡ dash ∷ []
unfolding name_of
other_name form e = rw e

-- the name of a form stands at a place
pub record Named (text : List ℕ) (at : ℕ) (form : Form) (next : ℕ) : Type 0 where
  pub named : has_name form ≡ true
  pub below : form.number < 2 ^ 64
  pub piece : Stands text at (name_of form) next

module _ (text : List ℕ) (at : ℕ) where
  -- the byte at a place stands there, where it isn't 0
  there : (c : ℕ) → get_or text at 0 ≡ c → 0 < c → Stands text at (c ∷ []) (at + 1)
  there c e h =
      elim (dec_lt at (length text)) [
        | yes l ↦ stands at (c ∷ []) (drop (suc at) text) (drop-cons text at 0 l ∙ rw e)
        | no l ↦ absurd (omega (arith, e, get_or-eq_default text 0 {n = at} (omega arith)))
      ]

  byte-there : (c : ℕ) {next : ℕ} → Stands text at (c ∷ []) next → get_or text at 0 ≡ c
  byte-there c s = sym (ap (λ (k : ℕ). get_or text k 0) (add-zero at)) ∙ sym (get_or-drop at text 0 0) ∙ ap (λ (l : List ℕ). get_or l 0 0) s.found

  -- what is read, by the first byte
  abbrev first : ℕ
  first = get_or text at 0

  no-dash : is_letter first ≡ true → first ≡ dash → ⊥
  no-dash l d = omega (arith, bounds 65 90 first l)

  pub name-dash : first ≡ dash → name_at text at ≡ Some (no_form, at + 1)
  unfolding name_at
  name-dash d = rw (eq-eqb first dash d)

  module _ (d : first ≡ dash → ⊥) where
    pub name-other : is_letter first ≡ false → name_at text at ≡ None
    unfolding name_at
    name-other l = rw (ne_eqb first dash d, l)

    module _ (l : is_letter first ≡ true) where
      pub name-number : (n next : ℕ) → number_of text (at + 1) ≡ Some (n, next) → name_at text at ≡ Some (record { family = first; number = n }, next)
      unfolding name_at
      name-number n next r = rw (ne_eqb first dash d, l, r)

      pub name-no-number : number_of text (at + 1) ≡ None → name_at text at ≡ None
      unfolding name_at
      name-no-number r = rw (ne_eqb first dash d, l, r)

  -- what is read stands there
  module _ (form : Form) (next : ℕ) where
    dash-read : first ≡ dash → ◌≡◌ {A = Option (Form × ℕ)} (Some (no_form, at + 1)) (Some (form, next)) → Named text at form next
    unfolding name_of
    dash-read d e =
        let p = some-parts e in
        rw (← p.0, ← p.1) (record { named = refl; below = omega arith; piece = there dash d (omega arith) })

    letter-read : is_letter first ≡ true → (m : Option (ℕ × ℕ)) → number_of text (at + 1) ≡ m → name_at text at ≡ Some (form, next) → Named text at form next
    letter-read l None r e = absurd (no_number (sym (name-no-number (no-dash l) l r) ∙ e))
    letter-read l (Some (n, last)) r e =
        let q : ◌≡◌ {A = Option (Form × ℕ)} (Some (record { family = first; number = n }, last)) (Some (form, next)) = sym (name-number (no-dash l) l n last r) ∙ e in
        let p = some-parts q in
        let i = number_read text (at + 1) n last r in
        rw (← p.0, ← p.1)
        (record {
          named = rw l;
          below = i.below;
          piece = rw (letter-name (record { family = first; number = n }) l) (stands-then (there first refl (omega (arith, bounds 65 90 first l))) i.piece);
        })

    pub name-read : name_at text at ≡ Some (form, next) → Named text at form next
    name-read e = go (eqb first dash) (is_letter first) refl refl
      where
        go : (t u : Bool) → eqb first dash ≡ t → is_letter first ≡ u → Named text at form next
        go true u d l = let d = eqb-true first dash d in dash-read d (sym (name-dash d) ∙ e)
        go false true d l = letter-read l (number_of text (at + 1)) refl e
        go false false d l = absurd (no_number (sym (name-other (eqb-false first dash d) l) ∙ e))

    -- what stands there is read, where no digit comes after it
    letter-back : is_letter form.family ≡ true → digits_of (drop next text) ≡ [] → Named text at form next → name_at text at ≡ Some (form, next)
    letter-back l z n =
        let p = stands_parts (form.family ∷ []) (rw (letter-name form l) at n.piece) in
        let f : first ≡ form.family = byte-there form.family p.0 in
        let l' : is_letter first ≡ true = ap is_letter f ∙ l in
        name-number (no-dash l') l' form.number next (number-back text (at + 1) form.number next z (record { below = n.below; piece = p.1 }))
        ∙ ap (λ (c : ℕ). Some (record { family = c; number = form.number }, next)) f

    dash-back : is_letter form.family ≡ false → Named text at form next → name_at text at ≡ Some (form, next)
    dash-back l n =
        let p = rw (other_name form l) at n.piece in
        let f : same_form form no_form ≡ true = rw l at n.named in
        let b = (and-eq-true_iff (eqb form.family 0) (eqb form.number 0)).0 f in
        name-dash (byte-there dash p)
        ∙ (λ i. Some (record { family = sym (eqb-true form.family 0 b.0) i; number = sym (eqb-true form.number 0 b.1) i }, sym p.place i))

    pub name_back : digits_of (drop next text) ≡ [] → Named text at form next → name_at text at ≡ Some (form, next)
    name_back z n = go (is_letter form.family) refl
      where
        go : (t : Bool) → is_letter form.family ≡ t → name_at text at ≡ Some (form, next)
        go true l = letter-back l z n
        go false l = dash-back l n

  no-digits : (c : ℕ) (rest : List ℕ) {next : ℕ} → within 48 57 c ≡ false → Stands text at (c ∷ rest) next → digits_of (drop at text) ≡ []
  unfolding digits_of
  no-digits c rest d s = rw (s.found, d)

  -- where a name stands no number does
  pub no_decimal : {form : Form} {next : ℕ} → Named text at form next → number_of text at ≡ None
  no_decimal {form} {next} n = sym (number-none text at (go (is_letter form.family) refl))
    where
      go : (t : Bool) → is_letter form.family ≡ t → digits_of (drop at text) ≡ []
      go true l =
          let b = bounds 65 90 form.family l in
          no-digits form.family (decimal form.number) (rw (le-leb 48 form.family (omega arith), lt-leb form.family 57 (omega arith)))
          (rw (letter-name form l) at n.piece)
      go false l = no-digits dash [] refl (rw (other_name form l) at n.piece)

-- a name and the byte that ends it, in the same two ways
pub record Ended (text : List ℕ) (at end : ℕ) (form : Form) (next : ℕ) : Type 0 where
  pub middle : ℕ
  pub name : Named text at form middle
  pub byte : Stands text middle (end ∷ []) next

module _ (text : List ℕ) (at end : ℕ) (form : Form) (next : ℕ) where
  pub named-read : named_at text at end ≡ Some (form, next) → Ended text at end form next
  unfolding named_at
  named-read = by_name (name_at text at) refl
    where
      by_name : (m : Option (Form × ℕ)) → name_at text at ≡ m → named_at text at end ≡ Some (form, next) → Ended text at end form next
      by_name None e f = absurd (no_number (rw e at f))
      by_name (Some (g, middle)) e f =
          let t = taken (starts_with (end ∷ []) (drop middle text)) (rw e at f) no_number in
          let p = some-parts t.1 in
          rw (← p.0, ← p.1) (record { middle = middle; name = name-read text at g middle e; byte = byte-stands text middle end t.0 })

  pub named_back : within 48 57 end ≡ false → Ended text at end form next → named_at text at end ≡ Some (form, next)
  unfolding named_at
  named_back d s =
      let e = ended text s.middle end next d s.byte in
      rw (name_back text at form s.middle e.0 s.name, e.1, s.byte.place)
