-- A form as text: its family's letter and its number, as `M48`, and `-` for no form. Assumes nothing.
use Rattle.std.specs.Prelude.{ℕ, ◌+◌, Bool, cond, ◌||◌, List, [], ◌∷◌, eqb, get_or, drop, Option, Some, None}
use Rattle.form.specs.Form.{no_form, same_form}
use Rattle.form.specs.declared.Form.{Form}
use Rattle.text.specs.Ascii.{within, starts_with}
use Rattle.text.specs.Decimal.{decimal}
use Rattle.text.specs.Fields.{after_number}
use Rattle.text.specs.Number.{number_of}

-- a capital letter
abbrev pub is_letter : ℕ → Bool
is_letter c = within 65 90 c

abbrev pub dash : ℕ
dash = 45

-- a form's name: its family's letter and its number; `-` where the family is no letter
unfoldable pub name_of : Form → List ℕ
name_of form = cond (is_letter form.family) (form.family ∷ decimal form.number) (dash ∷ [])

-- a form that its name tells from all others: one whose family is a letter, and no form
abbrev pub has_name : Form → Bool
has_name form = is_letter form.family || same_form form no_form

-- the form whose name stands at a place, and the place after it
unfoldable pub name_at : List ℕ → ℕ → Option (Form × ℕ)
name_at text at =
    let c = get_or text at 0 in
    cond (eqb c dash) (Some (no_form, at + 1))
    (cond (is_letter c) (after_number (number_of text (at + 1)) (λ n next. Some (record { family = c; number = n }, next)) None) None)

-- what comes after a name, or where there is none
abbrev pub after_name {ℓ} : {A : Type ℓ} → Option (Form × ℕ) → (Form → ℕ → A) → A → A
after_name (Some r) more other = more r.0 r.1
after_name None more other = other

-- the form at a place whose name the byte `end` ends, and the place after that byte
unfoldable pub named_at : List ℕ → ℕ → ℕ → Option (Form × ℕ)
named_at text at end =
    after_name (name_at text at) (λ form next. cond (starts_with (end ∷ []) (drop next text)) (Some (form, next + 1)) None) None
