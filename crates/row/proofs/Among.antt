-- What is so of each of some forms is so of one that is among them: it is the same as one of them. Assumes nothing.
use mathlib.Core.Path.{◌≡◌, refl, sym, subst}
use mathlib.Core.Bool.{Bool, true, false, ◌&&◌, ◌||◌}
use mathlib.Core.List.{List, [], ◌∷◌}
use lib.Dec.{T, eqb, eqb→eq}
use mir.Facts.{and_yes}
use Rattle.form.specs.Form.{same_form}
use Rattle.form.specs.declared.Form.{Form}
use Rattle.row.specs.Row.{among}

module _ (test : Form → Bool) where
  abbrev pub all : List Form → Bool
  all [] = true
  all (g ∷ gs) = test g && all gs

  pub among-all : (form : Form) (gs : List Form) → T (all gs) → among form gs ≡ true → T (test form)
  among-all form [] t e = absurd (subst T (sym e) tt)
  among-all form (g ∷ gs) t e = let both = and_yes (test g) (all gs) t in by-same (same_form form g) refl both.0 (among-all form gs both.1) e
    where
      by-same : (b : Bool) → same_form form g ≡ b → T (test g) → (among form gs ≡ true → T (test form)) → (b || among form gs) ≡ true → T (test form)
      by-same true q h r e =
          let s = and_yes (eqb form.family g.family) (eqb form.number g.number) (subst T (sym q) tt) in
          let family = sym (eqb→eq form.family g.family s.0) in
          let number = sym (eqb→eq form.number g.number s.1) in
          subst (λ (f : Form). T (test f)) (λ i. record { family = family i; number = number i }) h
      by-same false q h r e = r e
