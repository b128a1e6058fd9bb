-- What is known of a word narrows a table: an entry that a known field contradicts goes, and a field that it decides is not looked at any
-- more. So a `match` on some bits of a word is held to a table arm by arm. Once, over any table. Assumes nothing.
use mathlib.Core.Path.{◌≡◌, refl, sym, ap, ◌∙◌, subst}
use mathlib.Core.Bool.{Bool, true, false, cond, ◌&&◌, ◌||◌}
use mathlib.Core.List.{List, [], ◌∷◌, ◌++◌}
use mathlib.Core.Logic.{⊎_elim}
use Prim.Native.Nat.{ℕ, ◌^◌, ◌<◌}
use lib.Dec.{T, eqb, eqb→eq}
use borrow.Author.Tests.{eq-eqb}
use mir.Facts.{and_yes, yes_and, or_yes}
use Rattle.bits.specs.Part.{part}
use Rattle.bits.proofs.Laws.{part-lt}
use Rattle.table.specs.Entry.{Field, Entry, holds, chosen}
use Rattle.table.proofs.Check.{below, checked}
use Rattle.table.proofs.Exclusive.{against, not-against, is_false}
use Rattle.table.proofs.Held.{all, chosen-held}
use Rattle.table.proofs.Known.{Has, inside, value_in, decided}
use Rattle.table.proofs.Match.{Rest, ones, any_names, not_named}

-- an element before a list, unless the test says otherwise
abbrev unless {ℓ} : {A : Type ℓ} → Bool → A → List A → List A
unless true a xs = xs
unless false a xs = a ∷ xs

-- the fields but those that hold by f
abbrev without : Field → List Field → List Field
without f [] = []
without f (g ∷ gs) = unless (inside f g && eqb (value_in f g) g.2) g (without f gs)

abbrev pub narrow {ℓ} : {A : Type ℓ} → Field → List (Entry A) → List (Entry A)
narrow f [] = []
narrow f (e ∷ es) = unless (against f e.0) (without f e.0, e.1) (narrow f es)

abbrev pub narrowed {ℓ} : {A : Type ℓ} → List Field → List (Entry A) → List (Entry A)
narrowed [] es = es
narrowed (f ∷ fs) es = narrowed fs (narrow f es)

-- what a table has for a word with the fields fs and f
abbrev pub left {ℓ} : {A : Type ℓ} → List Field → Field → List (Entry A) → ℕ → A → A
left fs f es word other = chosen (narrow f (narrowed fs es)) word other

-- each value of `width` bits from `place` on is one of the arms', or has no entry
abbrev pub others {ℓ} : {A : Type ℓ} → ℕ → ℕ → List ℕ → List (Entry A) → Bool
others place width arms es = below (λ k. any_names (ones arms) k || all (λ a. false) (narrow (place, width, k) es)) (2 ^ width)

abbrev is_nil : List Field → Bool
is_nil [] = true
is_nil (f ∷ fs) = false

-- fields by which each of some others holds
abbrev pub decides : List Field → List Field → Bool
decides [] gs = is_nil gs
decides (f ∷ fs) gs = decides fs (without f gs)

module _ (word : ℕ) where
  module _ (f : Field) (p : Has word f) where
    fields : (gs : List Field) → holds (without f gs) word ≡ holds gs word
    fields [] = refl
    fields (g ∷ gs) = by-test (inside f g && eqb (value_in f g) g.2) refl (fields gs)
      where
        by-test : (b : Bool) → (inside f g && eqb (value_in f g) g.2) ≡ b → holds (without f gs) word ≡ holds gs word
            → holds (unless b g (without f gs)) word ≡ holds (g ∷ gs) word
        by-test true q e =
            let both = and_yes (inside f g) (eqb (value_in f g) g.2) (subst T (sym q) tt) in
            e ∙ ap (λ (b : Bool). b && holds gs word) (sym (eq-eqb _ _ (decided word f g p both.0 ∙ eqb→eq _ _ both.1)))
        by-test false q e = ap (λ (b : Bool). eqb (part word g.0 g.1) g.2 && b) e

    narrow_chosen {ℓ} : {A : Type ℓ} (es : List (Entry A)) (other : A) → chosen (narrow f es) word other ≡ chosen es word other
    narrow_chosen [] other = refl
    narrow_chosen (e ∷ es) other = by-test (against f e.0) refl (narrow_chosen es other)
      where
        by-test : (b : Bool) → against f e.0 ≡ b → chosen (narrow f es) word other ≡ chosen es word other
            → chosen (unless b (without f e.0, e.1) (narrow f es)) word other ≡ chosen (e ∷ es) word other
        by-test true q r =
            let no = is_false (holds e.0 word) (not-against word f e.0 (subst T (sym q) tt) p) in
            r ∙ ap (λ (b : Bool). cond b e.1 (chosen es word other)) (sym no)
        by-test false q r =
            ap (cond (holds (without f e.0) word) e.1) r ∙ ap (λ (b : Bool). cond b e.1 (chosen es word other)) (fields e.0)

  decided-all : (fs gs : List Field) → T (holds fs word) → T (decides fs gs) → T (holds gs word)
  decided-all [] [] known t = tt
  decided-all [] (g ∷ gs) known t = absurd t
  decided-all (f ∷ fs) gs known t =
      let both = and_yes (eqb (part word f.0 f.1) f.2) (holds fs word) known in
      subst T (fields f (eqb→eq _ _ both.0) gs) (decided-all fs (without f gs) both.1 t)

  -- all the fields that hold
  settle {ℓ} : {A : Type ℓ} (fs : List Field) (es : List (Entry A)) (other : A) → T (holds fs word) → chosen (narrowed fs es) word other ≡ chosen es word other
  settle [] es other t = refl
  settle (f ∷ fs) es other t =
      let both = and_yes (eqb (part word f.0 f.1) f.2) (holds fs word) t in
      settle fs (narrow f es) other both.1 ∙ narrow_chosen f (eqb→eq _ _ both.0) es other

  one_more : (fs : List Field) → T (holds fs word) → (f : Field) → Has word f → T (holds (fs ++ f ∷ []) word)
  one_more [] t f p = subst (λ (b : Bool). T (b && true)) (sym (eq-eqb _ _ p)) tt
  one_more (g ∷ fs) t f p =
      let both = and_yes (eqb (part word g.0 g.1) g.2) (holds fs word) t in
      yes_and (eqb (part word g.0 g.1) g.2) (holds (fs ++ f ∷ []) word) both.0 (one_more fs both.1 f p)

  empty-chosen {ℓ} : {A : Type ℓ} (es : List (Entry A)) (other : A) → T (all (λ a. false) es) → other ≡ chosen es word other
  empty-chosen [] other t = refl
  empty-chosen (e ∷ es) other t = absurd t

  -- in a `match` on `width` bits from `place` on, where the fields `fs` are known: what an arm has; a test that it passes; what it may ask
  -- of a function that it calls; and what the arm after all of them has
  module _ (fs : List Field) (known : T (holds fs word)) (place width n : ℕ) (is : n ≡ part word place width) where
    has : {k : ℕ} → n ≡ k → Has word (place, width, k)
    has q = sym is ∙ q

    pub in-arm {ℓ} : {A : Type ℓ} (es : List (Entry A)) (other : A) {k : ℕ} → n ≡ k → left fs (place, width, k) es word other ≡ chosen es word other
    in-arm es other {k} q = narrow_chosen (place, width, k) (has q) (narrowed fs es) other ∙ settle fs es other known

    pub in-test {ℓ} : {A : Type ℓ} (test : A → Bool) (es : List (Entry A)) (other : A) {k : ℕ} → n ≡ k
        → T (all test (narrow (place, width, k) (narrowed fs es))) → T (test other) → T (test (chosen es word other))
    in-test test es other {k} q t o =
        subst (λ a. T (test a)) (in-arm es other q) (chosen-held test (narrow (place, width, k) (narrowed fs es)) word other t o)

    pub in-call : (gs : List Field) {k : ℕ} → n ≡ k → T (decides (fs ++ (place, width, k) ∷ []) gs) → T (holds gs word)
    in-call gs {k} q t = decided-all (fs ++ (place, width, k) ∷ []) gs (one_more fs known (place, width, k) (has q)) t

    pub in_rest {ℓ} : {A : Type ℓ} (es : List (Entry A)) (other : A) (arms : List ℕ) → T (others place width arms (narrowed fs es)) → Rest n (ones arms) → other ≡ chosen es word other
    in_rest es other arms t rest =
        ⊎_elim (λ named. absurd (not_named (ones arms) n n rest named refl))
        (λ e. empty-chosen (narrow (place, width, n) (narrowed fs es)) other e ∙ in-arm es other refl)
        (or_yes (any_names (ones arms) n) _ (checked _ (2 ^ width) t n (subst (λ (x : ℕ). x < 2 ^ width) (sym is) (part-lt word place width))))
