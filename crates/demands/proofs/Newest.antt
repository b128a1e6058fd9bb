-- Of each bundle the oldest old and the newest new: what is folded has the same as what it was folded of. With these all of fold's laws.
-- Assumes nothing.
use mathlib.Core.Path.{◌≡◌, refl, sym, ap, ap₂, ◌∙◌, subst}
use mathlib.Core.Bool.{Bool, true, false, cond, ◌||◌}
use mathlib.Core.List.{List, [], ◌∷◌, ◌++◌, map}
use mathlib.Core.Option.{Option, none, some}
use Prim.Native.Nat.{ℕ}
use native.Mathlib.Decide.{ℕ_discrete}
use native.Mathlib.Omega.{arith}
use borrow.Author.Tests.{eq-eqb, ne_eqb}
use lib.Dec.{T, eqb}
use lib.ListN.{length}
use Rattle.bundle.specs.declared.half.Halves.{Halves}
use Rattle.record.specs.Record.{whole_record}
use Rattle.record.specs.declared.Record.{Record}
use Rattle.fold.specs.Fold.{has, bundles_in, as_whole, renewed, folded_in, folded_on, folded}
use Rattle.demands.specs.Folds.{else, of_bundle, oldest, newest, Folds}
use Rattle.fold.proofs.Laws.{renewed-bundle, renewed-old, by-more, fewer, folded-again, is-folded}
use Rattle.demands.proofs.Fold.{touches, backs}

else-none : (x : Option Halves) → else x none ≡ x
else-none none = refl
else-none (some h) = refl

else-assoc : (x y z : Option Halves) → else (else x y) z ≡ else x (else y z)
else-assoc none y z = refl
else-assoc (some h) y z = refl

module _ (k : ℕ) where
  oldest-append : (ps qs : List Record) → oldest k (ps ++ qs) ≡ else (oldest k ps) (oldest k qs)
  oldest-append [] qs = refl
  oldest-append (p ∷ ps) qs = ap (else (of_bundle k p p.old)) (oldest-append ps qs) ∙ sym (else-assoc (of_bundle k p p.old) (oldest k ps) (oldest k qs))

  newest-append : (ps qs : List Record) → newest k (ps ++ qs) ≡ else (newest k qs) (newest k ps)
  newest-append [] qs = sym (else-none (newest k qs))
  newest-append (p ∷ ps) qs = ap (λ (x : Option Halves). else x (of_bundle k p p.new)) (newest-append ps qs) ∙ else-assoc (newest k qs) (newest k ps) (of_bundle k p p.new)

  -- a record of bundle k, and one of another
  own-some : (r : Record) → r.bundle ≡ k → (h : Halves) → of_bundle k r h ≡ some h
  own-some r q h = ap (λ (t : Bool). cond t (some h) none) (eq-eqb r.bundle k q)

  other_none : (r : Record) → (r.bundle ≡ k → ⊥) → (h : Halves) → of_bundle k r h ≡ none
  other_none r d h = ap (λ (t : Bool). cond t (some h) none) (ne_eqb r.bundle k d)

  -- where a record of bundle k stands
  later-has : (q : Record) (qs : List Record) → (q.bundle ≡ k → ⊥) → has k (bundles_in (q ∷ qs)) ≡ true → has k (bundles_in qs) ≡ true
  later-has q qs d t = ap (λ (b : Bool). b || has k (bundles_in qs)) (sym (ne_eqb q.bundle k d)) ∙ t

  oldest-there : (x : Option Halves) (qs : List Record) → has k (bundles_in qs) ≡ true → else (oldest k qs) x ≡ oldest k qs
  oldest-there x [] t = absurd (subst T (sym t) tt)
  oldest-there x (q ∷ qs) t = go (oldest-there x qs) (ℕ_discrete q.bundle k)
    where
      go : (has k (bundles_in qs) ≡ true → else (oldest k qs) x ≡ oldest k qs) → Dec (q.bundle ≡ k) → else (oldest k (q ∷ qs)) x ≡ oldest k (q ∷ qs)
      go ih (yes e) = ap (λ (o : Option Halves). else (else o (oldest k qs)) x) (own-some q e q.old) ∙ ap (λ (o : Option Halves). else o (oldest k qs)) (sym (own-some q e q.old))
      go ih (no d) =
          else-assoc (of_bundle k q q.old) (oldest k qs) x ∙ ap (else (of_bundle k q q.old)) (ih (later-has q qs d t))

  module _ (r : Record) where
    oldest-renewed : (qs : List Record) → oldest k (map (renewed r) qs) ≡ oldest k qs
    oldest-renewed [] = refl
    oldest-renewed (q ∷ qs) = ap₂ else (λ i. cond (eqb (renewed-bundle r q i) k) (some (renewed-old r q i)) none) (oldest-renewed qs)

    -- what a record q of bundle k has as new after r, which is of that bundle or of another
    abbrev new_of : Record → Option Halves
    new_of q = of_bundle k (renewed r q) (renewed r q).new

    not-renewed : (q : Record) → (q.bundle ≡ r.bundle → ⊥) → new_of q ≡ of_bundle k q q.new
    not-renewed q d = ap (λ (t : Bool). let p = cond t (whole_record q.party q.bundle q.old r.new) q in of_bundle k p p.new) (ne_eqb q.bundle r.bundle d)

    is-renewed : (q : Record) → q.bundle ≡ r.bundle → new_of q ≡ of_bundle k q r.new
    is-renewed q e = ap (λ (t : Bool). let p = cond t (whole_record q.party q.bundle q.old r.new) q in of_bundle k p p.new) (eq-eqb q.bundle r.bundle e)

    new-own : r.bundle ≡ k → (q : Record) → new_of q ≡ of_bundle k q r.new
    new-own e q = go (ℕ_discrete q.bundle r.bundle)
      where
        go : Dec (q.bundle ≡ r.bundle) → new_of q ≡ of_bundle k q r.new
        go (yes f) = is-renewed q f
        go (no d) = let off : q.bundle ≡ k → ⊥ = λ f. d (f ∙ sym e) in not-renewed q d ∙ other_none q off q.new ∙ sym (other_none q off r.new)

    new-other : (r.bundle ≡ k → ⊥) → (q : Record) → new_of q ≡ of_bundle k q q.new
    new-other d q = go (ℕ_discrete q.bundle r.bundle)
      where
        go : Dec (q.bundle ≡ r.bundle) → new_of q ≡ of_bundle k q q.new
        go (yes f) = let off : q.bundle ≡ k → ⊥ = λ g. d (sym f ∙ g) in is-renewed q f ∙ other_none q off r.new ∙ sym (other_none q off q.new)
        go (no g) = not-renewed q g

    new-at-most : r.bundle ≡ k → (qs : List Record) → else (newest k (map (renewed r) qs)) (some r.new) ≡ some r.new
    new-at-most e [] = refl
    new-at-most e (q ∷ qs) =
        else-assoc (newest k (map (renewed r) qs)) (new_of q) (some r.new)
        ∙ ap (else (newest k (map (renewed r) qs))) (ap (λ (o : Option Halves). else o (some r.new)) (new-own e q) ∙ either (eqb q.bundle k))
        ∙ new-at-most e qs
      where
        either : (t : Bool) → else (cond t (some r.new) none) (some r.new) ≡ some r.new
        either true = refl
        either false = refl

    newest-renewed : r.bundle ≡ k → (qs : List Record) → has k (bundles_in qs) ≡ true → newest k (map (renewed r) qs) ≡ some r.new
    newest-renewed e [] t = absurd (subst T (sym t) tt)
    newest-renewed e (q ∷ qs) t = ap (else (newest k (map (renewed r) qs))) (new-own e q) ∙ go (newest-renewed e qs) (ℕ_discrete q.bundle k)
      where
        go : (has k (bundles_in qs) ≡ true → newest k (map (renewed r) qs) ≡ some r.new) → Dec (q.bundle ≡ k) → else (newest k (map (renewed r) qs)) (of_bundle k q r.new) ≡ some r.new
        go ih (yes f) = ap (else (newest k (map (renewed r) qs))) (own-some q f r.new) ∙ new-at-most e qs
        go ih (no d) = ap (else (newest k (map (renewed r) qs))) (other_none q d r.new) ∙ else-none _ ∙ ih (later-has q qs d t)

    newest-kept : (r.bundle ≡ k → ⊥) → (qs : List Record) → newest k (map (renewed r) qs) ≡ newest k qs
    newest-kept d [] = refl
    newest-kept d (q ∷ qs) = ap₂ else (newest-kept d qs) (new-other d q)

    oldest-in : (qs : List Record) → oldest k (folded_in qs r) ≡ else (oldest k qs) (oldest k (r ∷ []))
    oldest-in qs =
        by-more (λ ps. oldest k ps ≡ else (oldest k qs) (oldest k (r ∷ []))) qs r (
          λ t. oldest-renewed qs ∙ go t (ℕ_discrete r.bundle k),
          λ _. oldest-append qs (as_whole r ∷ []),
        )
      where
        go : has r.bundle (bundles_in qs) ≡ true → Dec (r.bundle ≡ k) → oldest k qs ≡ else (oldest k qs) (oldest k (r ∷ []))
        go t (yes e) = sym (oldest-there (oldest k (r ∷ [])) qs (ap (λ (j : ℕ). has j (bundles_in qs)) (sym e) ∙ t))
        go t (no d) = sym (ap (λ (o : Option Halves). else (oldest k qs) (else o none)) (other_none r d r.old) ∙ else-none (oldest k qs))

    newest-in : (qs : List Record) → newest k (folded_in qs r) ≡ else (newest k (r ∷ [])) (newest k qs)
    newest-in qs =
        by-more (λ ps. newest k ps ≡ else (newest k (r ∷ [])) (newest k qs)) qs r (
          λ t. go t (ℕ_discrete r.bundle k),
          λ _. newest-append qs (as_whole r ∷ []),
        )
      where
        go : has r.bundle (bundles_in qs) ≡ true → Dec (r.bundle ≡ k) → newest k (map (renewed r) qs) ≡ else (newest k (r ∷ [])) (newest k qs)
        go t (yes e) = newest-renewed e qs (ap (λ (j : ℕ). has j (bundles_in qs)) (sym e) ∙ t) ∙ sym (ap (λ (o : Option Halves). else o (newest k qs)) (own-some r e r.new))
        go t (no d) = newest-kept d qs ∙ sym (ap (λ (o : Option Halves). else o (newest k qs)) (other_none r d r.new))

  oldest-on : (qs rs : List Record) → oldest k (folded_on qs rs) ≡ else (oldest k qs) (oldest k rs)
  oldest-on qs [] = sym (else-none (oldest k qs))
  oldest-on qs (r ∷ rs) =
      oldest-on (folded_in qs r) rs
      ∙ ap (λ (o : Option Halves). else o (oldest k rs)) (oldest-in r qs)
      ∙ else-assoc (oldest k qs) (oldest k (r ∷ [])) (oldest k rs)
      ∙ ap (else (oldest k qs)) (sym (oldest-append (r ∷ []) rs))

  newest-on : (qs rs : List Record) → newest k (folded_on qs rs) ≡ else (newest k rs) (newest k qs)
  newest-on qs [] = refl
  newest-on qs (r ∷ rs) =
      newest-on (folded_in qs r) rs
      ∙ ap (else (newest k rs)) (newest-in r qs)
      ∙ sym (else-assoc (newest k rs) (newest k (r ∷ [])) (newest k qs))
      ∙ ap (λ (o : Option Halves). else o (newest k qs)) (sym (newest-append (r ∷ []) rs))

pub folds : Folds
folds rs =
    record {
      twice = folded-again [] (folded rs) (is-folded [] rs tt);
      touches = touches [] rs;
      oldest-old = λ k. oldest-on k [] rs;
      newest-new = λ k. newest-on k [] rs ∙ else-none (newest k rs);
      fewer = omega (arith, fewer [] rs);
      writes-back = λ code short l. backs (length code) short code refl [] rs tt l;
    }
