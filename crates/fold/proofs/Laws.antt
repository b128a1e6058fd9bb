-- Laws of what is folded, for any records: a record more is folded in by one of two cases; no more are left than there were; each is of a whole
-- bundle, and of one that none before it has; and what passes a test as a record of a whole bundle passes it folded. Assumes nothing.
use mathlib.Core.Path.{◌≡◌, refl, sym, ap, ap₂, ◌∙◌, subst}
use mathlib.Core.Bool.{Bool, true, false, cond, ◌&&◌, ◌||◌}
use mathlib.Core.List.{List, [], ◌∷◌, ◌++◌, append_assoc, append-nil, map}
use Prim.Native.Nat.{ℕ, ◌+◌, ◌≤◌}
use native.Mathlib.Omega.{arith}
use lib.Dec.{T, leb, eqb}
use lib.ListN.{length, length-append}
use mir.Facts.{and_yes, yes_and}
use Rattle.bundle.specs.declared.half.Halves.{Halves}
use Rattle.record.specs.Record.{highest, whole_record, passes, may_stand}
use Rattle.record.proofs.Laws.{whole-passes}
use Rattle.record.specs.declared.Record.{Record}
use Rattle.records.specs.Journal.{all}
use Rattle.records.proofs.Standing.{all_append}
use Rattle.fold.specs.Fold.{has, bundles_in, as_whole, renewed, folded_in, folded_on, folded}

-- what a record of a whole bundle has of another with the same old one, a renewed one has
renewed-keeps : {A : Type 0} (f : Record → A) (r q : Record) → f (whole_record q.party q.bundle q.old r.new) ≡ f q → f (renewed r q) ≡ f q
renewed-keeps f r q e = go (eqb q.bundle r.bundle)
  where
    go : (t : Bool) → f (cond t (whole_record q.party q.bundle q.old r.new) q) ≡ f q
    go true = e
    go false = refl

pub renewed-bundle : (r q : Record) → (renewed r q).bundle ≡ q.bundle
renewed-bundle r q = renewed-keeps (λ (p : Record). p.bundle) r q refl

pub renewed-old : (r q : Record) → (renewed r q).old ≡ q.old
renewed-old r q = renewed-keeps (λ (p : Record). p.old) r q refl

renewed-whole : (r q : Record) → q ≡ as_whole q → renewed r q ≡ as_whole (renewed r q)
renewed-whole r q e = go (eqb q.bundle r.bundle)
  where
    go : (t : Bool) → let p = cond t (whole_record q.party q.bundle q.old r.new) q in p ≡ as_whole p
    go true = refl
    go false = e

pub renewed-bundles : (r : Record) (qs : List Record) → bundles_in (map (renewed r) qs) ≡ bundles_in qs
renewed-bundles r [] = refl
renewed-bundles r (q ∷ qs) = ap₂ (λ (k : ℕ) (ks : List ℕ). k ∷ ks) (renewed-bundle r q) (renewed-bundles r qs)

pub bundles-append : (ps qs : List Record) → bundles_in (ps ++ qs) ≡ bundles_in ps ++ bundles_in qs
bundles-append [] qs = refl
bundles-append (p ∷ ps) qs = ap (λ (ks : List ℕ). p.bundle ∷ ks) (bundles-append ps qs)

pub bundles-length : (qs : List Record) → length (bundles_in qs) ≡ length qs
bundles-length [] = refl
bundles-length (q ∷ qs) = omega (arith, bundles-length qs)

pub has_last : (k j : ℕ) (is : List ℕ) → has k (is ++ (j ∷ [])) ≡ has k (j ∷ is)
has_last k j [] = refl
has_last k j (i ∷ is) = ap (λ (t : Bool). eqb i k || t) (has_last k j is) ∙ swap (eqb i k) (eqb j k) (has k is)
  where
    swap : (a b c : Bool) → (a || (b || c)) ≡ (b || (a || c))
    swap true true c = refl
    swap true false c = refl
    swap false true c = refl
    swap false false c = refl

pub map-append : (f : Record → Record) (ps qs : List Record) → map f (ps ++ qs) ≡ map f ps ++ map f qs
map-append f [] qs = refl
map-append f (p ∷ ps) qs = ap (λ (rs : List Record). f p ∷ rs) (map-append f ps qs)

map-length : (f : Record → Record) (ps : List Record) → length (map f ps) ≡ length ps
map-length f [] = refl
map-length f (p ∷ ps) = omega (arith, map-length f ps)

-- one record more
pub folded_more : (qs rs : List Record) (r : Record) → folded_on qs (rs ++ (r ∷ [])) ≡ folded_in (folded_on qs rs) r
folded_more qs [] r = refl
folded_more qs (p ∷ rs) r = folded_more (folded_in qs p) rs r

-- the two cases of a record folded into others
abbrev pub More : (List Record → Type 0) → List Record → Record → Type 0
More P qs r = (has r.bundle (bundles_in qs) ≡ true → P (map (renewed r) qs)) × (has r.bundle (bundles_in qs) ≡ false → P (qs ++ (as_whole r ∷ [])))

pub by-more : (P : List Record → Type 0) (qs : List Record) (r : Record) → More P qs r → P (folded_in qs r)
by-more P qs r m = go (has r.bundle (bundles_in qs)) refl
  where
    go : (t : Bool) → has r.bundle (bundles_in qs) ≡ t → P (cond t (map (renewed r) qs) (qs ++ (as_whole r ∷ [])))
    go true e = m.0 e
    go false e = m.1 e

-- some bundles with one more, unless they have it
abbrev pub with_bundle : List ℕ → ℕ → List ℕ
with_bundle ks k = cond (has k ks) ks (ks ++ (k ∷ []))

pub bundles-in : (qs : List Record) (r : Record) → bundles_in (folded_in qs r) ≡ with_bundle (bundles_in qs) r.bundle
bundles-in qs r = go (has r.bundle (bundles_in qs))
  where
    go : (t : Bool) → bundles_in (cond t (map (renewed r) qs) (qs ++ (as_whole r ∷ []))) ≡ cond t (bundles_in qs) (bundles_in qs ++ (r.bundle ∷ []))
    go true = renewed-bundles r qs
    go false = bundles-append qs (as_whole r ∷ [])

-- so many are left then
pub length-in : (qs : List Record) (r : Record) → length (folded_in qs r) ≡ cond (has r.bundle (bundles_in qs)) (length qs) (length qs + 1)
length-in qs r = go (has r.bundle (bundles_in qs))
  where
    go : (t : Bool) → length (cond t (map (renewed r) qs) (qs ++ (as_whole r ∷ []))) ≡ cond t (length qs) (length qs + 1)
    go true = map-length (renewed r) qs
    go false = length-append qs (as_whole r ∷ [])

pub fewer : (qs rs : List Record) → length (folded_on qs rs) ≤ length qs + length rs
fewer qs [] = omega arith
fewer qs (r ∷ rs) = omega (arith, fewer (folded_in qs r) rs, go (has r.bundle (bundles_in qs)), length-in qs r)
  where
    go : (t : Bool) → cond t (length qs) (length qs + 1) ≤ length qs + 1
    go true = omega arith
    go false = omega arith

-- what a record keeps as one of its whole bundle, whatever its new one, those that are folded keep
module _ (test : Record → Bool) (keeps : (r : Record) (new : Halves) → T (test r) → T (test (whole_record r.party r.bundle r.old new))) where
  all-renewed : (r : Record) (qs : List Record) → T (all test qs) → T (all test (map (renewed r) qs))
  all-renewed r [] t = tt
  all-renewed r (q ∷ qs) t = let s = and_yes (test q) (all test qs) t in yes_and (test (renewed r q)) (all test (map (renewed r) qs)) (go (eqb q.bundle r.bundle) s.0) (all-renewed r qs s.1)
    where
      go : (b : Bool) → T (test q) → T (test (cond b (whole_record q.party q.bundle q.old r.new) q))
      go true h = keeps q r.new h
      go false h = h

  all-folded : (qs rs : List Record) → T (all test qs) → T (all test rs) → T (all test (folded_on qs rs))
  all-folded qs [] t u = t
  all-folded qs (r ∷ rs) t u =
      let s = and_yes (test r) (all test rs) u in
      all-folded (folded_in qs r) rs
      (by-more (λ ps. T (all test ps)) qs r (
        λ _. all-renewed r qs t,
        λ _. subst T (sym (all_append test qs (as_whole r ∷ []))) (yes_and (all test qs) (test (as_whole r) && true) t (yes_and (test (as_whole r)) true (keeps r r.new s.0) tt)),
      ))
      s.1

-- those of records that may stand may stand
pub may-folded : (party : ℕ) (rs : List Record) → T (all (may_stand party) rs) → T (all (may_stand party) (folded rs))
may-folded party rs t = all-folded (may_stand party) may [] rs tt t
  where
    may : (r : Record) (new : Halves) → T (may_stand party r) → T (may_stand party (whole_record r.party r.bundle r.old new))
    may r new t =
        let a = and_yes (leb r.bundle highest) (passes r && eqb r.party party) t in
        yes_and (leb r.bundle highest) _ a.0 (yes_and (passes (whole_record r.party r.bundle r.old new)) (eqb r.party party) (subst T (sym (whole-passes r.party r.bundle r.old new)) tt) (and_yes (passes r) (eqb r.party party) a.1).1)

-- records of whole bundles, each of a bundle that none before it has
abbrev pub Folded : List Record → List Record → Type 0
Folded ps [] = Unit {0}
Folded ps (q ∷ qs) = (has q.bundle (bundles_in ps) ≡ false) × (q ≡ as_whole q) × Folded (ps ++ (q ∷ [])) qs

pub folded-again : (ps qs : List Record) → Folded ps qs → folded_on ps qs ≡ ps ++ qs
folded-again ps [] f = sym (append-nil ps)
folded-again ps (q ∷ qs) f =
    ap (λ (rs : List Record). folded_on rs qs)
    (ap (λ (t : Bool). cond t (map (renewed q) ps) (ps ++ (as_whole q ∷ []))) f.0 ∙ ap (λ (p : Record). ps ++ (p ∷ [])) (sym f.1))
    ∙ folded-again (ps ++ (q ∷ [])) qs f.2
    ∙ append_assoc ps (q ∷ []) qs

folded-renewed : (r : Record) (ps qs : List Record) → Folded ps qs → Folded (map (renewed r) ps) (map (renewed r) qs)
folded-renewed r ps [] f = tt
folded-renewed r ps (q ∷ qs) f = (
  ap₂ has (renewed-bundle r q) (renewed-bundles r ps) ∙ f.0,
  renewed-whole r q f.1,
  subst (λ (rs : List Record). Folded rs (map (renewed r) qs)) (map-append (renewed r) ps (q ∷ [])) (folded-renewed r (ps ++ (q ∷ [])) qs f.2),
)

folded-last : (w : Record) → w ≡ as_whole w → (ps qs : List Record) → has w.bundle (bundles_in (ps ++ qs)) ≡ false → Folded ps qs → Folded ps (qs ++ (w ∷ []))
folded-last w e ps [] h f = (ap (λ (rs : List Record). has w.bundle (bundles_in rs)) (sym (append-nil ps)) ∙ h, e, tt)
folded-last w e ps (q ∷ qs) h f =
    (f.0, f.1, folded-last w e (ps ++ (q ∷ [])) qs (ap (λ (rs : List Record). has w.bundle (bundles_in rs)) (append_assoc ps (q ∷ []) qs) ∙ h) f.2)

pub is-folded : (qs rs : List Record) → Folded [] qs → Folded [] (folded_on qs rs)
is-folded qs [] f = f
is-folded qs (r ∷ rs) f =
    is-folded (folded_in qs r) rs (by-more (Folded []) qs r (λ _. folded-renewed r [] qs f, λ h. folded-last (as_whole r) refl [] qs h f))
