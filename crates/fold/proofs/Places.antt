-- A record folded in by its bundle's place: the place that is kept of each bundle is that of its record, and a record put there is folded in.
-- By the bundles of what is folded, of which each is there once. Assumes nothing.
use mathlib.Core.Path.{◌≡◌, refl, sym, ap, ◌∙◌, subst}
use mathlib.Core.Bool.{Bool, true, false, cond, ◌||◌}
use mathlib.Core.List.{List, [], ◌∷◌, ◌++◌, map, append_assoc}
use Prim.Native.Nat.{ℕ, suc, ◌+◌, ◌≤◌, ◌<◌}
use native.Mathlib.Decide.{ℕ_discrete}
use native.Mathlib.Numerals.{add-one}
use native.Mathlib.Omega.{arith}
use borrow.Author.Tests.{eq-eqb, ne_eqb, lt-ltb, le-ltb}
use lib.Dec.{T, eqb, ltb}
use lib.ListN.{length, get_or, set, drop, get_or-append}
use lib.Seq.{drop-cons, get_or_at, set_at, set-append_left, get_or-set_same, get_or-set_other}
use Rattle.std.proofs.Common.{Option, None, Some, unwrap_or}
use Rattle.record.specs.Record.{no_record, highest}
use Rattle.record.specs.declared.Record.{Record}
use Rattle.records.specs.Journal.{Journal, journal_of}
use Rattle.records.proofs.Standing.{journal-places, journal-wider, journal-reads, journal-pushes, journal-renews}
use Rattle.fold.specs.Fold.{has, bundles_in, as_whole, renewed, folded_in}
use Rattle.fold.specs.inner.Places.{first_place, kept_place, kept_of, left_at}
use Rattle.fold.proofs.Laws.{bundles-append, bundles-length, has_last, Folded, with_bundle}

-- a number that some have has its place among them, whatever comes after them
has-place : (ks : List ℕ) (k : ℕ) → has k ks ≡ true → first_place ks k < length ks
has-place [] k e = absurd (subst T (sym e) tt)
has-place (j ∷ js) k e = go (eqb j k) (has-place js k) e
  where
    go : (t : Bool) → (has k js ≡ true → first_place js k < length js) → (t || has k js) ≡ true → cond t 0 (suc (first_place js k)) < suc (length js)
    go true ih e = omega arith
    go false ih e = let h = ih e in omega arith

place-stays : (ks js : List ℕ) (k : ℕ) → has k ks ≡ true → first_place (ks ++ js) k ≡ first_place ks k
place-stays [] js k e = absurd (subst T (sym e) tt)
place-stays (i ∷ ks) js k e = go (eqb i k) (place-stays ks js k) e
  where
    go : (t : Bool) → (has k ks ≡ true → first_place (ks ++ js) k ≡ first_place ks k) → (t || has k ks) ≡ true → cond t 0 (suc (first_place (ks ++ js) k)) ≡ cond t 0 (suc (first_place ks k))
    go true ih e = refl
    go false ih e = ap suc (ih e)

-- one that they haven't has the place after them
place_after : (ks js : List ℕ) (k : ℕ) → has k ks ≡ false → first_place (ks ++ (k ∷ js)) k ≡ length ks
place_after [] js k e = ap (λ (t : Bool). cond t 0 (suc (first_place js k))) (eq-eqb k k refl)
place_after (i ∷ ks) js k e = go (eqb i k) (place_after ks js k) e
  where
    go : (t : Bool) → (has k ks ≡ false → first_place (ks ++ (k ∷ js)) k ≡ length ks) → (t || has k ks) ≡ false → cond t 0 (suc (first_place (ks ++ (k ∷ js)) k)) ≡ suc (length ks)
    go true ih e = absurd (subst T e tt)
    go false ih e = ap suc (ih e)

no_place : (ks : List ℕ) (k : ℕ) → has k ks ≡ false → first_place ks k ≡ length ks
no_place [] k e = refl
no_place (i ∷ ks) k e = go (eqb i k) (no_place ks k) e
  where
    go : (t : Bool) → (has k ks ≡ false → first_place ks k ≡ length ks) → (t || has k ks) ≡ false → cond t 0 (suc (first_place ks k)) ≡ suc (length ks)
    go true ih e = absurd (subst T e tt)
    go false ih e = ap suc (ih e)

-- so it is below their number exactly when they have it
pub placed : (qs : List Record) (k : ℕ) → ltb (first_place (bundles_in qs) k) (length qs) ≡ has k (bundles_in qs)
placed qs k = ap (ltb (first_place ks k)) (sym (bundles-length qs)) ∙ go (has k ks) refl
  where
    ks : List ℕ
    ks = bundles_in qs

    go : (t : Bool) → has k ks ≡ t → ltb (first_place ks k) (length ks) ≡ t
    go true e = lt-ltb _ _ (has-place ks k e)
    go false e = le-ltb (first_place ks k) (length ks) (omega (arith, no_place ks k e))

-- and by what is kept of its place it is found
pub place_found : (ks : List ℕ) (k : ℕ) → unwrap_or (kept_place ks k) (length ks) ≡ first_place ks k
place_found ks k = go (has k ks) refl
  where
    go : (t : Bool) → has k ks ≡ t → unwrap_or (cond t (Some (first_place ks k)) None) (length ks) ≡ first_place ks k
    go true e = refl
    go false e = sym (no_place ks k e)

-- what is kept of the bundles' places while records of these are left
abbrev pub Kept : List ℕ → List (Option ℕ) → Type 0
Kept ks ps = (j : ℕ) → j ≤ highest → get_or ps j None ≡ kept_place ks j

pub kept_more : (ks : List ℕ) (ps : List (Option ℕ)) (k : ℕ) → highest < length ps → k ≤ highest → Kept ks ps → Kept (with_bundle ks k) (set ps k (Some (first_place ks k)))
kept_more ks ps k long h kept j within = go (has k ks) refl (ℕ_discrete j k)
  where
    same : (t : Bool) → has k ks ≡ t → Some (first_place ks k) ≡ kept_place (cond t ks (ks ++ (k ∷ []))) k
    same true e = rw e
    same false e =
        let there : has k (ks ++ (k ∷ [])) ≡ true = has_last k k ks ∙ ap (λ (t : Bool). t || has k ks) (eq-eqb k k refl) in
        rw there (ap (λ (n : ℕ). Some n) (no_place ks k e ∙ sym (place_after ks [] k e)))

    -- of another bundle what was kept stays
    stays : (j k : ℕ) → (j ≡ k → ⊥) → kept_place ks j ≡ kept_place (ks ++ (k ∷ [])) j
    stays j k d = let e = has_last j k ks ∙ ap (λ (t : Bool). t || has j ks) (ne_eqb k j (λ e. d (sym e))) in rw e (at (has j ks) refl)
      where
        at : (t : Bool) → has j ks ≡ t → cond t (Some (first_place ks j)) None ≡ cond t (Some (first_place (ks ++ (k ∷ [])) j)) None
        at true e = ap (λ (n : ℕ). Some n) (sym (place-stays ks (k ∷ []) j e))
        at false e = refl

    other : (t : Bool) → (j ≡ k → ⊥) → kept_place ks j ≡ kept_place (cond t ks (ks ++ (k ∷ []))) j
    other true d = refl
    other false d = stays j k d

    go : (t : Bool) → has k ks ≡ t → Dec (j ≡ k) → get_or (set ps k (Some (first_place ks k))) j None ≡ kept_place (cond (has k ks) ks (ks ++ (k ∷ []))) j
    go t e (yes q) = rw q (get_or-set_same ps k (Some (first_place ks k)) None (omega arith) ∙ rw e (same t e))
    go t e (no d) = get_or-set_other ps k j (Some (first_place ks k)) None d ∙ kept j within ∙ rw e (other t d)

has_more : (k : ℕ) (ps : List Record) (q : Record) → has k (bundles_in (ps ++ (q ∷ []))) ≡ (eqb q.bundle k || has k (bundles_in ps))
has_more k ps q = ap (has k) (bundles-append ps (q ∷ [])) ∙ has_last k q.bundle (bundles_in ps)

-- records of other bundles are not renewed
not-renewed : (r : Record) (ps qs : List Record) → has r.bundle (bundles_in ps) ≡ true → Folded ps qs → map (renewed r) qs ≡ qs
not-renewed r ps [] e f = refl
not-renewed r ps (q ∷ qs) e f =
    let other : (q.bundle ≡ r.bundle → ⊥) = λ same. let z : false ≡ true = sym f.0 ∙ ap (λ (k : ℕ). has k (bundles_in ps)) same ∙ e in subst T (sym z) tt in
    let there = has_more r.bundle ps q ∙ ap (λ (t : Bool). t || has r.bundle (bundles_in ps)) (ne_eqb _ _ other) ∙ e in
    rw (ne_eqb _ _ other) (ap (λ (rs : List Record). q ∷ rs) (not-renewed r (ps ++ (q ∷ [])) qs there f.2))

-- so the one of its bundle alone is, in its place
renewed-at : (r : Record) (ps qs : List Record) → Folded ps qs → has r.bundle (bundles_in qs) ≡ true
    → let at = first_place (bundles_in qs) r.bundle in map (renewed r) qs ≡ set qs at (kept_of (Some (get_or qs at no_record)) r)
renewed-at r ps [] f e = absurd (subst T (sym e) tt)
renewed-at r ps (q ∷ qs) f e = go (ℕ_discrete q.bundle r.bundle) (renewed-at r (ps ++ (q ∷ [])) qs f.2)
  where
    go : Dec (q.bundle ≡ r.bundle)
        → (has r.bundle (bundles_in qs) ≡ true → let at = first_place (bundles_in qs) r.bundle in map (renewed r) qs ≡ set qs at (kept_of (Some (get_or qs at no_record)) r))
        → let at = first_place (bundles_in (q ∷ qs)) r.bundle in map (renewed r) (q ∷ qs) ≡ set (q ∷ qs) at (kept_of (Some (get_or (q ∷ qs) at no_record)) r)
    go (yes same) ih =
        let there = has_more r.bundle ps q ∙ ap (λ (t : Bool). t || has r.bundle (bundles_in ps)) (eq-eqb _ _ same) in
        rw (eq-eqb _ _ same) (ap (λ (rs : List Record). kept_of (Some q) r ∷ rs) (not-renewed r (ps ++ (q ∷ [])) qs there f.2))
    go (no other) ih =
        let rest = sym (ap (λ (t : Bool). t || has r.bundle (bundles_in qs)) (ne_eqb _ _ other)) ∙ e in
        rw (ne_eqb _ _ other) (ap (λ (rs : List Record). q ∷ rs) (ih rest))

-- the places of a journal while its first records are folded: those that are left of them, free places, and the other records
abbrev pub while_folded : ℕ → List Record → List Record → List Record
while_folded i qs all = (journal_of i qs).records ++ drop i all

module _ (all : List Record) (i : ℕ) (within : i < length all) (qs : List Record) (few : length qs ≤ i) where
  pub next-read : get_or (while_folded i qs all) i no_record ≡ get_or all i no_record
  next-read = rw (drop-cons all i no_record within) (get_or_at (journal_of i qs).records _ _ no_record i (journal-places i qs few))

  pub next-freed : set (while_folded i qs all) i no_record ≡ while_folded (i + 1) qs all
  next-freed =
      rw (drop-cons all i no_record within)
      (set_at (journal_of i qs).records _ _ no_record i (journal-places i qs few)
      ∙ sym (append_assoc (journal_of i qs).records (no_record ∷ []) _)
      ∙ ap (λ (rs : List Record). rs ++ drop (suc i) all) (journal-wider i 1 qs few)
      ∙ ap (λ (n : ℕ). (journal_of (i + 1) qs).records ++ drop n all) (sym (add-one i)))

  module _ (f : Folded [] qs) (r : Record) where
    abbrev k : ℕ
    k = r.bundle

    abbrev ks : List ℕ
    ks = bundles_in qs

    abbrev at : ℕ
    at = first_place ks k

    abbrev first : List Record
    first = (journal_of (i + 1) qs).records

    abbrev rest : List Record
    rest = drop (i + 1) all

    put_first : (one : Record) → at ≤ length qs → set (first ++ rest) at one ≡ set first at one ++ rest
    put_first one h = set-append_left first rest at one (omega (arith, journal-places (i + 1) qs (omega arith)))

    read_first : at < length qs → get_or (first ++ rest) at no_record ≡ get_or qs at no_record
    read_first h = get_or-append first rest no_record at (omega (arith, journal-places (i + 1) qs (omega arith))) ∙ journal-reads (i + 1) qs at

    pub next-folded : set (while_folded (i + 1) qs all) at (kept_of (left_at (while_folded (i + 1) qs all) at (length qs)) r) ≡ while_folded (i + 1) (folded_in qs r) all
    next-folded = rw (placed qs k) (go (has k ks) refl)
      where
        go : (t : Bool) → has k ks ≡ t
            → set (first ++ rest) at (kept_of (cond t (Some (get_or (first ++ rest) at no_record)) None) r) ≡ (journal_of (i + 1) (cond t (map (renewed r) qs) (qs ++ (as_whole r ∷ [])))).records ++ rest
        go true h =
            let low : at < length qs = omega (arith, has-place ks k h, bundles-length qs) in
            ap (λ (q : Record). set (first ++ rest) at (kept_of (Some q) r)) (read_first low)
            ∙ put_first _ (omega arith)
            ∙ ap (λ (rs : List Record). rs ++ rest) (journal-renews (i + 1) qs at _ low ∙ ap (λ (rs : List Record). (journal_of (i + 1) rs).records) (sym (renewed-at r [] qs f h)))
        go false h =
            let last : at ≡ length qs = no_place ks k h ∙ bundles-length qs in
            put_first (as_whole r) (omega arith)
            ∙ ap (λ (n : ℕ). set first n (as_whole r) ++ rest) last
            ∙ ap (λ (j : Journal). j.records ++ rest) (journal-pushes (i + 1) qs (as_whole r) (omega arith))
