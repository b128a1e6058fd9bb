-- A fold of changes that stand: to set each bundle touched to what it now is gives the code as it is, and the records of that are the
-- records folded. Assumes nothing.
use mathlib.Core.Path.{◌≡◌, refl, sym, ap, ap₂, ◌∙◌, subst}
use mathlib.Core.Bool.{Bool, true, false, cond, ◌||◌}
use mathlib.Core.List.{List, [], ◌∷◌, ◌++◌, map}
use Prim.Native.Nat.{ℕ, ◌%◌, ◌≤◌, ◌^◌}
use native.Mathlib.Decide.{ℕ_discrete}
use native.Mathlib.Nat.{mod-eq_of_lt}
use native.Mathlib.Omega.{arith}
use borrow.Author.Tests.{eq-eqb, ne_eqb, eqb-false}
use lib.Dec.{T, eqb}
use lib.ListN.{length}
use Rattle.bundle.specs.Bundle.{number_at, halves_of}
use Rattle.bundle.specs.declared.half.Halves.{Halves}
use Rattle.bundle.proofs.Bytes.{Bytes}
use Rattle.bundle.proofs.Laws.{or-false}
use Rattle.bundle.proofs.Lies.{Lies}
use Rattle.record.specs.Record.{whole_record}
use Rattle.record.specs.declared.Record.{Record}
use Rattle.journal.specs.Change.{rewritten}
use Rattle.journal.proofs.Rewritten.{rewritten-twice}
use Rattle.journal.specs.Change.{Change, set, bundle_of, new_number, changed, change_record, made_all, records_of}
use Rattle.demands.specs.Demand3.{touched, as_in}
use Rattle.fold.specs.Fold.{has, bundles_in, renewed, folded_in, folded}
use Rattle.demands.proofs.Changes.{lies-as, lies_in_lem, new-lt, record-bundle, record-party, record-old, record-new, changed-number, Stand, all-length, all-bytes}
use Rattle.fold.proofs.Laws.{has_last, folded_more, bundles-append, map-append}
use Rattle.demands.proofs.Two.{rewritten-other, rewritten-comm}

-- a test that is neither is a contradiction
neither : {A : Type 0} {t : Bool} → t ≡ true → t ≡ false → A
neither p q = absurd (subst T (sym p ∙ q) tt)

-- a number that isn't the first is among the others
has-later : (k j : ℕ) (js : List ℕ) → (j ≡ k → ⊥) → has k (j ∷ js) ≡ has k js
has-later k j js d = ap (λ (t : Bool). t || has k js) (ne_eqb j k d)

-- each number once
abbrev Once : List ℕ → Type 0
Once [] = Unit {0}
Once (k ∷ ks) = (has k ks ≡ false) × Once ks

touched-once : (cs : List Change) → Once (touched cs)
touched-once [] = tt
touched-once (c ∷ cs) = go (touched-once cs) (has (bundle_of c) (touched cs)) refl
  where
    go : Once (touched cs) → (t : Bool) → has (bundle_of c) (touched cs) ≡ t → Once (cond t (touched cs) (bundle_of c ∷ touched cs))
    go o true e = o
    go o false e = (e, o)

pub touched-few : (cs : List Change) → length (touched cs) ≤ length cs
touched-few [] = omega arith
touched-few (c ∷ cs) = go (touched-few cs) (has (bundle_of c) (touched cs))
  where
    go : length (touched cs) ≤ length cs → (t : Bool) → length (cond t (touched cs) (bundle_of c ∷ touched cs)) ≤ length (c ∷ cs)
    go h true = omega arith
    go h false = omega arith

-- none of some changes is of bundle k
abbrev Off : ℕ → List Change → Type 0
Off k [] = Unit {0}
Off k (c ∷ cs) = (bundle_of c ≡ k → ⊥) × Off k cs

off-untouched : (k : ℕ) (cs : List Change) → has k (touched cs) ≡ false → Off k cs
off-untouched k [] e = tt
off-untouched k (c ∷ cs) e = go (off-untouched k cs) (has (bundle_of c) (touched cs)) refl e
  where
    go : (has k (touched cs) ≡ false → Off k cs) → (t : Bool) → has (bundle_of c) (touched cs) ≡ t → has k (cond t (touched cs) (bundle_of c ∷ touched cs)) ≡ false → Off k (c ∷ cs)
    go ih true h f = (λ q. neither (ap (λ (j : ℕ). has j (touched cs)) (sym q) ∙ h) f, ih f)
    go ih false h f = let o = or-false _ _ f in (eqb-false _ _ o.0, ih o.1)

-- bundles set to numbers
abbrev set_to : (ℕ → ℕ) → List ℕ → List Change
set_to f ks = map (λ (k : ℕ). set k (f k)) ks

off-sets : (f : ℕ → ℕ) (k : ℕ) (ks : List ℕ) → has k ks ≡ false → Off k (set_to f ks)
off-sets f k [] e = tt
off-sets f k (j ∷ js) e = let o = or-false _ _ e in (eqb-false _ _ o.0, off-sets f k js o.1)

module _ (code : List ℕ) where
  -- bundles that lie in it
  abbrev Lie : List ℕ → Type 0
  Lie [] = Unit {0}
  Lie (k ∷ ks) = Lies code k × Lie ks

  sets-stand : (f : ℕ → ℕ) (ks : List ℕ) → Lie ks → Stand code (set_to f ks)
  sets-stand f [] l = tt
  sets-stand f (k ∷ ks) l = let s = sets-stand f ks l.1 in (lies-as code _ k (all-length code (set_to f ks) s) l.0, s)

  -- a bundle lies after changes as before them
  lies-still : (cs : List Change) → Stand code cs → (k : ℕ) → Lies code k → Lies (made_all code cs) k
  lies-still cs s k l = lies-as code (made_all code cs) k (all-length code cs s) l

  touched-lie : (cs : List Change) → Stand code cs → Lie (touched cs)
  touched-lie [] s = tt
  touched-lie (c ∷ cs) s = go (touched-lie cs s.1) (has (bundle_of c) (touched cs))
    where
      go : Lie (touched cs) → (t : Bool) → Lie (cond t (touched cs) (bundle_of c ∷ touched cs))
      go l true = l
      go l false = (lies-as (made_all code cs) code (bundle_of c) (sym (all-length code cs s.1)) (lies_in_lem (made_all code cs) c s.0), l)

  -- a bundle of which no change is stays
  off-stays : (k : ℕ) → Lies code k → (cs : List Change) → Stand code cs → Off k cs → number_at (made_all code cs) k ≡ number_at code k
  off-stays k l [] s o = refl
  off-stays k l (c ∷ cs) s o =
      rewritten-other (made_all code cs) (bundle_of c) k (lies_in_lem (made_all code cs) c s.0) (lies-still cs s.1 k l) o.0 (new_number (made_all code cs) c)
      ∙ off-stays k l cs s.1 o.1

  -- numbers f, and numbers g that differ from them in bundle k alone, where they have n
  module _ (f g : ℕ → ℕ) (k n : ℕ) (lk : Lies code k) (at : g k % 2 ^ 128 ≡ n) (off : (j : ℕ) → Lies code j → (k ≡ j → ⊥) → g j ≡ f j) where
    same-sets : (ks : List ℕ) → Lie ks → has k ks ≡ false → set_to g ks ≡ set_to f ks
    same-sets [] l e = refl
    same-sets (j ∷ js) l e =
        let o = or-false _ _ e in
        ap₂ (λ (m : ℕ) (cs : List Change). set j m ∷ cs) (off j l.0 (λ q. eqb-false _ _ o.0 (sym q))) (same-sets js l.1 o.1)

    -- the code with g's is the one with f's and bundle k made n
    sets-anew : (ks : List ℕ) → Lie ks → Once ks → has k ks ≡ true → made_all code (set_to g ks) ≡ rewritten (made_all code (set_to f ks)) k n
    sets-anew [] l o t = neither t refl
    sets-anew (j ∷ js) l o t = go (sets-anew js l.1 o.1) (ℕ_discrete k j)
      where
        F : List ℕ
        F = made_all code (set_to f js)

        lie : (i : ℕ) → Lies code i → Lies F i
        lie i h = lies-still (set_to f js) (sets-stand f js l.1) i h

        go : (has k js ≡ true → made_all code (set_to g js) ≡ rewritten F k n) → Dec (k ≡ j) → made_all code (set_to g (j ∷ js)) ≡ rewritten (made_all code (set_to f (j ∷ js))) k n
        go ih (yes q) =
            ap (λ (cs : List Change). rewritten (made_all code cs) j (g j % 2 ^ 128)) (same-sets js l.1 (ap (λ (i : ℕ). has i js) q ∙ o.0))
            ∙ ap (rewritten F j) (ap (λ (i : ℕ). g i % 2 ^ 128) (sym q) ∙ at)
            ∙ sym (rewritten-twice F j (lie j l.0) (f j % 2 ^ 128) n)
            ∙ ap (λ (i : ℕ). rewritten (rewritten F j (f j % 2 ^ 128)) i n) (sym q)
        go ih (no d) =
            let there = sym (has-later k j js (λ q. d (sym q))) ∙ t in
            ap₂ (λ (c : List ℕ) (m : ℕ). rewritten c j (m % 2 ^ 128)) (ih there) (off j l.0 d)
            ∙ rewritten-comm F k j (lie k lk) (lie j l.0) d n (f j % 2 ^ 128)

-- changes that stand
module _ (code : List ℕ) (b : Bytes code) (party : ℕ) where
  -- the records of bundles set to numbers
  abbrev wholes_of : (ℕ → ℕ) → List ℕ → List Record
  wholes_of f [] = []
  wholes_of f (k ∷ ks) = wholes_of f ks ++ (whole_record party k (halves_of (number_at code k)) (halves_of (f k % 2 ^ 128)) ∷ [])

  are-wholes : (f : ℕ → ℕ) (ks : List ℕ) → Lie code ks → Once ks → records_of party code (set_to f ks) ≡ wholes_of f ks
  are-wholes f [] l o = refl
  are-wholes f (k ∷ ks) l o =
      ap₂ (λ (rs : List Record) (m : ℕ). rs ++ (whole_record party k (halves_of m) (halves_of (f k % 2 ^ 128)) ∷ [])) (are-wholes f ks l.1 o.1)
      (off-stays code k l.0 (set_to f ks) (sets-stand code f ks l.1) (off-sets f k ks o.0))

  has-wholes : (f : ℕ → ℕ) (k : ℕ) (ks : List ℕ) → has k (bundles_in (wholes_of f ks)) ≡ has k ks
  has-wholes f k [] = refl
  has-wholes f k (j ∷ js) =
      ap (has k) (bundles-append (wholes_of f js) _)
      ∙ has_last k j (bundles_in (wholes_of f js))
      ∙ ap (λ (t : Bool). eqb j k || t) (has-wholes f k js)

  -- one change more
  module _ (c : Change) (cs : List Change) (s : Stand code (c ∷ cs)) where
    abbrev now : List ℕ
    now = made_all code cs

    abbrev k : ℕ
    k = bundle_of c

    in-now : Lies now k
    in-now = lies_in_lem now c s.0

    in_code : Lies code k
    in_code = lies-as now code k (sym (all-length code cs s.1)) in-now

    at : number_at (changed now c) k % 2 ^ 128 ≡ new_number now c
    at =
        let e = changed-number now c s.0 (all-bytes code b cs s.1) in
        let h = new-lt now (all-bytes code b cs s.1) c s.0 in
        ap (λ (n : ℕ). n % 2 ^ 128) e ∙ mod-eq_of_lt h

    off : (j : ℕ) → Lies code j → (k ≡ j → ⊥) → number_at (changed now c) j ≡ number_at now j
    off j l d = rewritten-other now k j in-now (lies-still code cs s.1 j l) d (new_number now c)

    code-more : made_all code (as_in now (touched cs)) ≡ now → made_all code (as_in (changed now c) (touched (c ∷ cs))) ≡ changed now c
    code-more ih = go (has k (touched cs)) refl
      where
        go : (t : Bool) → has k (touched cs) ≡ t → made_all code (as_in (changed now c) (cond t (touched cs) (k ∷ touched cs))) ≡ changed now c
        go true e =
            sets-anew code (number_at now) (number_at (changed now c)) k (new_number now c) in_code at off (touched cs) (touched-lie code cs s.1) (touched-once cs) e
            ∙ ap (λ (m : List ℕ). rewritten m k (new_number now c)) ih
        go false e =
            ap₂ (λ (m : List ℕ) (n : ℕ). rewritten m k n)
            (ap (made_all code) (same-sets code (number_at now) (number_at (changed now c)) k (new_number now c) in_code at off (touched cs) (touched-lie code cs s.1) e) ∙ ih)
            at

    abbrev r : Record
    r = change_record party now c

    whole-renewed : (j : ℕ) → Lies code j → (o : Halves) → renewed r (whole_record party j o (halves_of (number_at now j % 2 ^ 128))) ≡ whole_record party j o (halves_of (number_at (changed now c) j % 2 ^ 128))
    whole-renewed j l o = go (ℕ_discrete k j)
      where
        go : Dec (k ≡ j) → renewed r (whole_record party j o (halves_of (number_at now j % 2 ^ 128))) ≡ whole_record party j o (halves_of (number_at (changed now c) j % 2 ^ 128))
        go (yes q) =
            ap (λ (t : Bool). cond t (whole_record party j o r.new) (whole_record party j o (halves_of (number_at now j % 2 ^ 128)))) (eq-eqb j r.bundle (sym q ∙ sym (record-bundle now party c)))
            ∙ ap (whole_record party j o) (record-new now party c ∙ ap halves_of (sym at ∙ ap (λ (i : ℕ). number_at (changed now c) i % 2 ^ 128) q))
        go (no d) =
            ap (λ (t : Bool). cond t (whole_record party j o r.new) (whole_record party j o (halves_of (number_at now j % 2 ^ 128)))) (ne_eqb j r.bundle (λ q. d (sym (q ∙ record-bundle now party c))))
            ∙ ap (λ (n : ℕ). whole_record party j o (halves_of (n % 2 ^ 128))) (sym (off j l d))

    wholes-renewed : (ks : List ℕ) → Lie code ks → map (renewed r) (wholes_of (number_at now) ks) ≡ wholes_of (number_at (changed now c)) ks
    wholes-renewed [] l = refl
    wholes-renewed (j ∷ js) l =
        map-append (renewed r) (wholes_of (number_at now) js) _
        ∙ ap₂ (λ (rs : List Record) (q : Record). rs ++ (q ∷ [])) (wholes-renewed js l.1) (whole-renewed j l.0 (halves_of (number_at code j)))

    wholes-same : (ks : List ℕ) → Lie code ks → has k ks ≡ false → wholes_of (number_at now) ks ≡ wholes_of (number_at (changed now c)) ks
    wholes-same [] l e = refl
    wholes-same (j ∷ js) l e =
        let o = or-false _ _ e in
        ap₂ (λ (rs : List Record) (n : ℕ). rs ++ (whole_record party j (halves_of (number_at code j)) (halves_of (n % 2 ^ 128)) ∷ [])) (wholes-same js l.1 o.1)
        (sym (off j l.0 (λ q. eqb-false _ _ o.0 (sym q))))

    records-more : folded (records_of party code cs) ≡ wholes_of (number_at now) (touched cs)
        → folded (records_of party code (c ∷ cs)) ≡ wholes_of (number_at (changed now c)) (touched (c ∷ cs))
    records-more ih =
        folded_more [] (records_of party code cs) r
        ∙ ap (λ (rs : List Record). folded_in rs r) ih
        ∙ ap (λ (t : Bool). cond t (map (renewed r) was) (was ++ (whole_record r.party r.bundle r.old r.new ∷ []))) (ap (λ (j : ℕ). has j (bundles_in was)) (record-bundle now party c) ∙ has-wholes (number_at now) k (touched cs))
        ∙ go (has k (touched cs)) refl
      where
        was : List Record
        was = wholes_of (number_at now) (touched cs)

        go : (t : Bool) → has k (touched cs) ≡ t → cond t (map (renewed r) was) (was ++ (whole_record r.party r.bundle r.old r.new ∷ [])) ≡ wholes_of (number_at (changed now c)) (cond t (touched cs) (k ∷ touched cs))
        go true e = wholes-renewed (touched cs) (touched-lie code cs s.1)
        go false e =
            let first = off-stays code k in_code cs s.1 (off-untouched k cs e) in
            ap₂ (λ (rs : List Record) (q : Record). rs ++ (q ∷ [])) (wholes-same (touched cs) (touched-lie code cs s.1) e)
            (λ i. whole_record (record-party now party c i) (record-bundle now party c i) ((record-old now party c ∙ ap halves_of first) i) ((record-new now party c ∙ ap halves_of (sym at)) i))

  -- the code stays
  pub fold-code : (cs : List Change) → Stand code cs → made_all code (as_in (made_all code cs) (touched cs)) ≡ made_all code cs
  fold-code [] s = refl
  fold-code (c ∷ cs) s = code-more c cs s (fold-code cs s.1)

  fold-wholes : (cs : List Change) → Stand code cs → folded (records_of party code cs) ≡ wholes_of (number_at (made_all code cs)) (touched cs)
  fold-wholes [] s = refl
  fold-wholes (c ∷ cs) s = records-more c cs s (fold-wholes cs s.1)

  -- and the records are folded
  pub fold-records : (cs : List Change) → Stand code cs → folded (records_of party code cs) ≡ records_of party code (as_in (made_all code cs) (touched cs))
  fold-records cs s = fold-wholes cs s ∙ sym (are-wholes (number_at (made_all code cs)) (touched cs) (touched-lie code cs s) (touched-once cs))

  pub fold-stands : (cs : List Change) → Stand code cs → Stand code (as_in (made_all code cs) (touched cs))
  fold-stands cs s = sets-stand code (number_at (made_all code cs)) (touched cs) (touched-lie code cs s)
