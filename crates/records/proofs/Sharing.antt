-- The laws of a journal that parties share. A party that it serves is 0 or 1, so each law is one of the lower part and one of the upper: a
-- part is lent and put back, and the other is what it was. Assumes nothing.
use mathlib.Core.Path.{◌≡◌, refl, sym, ap, ap₂, ◌∙◌, subst}
use mathlib.Core.Bool.{Bool, true, false, cond, ◌&&◌}
use mathlib.Core.List.{List, [], ◌++◌, append-nil}
use mathlib.Core.Logic.{◌⊎◌, inl, inr, ⊎_elim}
use Prim.Native.Nat.{ℕ, zero, suc, ◌+◌, ◌-◌, ◌≤◌, ◌<◌}
use native.Mathlib.Decide.{dec_lt}
use native.Mathlib.Omega.{arith}
use borrow.Author.Tests.{ltb-true, lt-ltb}
use borrow.Rule.Slice.PartMut.{mid_of, post_of, put_mid}
use lib.Dec.{T, eqb, ltb, leb-zero, eqb-zero-suc, eqb→eq}
use lib.ListN.{length, get_or, take, drop, length-take, length-drop, take-append-drop, drop_of_length-le}
use lib.Seq.{get_or-take, get_or-drop, take_all, take_at, drop_at, length-take-le}
use mir.Facts.{and_yes, or_yes}
use denote.Floats.{is_true}
use Rattle.record.specs.Record.{no_record, fits64}
use Rattle.record.specs.declared.Record.{Record}
use Rattle.records.specs.Journal.{Journal, Shown, limit, lent, all, standing, journal_of, valid_of, view_if, view_of, record_at}
use Rattle.records.specs.Shared.{Shared, seam, sharing, first_of, places_of, count_of, own_of, with_own, is_opened, fresh, shared_valid, serves, served_of, SharedFits64, OpenedIsFresh, FreshServes, SharingInjective}
use Rattle.records.specs.inner.Shows.{with_count, OwnView, own_view, Shows, ShowsPart}
use Rattle.records.specs.declared.Counts.{Counts}
use Rattle.records.proofs.Standing.{journal-valid, valid-places, view-shown, view-shows, view-counts}

pub both : (a b : Bool) → (a && b) ≡ true → (a ≡ true) × (b ≡ true)
both a b e = let t = and_yes a b (subst T (sym e) tt) in (is_true a t.0, is_true b t.1)

-- the upper part begins at the last place or before it
pub seam-within : (parties : ℕ) → seam parties ≤ limit
seam-within parties = elim (eqb parties 2) as (λ t. cond t 512 limit ≤ limit) [ true ↦ omega arith | false ↦ omega arith ]

pub places-within : (parties party : ℕ) → places_of parties party ≤ limit
places-within parties party =
    elim (eqb party 0) as (λ t. cond t (seam parties) (limit - seam parties) ≤ limit) [ true ↦ seam-within parties | false ↦ omega arith ]

opened-is : (parties : ℕ) → is_opened parties ≡ true → (parties ≡ 1) ⊎ (parties ≡ 2)
opened-is parties e = ⊎_elim (λ t. inl (eqb→eq parties 1 t)) (λ t. inr (eqb→eq parties 2 t)) (or_yes (eqb parties 1) (eqb parties 2) (subst T (sym e) tt))

-- what a journal is that serves a party
pub record Serving (s : Shared) (party : ℕ) : Type 0 where
  pub opened : is_opened s.parties ≡ true
  pub lower-valid : valid_of 0 (places_of s.parties 0) s.lower ≡ true
  pub upper-valid : valid_of 1 (places_of s.parties 1) s.upper ≡ true
  pub known : party < s.parties

module _ (s : Shared) (party : ℕ) where
  pub serving : serves s party ≡ true → Serving s party
  unfolding serves shared_valid
  serving e =
      let lower = valid_of 0 (places_of s.parties 0) s.lower in
      let upper = valid_of 1 (places_of s.parties 1) s.upper in
      let a = both (is_opened s.parties && lower && upper) (ltb party s.parties) e in
      let b = both (is_opened s.parties && lower) upper a.0 in
      let c = both (is_opened s.parties) lower b.0 in
      record { opened = c.0; lower-valid = c.1; upper-valid = b.1; known = ltb-true party s.parties a.1 }

  pub serves-when : Serving s party → serves s party ≡ true
  unfolding serves shared_valid
  serves-when v = rw (v.opened, v.lower-valid, v.upper-valid, lt-ltb party s.parties v.known)

-- a party that is served is 0 or, of two, 1
module _ (s : Shared) (party : ℕ) (v : Serving s party) where
  party-is : (party ≡ 0) ⊎ ((party ≡ 1) × (s.parties ≡ 2))
  party-is =
      ⊎_elim (λ e. inl (omega arith)) (λ e. elim (dec_lt party 1) [ yes h ↦ inl (omega arith) | no h ↦ inr (omega arith, e) ]) (opened-is s.parties v.opened)

  pub by-party : (P : ℕ → Type 0) → P 0 → (s.parties ≡ 2 → P 1) → P party
  by-party P lower upper = ⊎_elim (λ e. subst P (sym e) lower) (λ e. subst P (sym e.0) (upper e.1)) party-is

  pub own-valid : valid_of party (places_of s.parties party) (own_of s party) ≡ true
  own-valid = by-party (λ q. valid_of q (places_of s.parties q) (own_of s q) ≡ true) v.lower-valid (λ _. v.upper-valid)

  -- its journal put in the place of its own: the parts are as valid as they were
  pub still-serves : (j : Journal) → valid_of party (places_of s.parties party) j ≡ true → (q : ℕ) → Serving s q → Serving (with_own s party j) q
  still-serves j valid q w =
      by-party (λ p. valid_of p (places_of s.parties p) j ≡ true → Serving (with_own s p j) q)
      (λ e. record { opened = w.opened; lower-valid = e; upper-valid = w.upper-valid; known = w.known })
      (λ _ e. record { opened = w.opened; lower-valid = w.lower-valid; upper-valid = e; known = w.known })
      valid

-- the journal that a call is made with
module _ (s : Shared) (party : ℕ) where
  pub served-own : serves s party ≡ true → served_of s party ≡ own_of s party
  unfolding served_of
  served-own e = rw e

  not_valid : (places : ℕ) → valid_of party places (lent 1 []) ≡ false
  unfolding valid_of
  not_valid zero = refl
  not_valid (suc n) = rw (eqb-zero-suc n)

  -- it shows nothing where it doesn't serve the party
  pub not-shown : (places : ℕ) → serves s party ≡ false → view_of party places (served_of s party) ≡ view_if false 0 no_record
  unfolding served_of
  not-shown places e = rw (e, view-shown party places (lent 1 []), not_valid places)

  -- and where it shows a valid one it serves it
  pub shown-serves : (places : ℕ) → (view_of party places (served_of s party)).valid ≡ true → serves s party ≡ true
  shown-serves places v =
      (elim (serves s party) as (λ t. serves s party ≡ t → t ≡ true) [ true ↦ λ e. refl | false ↦ λ e. sym (ap (λ (w : Shown). w.valid) (not-shown places e)) ∙ v ]) refl

-- the slice that a valid journal is in
module _ (c : Counts) (rs : List Record) where
  pub served-sized : (party : ℕ) → Serving (sharing c rs) party → length rs ≡ limit
  served-sized party v =
      let n = seam c.parties in
      let l = valid-places 0 n (lent c.lower (take n rs)) v.lower-valid in
      let u = valid-places 1 (limit - n) (lent c.upper (drop n rs)) v.upper-valid in
      omega (arith, l, u, length-take n rs, length-drop n rs, seam-within c.parties)

  -- a party's part of it
  module _ (party : ℕ) (v : Serving (sharing c rs) party) where
    abbrev first : ℕ
    first = first_of c.parties party

    abbrev places : ℕ
    places = places_of c.parties party

    long : length rs ≡ limit
    long = served-sized party v

    pub own-within : first + places ≤ limit
    own-within =
        by-party (sharing c rs) party v (λ q. first_of c.parties q + places_of c.parties q ≤ limit)
        (omega (arith, seam-within c.parties))
        (λ _. omega (arith, seam-within c.parties))

    pub own-count : (own_of (sharing c rs) party).count ≡ count_of c party
    own-count = by-party (sharing c rs) party v (λ q. (own_of (sharing c rs) q).count ≡ count_of c q) refl (λ _. refl)

    pub own-some : 0 < places
    own-some =
        by-party (sharing c rs) party v (λ q. 0 < places_of c.parties q)
        (elim (eqb c.parties 2) as (λ t. 0 < cond t 512 limit) [ true ↦ omega arith | false ↦ omega arith ])
        (λ e. rw e (omega arith))

    pub own-reads : (i : ℕ) → i < places → get_or rs (first + i) no_record ≡ record_at (own_of (sharing c rs) party) i
    own-reads i =
        by-party (sharing c rs) party v (λ q. i < places_of c.parties q → get_or rs (first_of c.parties q + i) no_record ≡ record_at (own_of (sharing c rs) q) i)
        (λ h. let zero-on : 0 + i ≡ i = omega arith in ap (λ (n : ℕ). get_or rs n no_record) zero-on ∙ sym (get_or-take (seam c.parties) rs i no_record h))
        (λ _ h. sym (get_or-drop (seam c.parties) rs i no_record))

    pub own-lent : mid_of first places rs ≡ (own_of (sharing c rs) party).records
    own-lent =
        by-party (sharing c rs) party v (λ q. mid_of (first_of c.parties q) (places_of c.parties q) rs ≡ (own_of (sharing c rs) q).records)
        refl
        (λ _. take_all (limit - seam c.parties) (drop (seam c.parties) rs) (omega (arith, length-drop (seam c.parties) rs, long)))

    pub own_put : (n : ℕ) (ys : List Record) → length ys ≡ places → sharing (with_count c party n) (put_mid first places rs ys) ≡ with_own (sharing c rs) party (lent n ys)
    own_put n ys =
        by-party (sharing c rs) party v
        (λ q. length ys ≡ places_of c.parties q → sharing (with_count c q n) (put_mid (first_of c.parties q) (places_of c.parties q) rs ys) ≡ with_own (sharing c rs) q (lent n ys))
        (λ e.
        let m = seam c.parties in
        let lower = take_at ys (drop m rs) m e in
        let upper = drop_at ys (drop m rs) m e in
        λ i. record { parties = c.parties; lower = lent n (lower i); upper = lent c.upper (upper i) })
        (λ _ e.
        let m = seam c.parties in
        let front : length (take m rs) ≡ m = length-take-le m rs (omega (arith, seam-within c.parties, long)) in
        let none : post_of m (limit - m) rs ≡ [] = drop_of_length-le (drop m rs) {i = limit - m} (omega (arith, length-drop m rs, long)) in
        let lower = take_at (take m rs) (ys ++ post_of m (limit - m) rs) m front in
        let upper = drop_at (take m rs) (ys ++ post_of m (limit - m) rs) m front ∙ ap (λ (qs : List Record). ys ++ qs) none ∙ append-nil ys in
        λ i. record { parties = c.parties; lower = lent c.lower (lower i); upper = lent n (upper i) })

    -- its records are of the code
    pub own_held : SharedFits64 (sharing c rs) → T (all fits64 (standing (own_of (sharing c rs) party)))
    own_held h = by-party (sharing c rs) party v (λ q. T (all fits64 (standing (own_of (sharing c rs) q)))) h.lower (λ _. h.upper)

-- a party's part as it is shown to a call, where the journal serves the party
module _ (c : Counts) (rs : List Record) (party : ℕ) (o : OwnView) (is : o ≡ own_view (sharing c rs) party) (served : serves (sharing c rs) party ≡ true) where
  abbrev s : Shared
  s = sharing c rs

  it-serves : Serving s party
  it-serves = serving s party served

  part-first : o.first ≡ first_of c.parties party
  part-first = ap (λ (o : OwnView). o.first) is

  part-places : o.first + o.places - o.first ≡ places_of c.parties party
  part-places = omega (arith, ap (λ (o : OwnView). o.places) is)

  pub part-within : o.first + o.places ≤ length rs
  part-within = omega (arith, part-first, ap (λ (o : OwnView). o.places) is, own-within c rs party it-serves, served-sized c rs party it-serves)

  pub part-short : o.first + o.places ≤ limit
  part-short = omega (arith, part-within, served-sized c rs party it-serves)

  pub served-valid : valid_of party (places_of c.parties party) (served_of s party) ≡ true
  served-valid = ap (valid_of party (places_of c.parties party)) (served-own s party served) ∙ own-valid s party it-serves

  pub served-held : SharedFits64 s → T (all fits64 (standing (served_of s party)))
  served-held h = subst (λ (j : Journal). T (all fits64 (standing j))) (sym (served-own s party served)) (own_held c rs party it-serves h)

  -- lent, it is the party's journal
  pub part-lent : mid_of o.first (o.first + o.places - o.first) rs ≡ (served_of s party).records
  part-lent =
      (λ i. mid_of (part-first i) (part-places i) rs) ∙ own-lent c rs party it-serves ∙ ap (λ (j : Journal). j.records) (sym (served-own s party served))

  part-counts : o.view.count ≡ (served_of s party).count
  part-counts =
      ap (λ (o : OwnView). o.view.count) is ∙ view-counts party (places_of c.parties party) (served_of s party) served-valid

  pub part-journal : lent o.view.count (mid_of o.first (o.first + o.places - o.first) rs) ≡ served_of s party
  part-journal = λ i. record { count = part-counts i; records = part-lent i }

  -- and where it is put back, the party's journal is what it then holds
  pub part-put : (n : ℕ) (ys : List Record) → length ys ≡ places_of c.parties party
      → sharing (with_count c party n) (put_mid o.first (o.first + o.places - o.first) rs ys) ≡ with_own s party (lent n ys)
  part-put n ys long = (λ i. sharing (with_count c party n) (put_mid (part-first i) (part-places i) rs ys)) ∙ own_put c rs party it-serves n ys long

-- what a call is shown of its part, said once for all calls
pub shows_part : (c : Counts) (rs : List Record) (party : ℕ) (o : OwnView) → o ≡ own_view (sharing c rs) party → ShowsPart c rs party o
shows_part c rs party o is =
    let s = sharing c rs in
    let n = places_of c.parties party in
    let valid = ap (λ (o : OwnView). o.view.valid) is in
    record {
      is = is;
      valid-is = valid ∙ view-shows party n (served_of s party);
      part = λ v.
          let served = shown-serves s party n (sym valid ∙ v) in
          record {
            served = served;
            valid = served-valid c rs party o is served;
            within = part-within c rs party o is served;
            short = part-short c rs party o is served;
            is-lent = part-journal c rs party o is served;
          };
    }

-- and that its numbers are below 2^64
pub shows : (c : Counts) (rs : List Record) (party : ℕ) (o : OwnView) → o ≡ own_view (sharing c rs) party → (serves (sharing c rs) party ≡ true → SharedFits64 (sharing c rs)) → Shows c rs party o
shows c rs party o is held =
    let of_part = shows_part c rs party o is in
    record {
      is = is;
      valid-is = of_part.valid-is;
      part = λ v.
          let p = of_part.part v in
          record {
            served = p.served;
            valid = p.valid;
            held = served-held c rs party o is p.served (held p.served);
            within = p.within;
            short = p.short;
            is-lent = p.is-lent;
          };
    }

pub part-shown : (c : Counts) (rs : List Record) (party : ℕ) (o : OwnView) → Shows c rs party o → ShowsPart c rs party o
part-shown c rs party o s = shows_part c rs party o s.is

-- free places
pub opened-is-fresh : OpenedIsFresh
unfolding fresh journal_of
opened-is-fresh parties e = ⊎_elim (λ e. rw e) (λ e. rw e) (opened-is parties e)

pub fresh-serves : FreshServes
unfolding fresh
fresh-serves parties party opened known =
    serves-when (fresh parties) party
    (record { opened = opened; lower-valid = none-stand 0 (places_of parties 0); upper-valid = none-stand 1 (places_of parties 1); known = known })
  where
    none-stand : (party places : ℕ) → valid_of party places (journal_of places []) ≡ true
    none-stand party places = journal-valid party places [] ∙ ap (λ (t : Bool). t && true) (leb-zero places)

pub sharing-injective : SharingInjective
sharing-injective c d rs qs e =
    let parties = ap (λ (s : Shared). s.parties) e in
    let lower = ap (λ (s : Shared). s.lower) e in
    let upper = ap (λ (s : Shared). s.upper) e in (
      λ i. record { parties = parties i; lower = (lower i).count; upper = (upper i).count },
      sym (take-append-drop (seam c.parties) rs)
          ∙ ap₂ (λ (ps os : List Record). ps ++ os) (ap (λ (j : Journal). j.records) lower) (ap (λ (j : Journal). j.records) upper)
          ∙ take-append-drop (seam d.parties) qs,
    )
