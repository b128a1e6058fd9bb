-- What a fold keeps true after each record: at the places so far stand the records so far, folded, and after them free places; all
-- other places are as they were; and of each bundle the place of its record is kept. Assumes nothing.
use mathlib.Core.Path.{◌≡◌, refl, sym, ap, ap₂, ◌∙◌, subst}
use mathlib.Core.Bool.{Bool, true, cond}
use mathlib.Core.List.{List, [], ◌∷◌, ◌++◌}
use Prim.Native.Nat.{ℕ, zero, suc, ◌+◌, ◌-◌, ◌≤◌, ◌<◌}
use native.Mathlib.Numerals.{add-one}
use native.Mathlib.Omega.{arith}
use lib.Dec.{T, ltb, leb, leb→le}
use lib.ListN.{length, get_or, set, take, drop, length-set, length-append, length-drop}
use lib.Seq.{take-suc, length-take-le, get_or-take}
use mir.Facts.{and_yes}
use Rattle.std.proofs.Common.{Option, None, Some, unwrap_or}
use Rattle.record.specs.Record.{no_record, highest, may_stand}
use Rattle.record.specs.declared.Record.{Record}
use Rattle.records.specs.Journal.{limit, lent, all, standing, journal_of, valid_of}
use Rattle.records.proofs.Standing.{standing-places, journal-counts, journal-places, journal-wider, valid-counts, valid-few, valid-stand, valid-free}
use Rattle.fold.specs.Fold.{bundles_in, folded_in, folded}
use Rattle.fold.specs.inner.Places.{first_place, kept_of, left_at}
use Rattle.fold.proofs.Laws.{bundles-length, folded_more, with_bundle, bundles-in, length-in, fewer, is-folded}
use Rattle.fold.proofs.Places.{Kept, kept_more, place_found, while_folded, next-read, next-freed, next-folded, placed}

-- what is left of the records so far
abbrev pub left-of : List Record → ℕ → List Record
left-of all place = folded (take place all)

pub record Folding (count : ℕ) (all records : List Record) (places : List (Option ℕ)) (left place : ℕ) : Type 0 where
  pub within : place ≤ count
  pub is : records ≡ while_folded place (left-of all place) all
  pub counts : left ≡ length (left-of all place)
  pub long : highest < length places
  pub kept : Kept (bundles_in (left-of all place)) places

-- a record that may stand is of a bundle of which a place is kept
bundle-low : (party : ℕ) (rs : List Record) → T (all (may_stand party) rs) → (i : ℕ) → i < length rs → (get_or rs i no_record).bundle ≤ highest
bundle-low party [] t i h = absurd (omega arith)
bundle-low party (r ∷ rs) t zero h = leb→le _ _ (and_yes (leb r.bundle highest) _ (and_yes (may_stand party r) _ t).0).0
bundle-low party (r ∷ rs) t (suc i) h = bundle-low party rs (and_yes (may_stand party r) _ t).1 i (omega arith)

-- the places of a party's valid journal
module _ (party count : ℕ) (all : List Record) (valid : valid_of party (length all) (lent count all) ≡ true) (short : length all ≤ limit) where
  fits : count ≤ length all
  fits = omega (arith, valid-counts party (length all) (lent count all) valid, valid-few party (length all) (lent count all) valid)

  few : (place : ℕ) → place ≤ count → length (left-of all place) ≤ place
  few place h = omega (arith, fewer [] (take place all), length-take-le place all (omega (arith, fits)))

  pub same-places : {records : List Record} {places : List (Option ℕ)} {left place : ℕ} → Folding count all records places left place → length records ≡ length all
  same-places {place = place} i =
      ap length i.is
      ∙ omega (arith, length-append (journal_of place (left-of all place)).records (drop place all), journal-places place (left-of all place) (few place i.within), length-drop place all, fits, i.within)

  -- a record more
  module _ (place : ℕ) (h : place < count) where
    abbrev qs : List Record
    qs = left-of all place

    abbrev r : Record
    r = get_or all place no_record

    pub low : r.bundle ≤ highest
    low =
        let stand = valid-stand party (length all) (lent count all) valid in
        let many = valid-counts party (length all) (lent count all) valid in
        subst (λ (q : Record). q.bundle ≤ highest) (ap (λ (rs : List Record). get_or rs place no_record) (standing-places (lent count all)) ∙ get_or-take count all place no_record h)
        (bundle-low party (standing (lent count all)) stand place (omega arith))

    more : left-of all (place + 1) ≡ folded_in qs r
    more = rw (add-one, take-suc all place no_record (omega (arith, fits))) (folded_more [] (take place all) r)

    module _ {records : List Record} {places : List (Option ℕ)} {left : ℕ} (i : Folding count all records places left place) where
      pub left-few : left ≤ limit
      left-few = omega (arith, i.counts, few place (omega arith), fits)

      pub one-is : get_or records place no_record ≡ r
      one-is = rw i.is (next-read all place (omega (arith, fits)) qs (few place (omega arith)))

      pub turn : (one kept : Record) (freed after : List Record) (at next : ℕ) (kept-places : List (Option ℕ))
          → one ≡ get_or records place no_record → freed ≡ set records place no_record → at ≡ unwrap_or (get_or places one.bundle None) left → kept-places ≡ set places one.bundle (Some at)
          → kept ≡ kept_of (left_at freed at left) one → after ≡ set freed at kept → next ≡ cond (ltb at left) left (left + 1)
          → Folding count all after kept-places next (place + 1)
      turn one kept freed after at next kept-places e-one e-freed e-at e-places e-kept e-after e-next =
          let within : place < length all = omega (arith, fits) in
          let low-few = few place (omega arith) in
          let one-r : one ≡ r = e-one ∙ one-is in
          let freed-is : freed ≡ while_folded (place + 1) qs all = e-freed ∙ ap (λ (rs : List Record). set rs place no_record) i.is ∙ next-freed all place within qs low-few in
          let at-is : at ≡ first_place (bundles_in qs) r.bundle =
          e-at
          ∙ ap (λ (q : Record). unwrap_or (get_or places q.bundle None) left) one-r
          ∙ ap₂ (λ (p : Option ℕ) (n : ℕ). unwrap_or p n) (i.kept r.bundle low) (i.counts ∙ sym (bundles-length qs))
          ∙ place_found (bundles_in qs) r.bundle in
          let places_is : kept-places ≡ set places r.bundle (Some (first_place (bundles_in qs) r.bundle)) = e-places ∙ (λ j. set places (one-r j).bundle (Some (at-is j))) in
          record {
            within = omega arith;
            is =
                e-after
                ∙ ap (set freed at) e-kept
                ∙ (λ j. set (freed-is j) (at-is j) (kept_of (left_at (freed-is j) (at-is j) (i.counts j)) (one-r j)))
                ∙ next-folded all place within qs low-few (is-folded [] (take place all) tt) r
                ∙ ap (λ (rs : List Record). while_folded (place + 1) rs all) (sym more);
            counts =
                e-next
                ∙ (λ j. cond (ltb (at-is j) (i.counts j)) (i.counts j) (i.counts j + 1))
                ∙ ap (λ (t : Bool). cond t (length qs) (length qs + 1)) (placed qs r.bundle)
                ∙ sym (length-in qs r)
                ∙ ap length (sym more);
            long = subst (λ (ps : List (Option ℕ)). highest < length ps) (sym places_is) (omega (arith, length-set places r.bundle (Some (first_place (bundles_in qs) r.bundle)), i.long));
            kept =
                subst (λ (rs : List Record). Kept (bundles_in rs) kept-places) (sym more)
                (subst (λ (ks : List ℕ). Kept ks kept-places) (sym (bundles-in qs r))
                (subst (Kept (with_bundle (bundles_in qs) r.bundle)) (sym places_is) (kept_more (bundles_in qs) places r.bundle i.long low i.kept)));
          }

  -- when all are folded, free places are left
  pub done : {records : List Record} {places : List (Option ℕ)} {left : ℕ} → Folding count all records places left count → lent left records ≡ journal_of (length all) (folded (standing (lent count all)))
  done i =
      let qs = left-of all count in
      let many : count + (length all - count) ≡ length all = omega (arith, fits) in
      let records-are =
      i.is
      ∙ ap (λ (rs : List Record). (journal_of count qs).records ++ rs) (valid-free party (length all) (lent count all) valid)
      ∙ journal-wider count (length all - count) qs (few count (omega arith))
      ∙ ap (λ (n : ℕ). (journal_of n qs).records) many in
      (λ j. lent ((i.counts ∙ sym (journal-counts (length all) qs)) j) (records-are j)) ∙ ap (λ (rs : List Record). journal_of (length all) (folded rs)) (sym (standing-places (lent count all)))

-- before the first record
pub begun : (all : List Record) → all ≡ while_folded 0 [] all
unfolding journal_of
begun all = refl
