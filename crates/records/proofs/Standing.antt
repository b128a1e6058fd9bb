-- The laws of the journal's view. A journal's places are its records and free places after them; so a record is added where the free places
-- begin and taken where the records end. Assumes nothing.
use mathlib.Core.Path.{◌≡◌, refl, sym, ap, ap₂, ◌∙◌, subst}
use mathlib.Core.Bool.{Bool, true, false, ◌&&◌, and-true, and-false, and_assoc}
use mathlib.Core.List.{List, [], ◌∷◌, ◌++◌, append_assoc, drop_last, get_last_d}
use Prim.Native.Nat.{ℕ, zero, suc, ◌+◌, ◌-◌, ◌≤◌, ◌<◌}
use native.Mathlib.Numerals.{add-one}
use native.Mathlib.Omega.{arith}
use borrow.Author.Tests.{leb-true, eq-eqb}
use lib.Dec.{T, eqb, leb, leb→le, eqb→eq}
use lib.ListN.{length, get_or, set, take, drop, replicate, length-append, length-set, length-replicate, replicate-append-replicate, length-drop, take-append-drop}
use lib.Seq.{set_at, set-append_left, take-suc, take-append_seam, drop-append_seam, length-take-le}
use lib.Ieee.Fits.{and_l, and_r}
use mir.Facts.{and_yes}
use Rattle.record.specs.Record.{no_record, is_free, may_stand}
use Rattle.record.specs.declared.Record.{Record}
use Rattle.record.proofs.Laws.{free-is-none}
use Rattle.records.specs.Journal.{Journal, Shown, all, standing, journal_of, valid_of, view_if, view_of, record_at, with_record, JournalStands, JournalValid, ValidIsJournal, JournalReads, JournalPushes, JournalPops}

-- the free ones of so many places after n records
abbrev free : ℕ → ℕ → List Record
free places n = replicate (places - n) no_record

one_more : (places n : ℕ) → n < places → free places n ≡ no_record ∷ free places (n + 1)
one_more places n h =
    let e : places - n ≡ suc (places - (n + 1)) = omega arith in
    ap (λ (m : ℕ). replicate m no_record) e

pub journal-stands : JournalStands
unfolding standing journal_of
journal-stands places rs = take-append_seam rs _

-- they stand at the first places
pub standing-places : (j : Journal) → standing j ≡ take j.count j.records
unfolding standing
standing-places j = refl

pub journal-counts : (places : ℕ) (rs : List Record) → (journal_of places rs).count ≡ length rs
unfolding journal_of
journal-counts places rs = refl

-- it has so many, where there are places for them
pub journal-places : (places : ℕ) (rs : List Record) → length rs ≤ places → length (journal_of places rs).records ≡ places
unfolding journal_of
journal-places places rs few = simp (length-append, length-replicate) (omega arith)

-- free places more
pub journal-wider : (places more : ℕ) (rs : List Record) → length rs ≤ places → (journal_of places rs).records ++ replicate more no_record ≡ (journal_of (places + more) rs).records
unfolding journal_of
journal-wider places more rs few =
    let n : (places - length rs) + more ≡ places + more - length rs = omega arith in
    append_assoc rs (free places (length rs)) (replicate more no_record)
    ∙ ap (λ (qs : List Record). rs ++ qs) (replicate-append-replicate (places - length rs) more no_record ∙ ap (λ (n : ℕ). replicate n no_record) n)

pub all_append : (test : Record → Bool) (rs qs : List Record) → all test (rs ++ qs) ≡ all test rs && all test qs
all_append test [] qs = refl
all_append test (r ∷ rs) qs = ap (λ (t : Bool). test r && t) (all_append test rs qs) ∙ sym (and_assoc (test r) (all test rs) (all test qs))

-- one record more passes the test
pub all_more : (test : Record → Bool) (rs : List Record) (i : ℕ) → i < length rs → all test (take (i + 1) rs) ≡ all test (take i rs) && test (get_or rs i no_record)
all_more test rs i h =
    rw (add-one, take-suc rs i no_record h) (all_append test (take i rs) _ ∙ ap (λ (t : Bool). all test (take i rs) && t) (and-true (test (get_or rs i no_record))))

all-free : (n : ℕ) → all is_free (replicate n no_record) ≡ true
all-free zero = refl
all-free (suc n) = all-free n

pub journal-valid : JournalValid
unfolding valid_of standing journal_of
journal-valid party places rs = go (leb (length rs) places) refl
  where
    go : (few : Bool) → leb (length rs) places ≡ few → valid_of party places (journal_of places rs) ≡ few && all (may_stand party) rs
    go false e = rw (e, and-false (eqb (length (rs ++ free places (length rs))) places))
    go true e =
        let few : length rs ≤ places = leb-true _ _ e in
        let long : length (rs ++ free places (length rs)) ≡ places = omega (arith, length-append rs (free places (length rs)), length-replicate (places - length rs) no_record) in
        rw (e, take-append_seam rs (free places (length rs)), drop-append_seam rs (free places (length rs)), all-free (places - length rs), eq-eqb _ _ long) (and-true (all (may_stand party) rs))

free-are-none : (rs : List Record) → T (all is_free rs) → rs ≡ replicate (length rs) no_record
free-are-none [] t = refl
free-are-none (r ∷ rs) t =
    let s = and_yes (is_free r) (all is_free rs) t in
    ap₂ (λ (q : Record) (qs : List Record). q ∷ qs) (free-is-none r s.0) (free-are-none rs s.1)

pub valid-is-journal : ValidIsJournal
unfolding valid_of standing journal_of
valid-is-journal party places j v =
    let rs = j.records in
    let t : T (valid_of party places j) = subst T (sym v) tt in
    let long : length rs ≡ places = eqb→eq (length rs) places (search (and_l, and_r)) in
    let few : j.count ≤ places = leb→le j.count places (search (and_l, and_r)) in
    let count : length (take j.count rs) ≡ j.count = length-take-le j.count rs (omega arith) in
    let left : places - length (take j.count rs) ≡ length (drop j.count rs) = omega (arith, length-drop j.count rs) in
    let records =
    ap (λ (n : ℕ). take j.count rs ++ replicate n no_record) left
    ∙ ap (λ (qs : List Record). take j.count rs ++ qs) (sym (free-are-none (drop j.count rs) (search (and_l, and_r))))
    ∙ take-append-drop j.count rs in
    λ i. record { count = count i; records = records i }

pub journal-reads : JournalReads
unfolding journal_of
journal-reads places rs i = go rs (places - length rs) i
  where
    go : (rs : List Record) (n i : ℕ) → get_or (rs ++ replicate n no_record) i no_record ≡ get_or rs i no_record
    go [] zero i = refl
    go [] (suc n) zero = refl
    go [] (suc n) (suc i) = go [] n i
    go (r ∷ rs) n zero = refl
    go (r ∷ rs) n (suc i) = go rs n i

pub journal-pushes : JournalPushes
unfolding journal_of
journal-pushes places rs r h =
    let long : length rs + 1 ≡ length (rs ++ (r ∷ [])) = sym (length-append rs (r ∷ [])) in
    let records =
    ap (λ (qs : List Record). set (rs ++ qs) (length rs) r) (one_more places (length rs) h)
    ∙ set_at rs no_record _ r (length rs) refl
    ∙ sym (append_assoc rs (r ∷ []) (free places (length rs + 1)))
    ∙ ap (λ (n : ℕ). (rs ++ (r ∷ [])) ++ free places n) long in
    λ i. record { count = long i; records = records i }

-- another record in the place of one
pub journal-renews : (places : ℕ) (rs : List Record) (i : ℕ) (r : Record) → i < length rs → set (journal_of places rs).records i r ≡ (journal_of places (set rs i r)).records
unfolding journal_of
journal-renews places rs i r h =
    set-append_left rs (free places (length rs)) i r h ∙ ap (λ (n : ℕ). set rs i r ++ free places n) (sym (length-set rs i r))

-- some records are all but the last and the last
pub but_last : (r : Record) (rs : List Record) → r ∷ rs ≡ drop_last (r ∷ rs) ++ (get_last_d (r ∷ rs) no_record ∷ [])
unfolding get_last_d
but_last r [] = refl
but_last r (q ∷ rs) = ap (λ (qs : List Record). r ∷ qs) (but_last q rs)

pub drop-last-snoc : (rs : List Record) (r : Record) → drop_last (rs ++ (r ∷ [])) ≡ rs
drop-last-snoc [] r = refl
drop-last-snoc (p ∷ []) r = refl
drop-last-snoc (p ∷ q ∷ rs) r = ap (λ (qs : List Record). p ∷ qs) (drop-last-snoc (q ∷ rs) r)

pub last_snoc : (rs : List Record) (r : Record) → get_last_d (rs ++ (r ∷ [])) no_record ≡ r
unfolding get_last_d
last_snoc [] r = refl
last_snoc (p ∷ []) r = refl
last_snoc (p ∷ q ∷ rs) r = last_snoc (q ∷ rs) r

drop-last-length : (r : Record) (rs : List Record) → length (drop_last (r ∷ rs)) ≡ length rs
drop-last-length r rs = omega (arith, ap length (but_last r rs), length-append (drop_last (r ∷ rs)) (get_last_d (r ∷ rs) no_record ∷ []))

-- the last of some records is the one before their number
pub last-at : (rs : List Record) → get_last_d rs no_record ≡ get_or rs (length rs - 1) no_record
unfolding get_last_d
last-at [] = refl
last-at (r ∷ rs) = let n : length rs ≡ length (r ∷ rs) - 1 = omega arith in go r rs ∙ ap (λ (n : ℕ). get_or (r ∷ rs) n no_record) n
  where
    go : (r : Record) (rs : List Record) → get_last_d (r ∷ rs) no_record ≡ get_or (r ∷ rs) (length rs) no_record
    go r [] = refl
    go r (q ∷ rs) = go q rs

pub journal-pops : JournalPops
unfolding journal_of
journal-pops places [] h =
    ap (λ (rs : List Record). record { count = 0; records = rs })
    (elim (places - 0) as (λ n. set (replicate n no_record) 0 no_record ≡ replicate n no_record) [ zero ↦ refl | suc n ↦ refl ])
journal-pops places (r ∷ rs) h =
    let qs = drop_last (r ∷ rs) in
    let long : length (r ∷ rs) - 1 ≡ length qs = omega (arith, drop-last-length r rs) in
    let more : length qs + 1 ≡ length (r ∷ rs) = omega (arith, drop-last-length r rs) in
    let few : length qs < places = omega arith in
    let last = get_last_d (r ∷ rs) no_record in
    let records =
    ap₂ (λ (ps : List Record) (n : ℕ). set (ps ++ free places (length (r ∷ rs))) n no_record) (but_last r rs) long
    ∙ ap (λ (ps : List Record). set ps (length qs) no_record) (append_assoc qs (last ∷ []) _)
    ∙ set_at qs last _ no_record (length qs) refl
    ∙ ap (λ (n : ℕ). qs ++ no_record ∷ free places n) (sym more)
    ∙ ap (λ (ps : List Record). qs ++ ps) (sym (one_more places (length qs) few)) in
    λ i. record { count = long i; records = records i }

-- what a valid journal is, by the records that stand in it
module _ (party places : ℕ) (j : Journal) (v : valid_of party places j ≡ true) where
  pub valid-counts : j.count ≡ length (standing j)
  valid-counts = ap (λ (i : Journal). i.count) (sym (valid-is-journal party places j v)) ∙ journal-counts places (standing j)

  pub valid-places : length j.records ≡ places
  unfolding valid_of
  valid-places =
      let t : T (valid_of party places j) = subst T (sym v) tt in
      eqb→eq (length j.records) places (search (and_l, and_r))

  valid-tests : T (leb (length (standing j)) places) × T (all (may_stand party) (standing j))
  valid-tests =
      and_yes (leb (length (standing j)) places) (all (may_stand party) (standing j))
      (subst T (sym v ∙ ap (valid_of party places) (sym (valid-is-journal party places j v)) ∙ journal-valid party places (standing j)) tt)

  pub valid-few : length (standing j) ≤ places
  valid-few = leb→le _ _ valid-tests.0

  pub valid-stand : T (all (may_stand party) (standing j))
  valid-stand = valid-tests.1

  pub valid-reads : (i : ℕ) → record_at j i ≡ get_or (standing j) i no_record
  valid-reads i = ap (λ (j : Journal). record_at j i) (sym (valid-is-journal party places j v)) ∙ journal-reads places (standing j) i

  -- the places past the count are free
  pub valid-free : drop j.count j.records ≡ replicate (places - j.count) no_record
  unfolding journal_of
  valid-free =
      ap (λ (i : Journal). drop i.count i.records) (sym (valid-is-journal party places j v))
      ∙ drop-append_seam (standing j) _
      ∙ ap (λ (n : ℕ). replicate (places - n) no_record) (sym valid-counts)

  valid-last : record_at j (j.count - 1) ≡ get_last_d (standing j) no_record
  valid-last = ap (λ (n : ℕ). record_at j (n - 1)) valid-counts ∙ valid-reads (length (standing j) - 1) ∙ sym (last-at (standing j))

  -- what is shown of it
  valid-view : view_of party places j ≡ record { valid = true; count = j.count; last = record_at j (j.count - 1) }
  unfolding view_of
  valid-view = rw v (λ i. record { valid = true; count = sym valid-counts i; last = sym valid-last i })

-- what is shown of any journal, by its places
pub view-shown : (party places : ℕ) (j : Journal) → view_of party places j ≡ view_if (valid_of party places j) j.count (record_at j (j.count - 1))
unfolding view_of
view-shown party places j =
    (elim (valid_of party places j) as (λ t. valid_of party places j ≡ t → view_of party places j ≡ view_if t j.count (record_at j (j.count - 1)))
    [ true ↦ valid-view party places j | false ↦ λ v. rw v ]) refl

-- a valid one shows its count
pub view-counts : (party places : ℕ) (j : Journal) → valid_of party places j ≡ true → (view_of party places j).count ≡ j.count
view-counts party places j v = ap (λ (w : Shown). w.count) (valid-view party places j v)

-- what a valid journal of some records shows
pub journal-shows : (party places : ℕ) (rs : List Record) → valid_of party places (journal_of places rs) ≡ true → view_of party places (journal_of places rs) ≡ record { valid = true; count = length rs; last = get_last_d rs no_record }
unfolding view_of
journal-shows party places rs v = rw (v, journal-stands)

-- a journal shows whether it is valid
pub view-shows : (party places : ℕ) (j : Journal) → (view_of party places j).valid ≡ valid_of party places j
unfolding view_of
view-shows party places j =
    elim (valid_of party places j) as (λ t. (view_if t (length (standing j)) (get_last_d (standing j) no_record)).valid ≡ t) [ true ↦ refl | false ↦ refl ]

-- a journal that is shown as valid
module _ (party places : ℕ) (j : Journal) (v : (view_of party places j).valid ≡ true) where
  view-valid : valid_of party places j ≡ true
  view-valid = sym (view-shows party places j) ∙ v

  valid-shown : view_of party places j ≡ record { valid = true; count = length (standing j); last = get_last_d (standing j) no_record }
  unfolding view_of
  valid-shown = rw view-valid

  pub view-pushes : (r : Record) → (view_of party places j).count < places → with_record j (view_of party places j).count r ((view_of party places j).count + 1) ≡ journal_of places (standing j ++ (r ∷ []))
  view-pushes r h =
      let count = ap (λ (w : Shown). w.count) valid-shown in
      ap₂ (λ (j : Journal) (n : ℕ). with_record j n r (n + 1)) (sym (valid-is-journal party places j view-valid)) count
      ∙ journal-pushes places (standing j) r (subst (λ (n : ℕ). n < places) count h)

  pub view-pops : with_record j ((view_of party places j).count - 1) no_record ((view_of party places j).count - 1) ≡ journal_of places (drop_last (standing j))
  view-pops =
      ap₂ (λ (j : Journal) (n : ℕ). with_record j (n - 1) no_record (n - 1)) (sym (valid-is-journal party places j view-valid)) (ap (λ (w : Shown). w.count) valid-shown)
      ∙ journal-pops places (standing j) (valid-few party places j view-valid)
