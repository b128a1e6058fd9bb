-- A record's line is read where it stands, and what is read stands there: what text's fields and names do, for a record, a kind of line at
-- a time. Assumes nothing.
use mathlib.Core.Path.{◌≡◌, refl, sym, ap, ap₂, ◌∙◌, subst}
use mathlib.Core.Bool.{Bool, true, false, cond}
use mathlib.Core.List.{List, [], ◌∷◌, ◌++◌, append_assoc}
use mathlib.Core.Logic.{inl, inr}
use mathlib.Core.Option.{none, some}
use mathlib.Core.Option as maybe
use Rattle.std.specs.Prelude.{Option, Some, None}
use Prim.Native.Nat.{ℕ, zero, suc, ◌+◌, ◌≤◌}
use native.Mathlib.Omega.{arith}
use lib.Dec.{T}
use lib.Ieee.Bits.{is_true}
use lib.ListN.{length, get_or, take, drop}
use lib.Seq.{append_snoc, drop-cons, take_all}
use borrow.Author.Tests.{le-leb}
use Rattle.form.specs.declared.Form.{Form}
use Rattle.name.specs.Name.{name_of, has_name, named_at}
use Rattle.name.proofs.Names.{named-read, named_back}
use Rattle.record.specs.Record.{whole_record, is_whole, passes, may_stand, fits64, line_numbers}
use Rattle.record.specs.declared.Record.{Record}
use Rattle.record.proofs.Laws.{may-passes, may-party, whole_is, passes-form}
use Rattle.text.specs.Ascii.{tab}
use Rattle.text.specs.Decimal.{decimal}
use Rattle.text.specs.Fields.{fields, Words, fields_at}
use Rattle.text.proofs.RoundTrip.{fields_read, fields_back}
use Rattle.text.proofs.Stands.{Stands, stands-then, stands_parts}
use Rattle.sheet.specs.declared.line.Kind.{Kind}
use Rattle.sheet.specs.declared.line.Kind.TheVariants.{Full, Old}
use Rattle.text.proofs.Numbers.{no_number, some-parts}
use Rattle.sheet.specs.Load.{front_ends, ends, full_record, old_record, read_as, tested, line_at}
use Rattle.sheet.specs.Sheet.{line_as, tells}
use Rattle.sheet.proofs.Held.{words, are_words}

-- the k numbers from place i on, one by one
abbrev from : ℕ → ℕ → List ℕ → List ℕ
from zero i ns = []
from (suc k) i ns = get_or ns i 0 ∷ from k (suc i) ns

from_is : (k i : ℕ) (ns : List ℕ) → i + k ≤ length ns → from k i ns ≡ take k (drop i ns)
from_is zero i ns h = refl
from_is (suc k) i ns h = rw (drop-cons ns i 0 (omega arith)) (ap (λ (l : List ℕ). get_or ns i 0 ∷ l) (from_is k (suc i) ns (omega arith)))

-- as many as there are
all_of : (k : ℕ) (ns : List ℕ) → length ns ≡ k → from k 0 ns ≡ ns
all_of k ns e = from_is k 0 ns (omega (arith, e)) ∙ take_all k ns (omega (arith, e))

-- a line's first two numbers, and the five at its end
abbrev pub front_of : Record → List ℕ
front_of r = r.bundle ∷ r.slot ∷ []

abbrev pub tail_of : ℕ → Record → List ℕ
tail_of n r = n ∷ r.old.low ∷ r.old.high ∷ r.new.low ∷ r.new.high ∷ []

-- a full line is its first two numbers, its form and its five last numbers; an old one is those with its bundle
pub full-line : (r : Record) → fields (front_of r) front_ends ++ ((name_of r.form ++ (tab ∷ [])) ++ fields (tail_of r.value r) ends) ≡ line_as Full r
unfolding line_as
full-line r =
    append_assoc (decimal r.bundle) (9 ∷ (decimal r.slot ++ (9 ∷ []))) _
    ∙ ap (λ (l : List ℕ). decimal r.bundle ++ (9 ∷ l))
    (append_snoc (decimal r.slot) 9 _ ∙ ap (λ (l : List ℕ). decimal r.slot ++ (9 ∷ l)) (append_snoc (name_of r.form) 9 _))

pub old-line : (r : Record) → fields (tail_of r.bundle r) ends ≡ line_as Old r
unfolding line_as
old-line r = refl

-- a record that may stand has a form that its name tells
pub may-named : (party : ℕ) (r : Record) → T (may_stand party r) → has_name r.form ≡ true
may-named party r m =
    elim (passes-form r (is_true (passes r) (may-passes party r m))) [
      | inl e ↦ ap has_name e
      | inr b ↦ rw (le-leb 65 r.form.family b.0, le-leb r.form.family 90 b.1)
    ]

-- what is read stands there, and such a line tells all of it
pub record LineRead (kind : Kind) (text : List ℕ) (at : ℕ) (r : Record) (next : ℕ) : Type 0 where
  pub stands : Stands text at (line_as kind r) next
  pub held : T (fits64 r)
  pub told : T (tells kind r)

-- a full line is read in three parts
pub record FullRead (party : ℕ) (text : List ℕ) (at : ℕ) (r : Record) (next : ℕ) : Type 0 where
  pub front : List ℕ
  pub second : ℕ
  pub form : Form
  pub third : ℕ
  pub numbers : List ℕ
  pub last : ℕ
  pub first : fields_at text at front_ends ≡ some (front, second)
  pub named : named_at text second tab ≡ Some (form, third)
  pub rest : fields_at text third ends ≡ some (numbers, last)
  pub is : ◌≡◌ {A = Option (Record × ℕ)} (Some (full_record party front form numbers, last)) (Some (r, next))

module _ (party : ℕ) (text : List ℕ) (at : ℕ) (r : Record) (next : ℕ) where
  old-read : (o : maybe.Option (List ℕ × ℕ)) → fields_at text at ends ≡ o → read_as party Old text at ≡ Some (r, next) → LineRead Old text at r next
  unfolding read_as
  old-read none e f = absurd (no_number (rw e at f))
  old-read (some q) e f =
      let g : ◌≡◌ {A = Option (Record × ℕ)} (Some (old_record party q.0, q.1)) (Some (r, next)) = rw e at f in
      let v = (some-parts g).0 in
      let p = (some-parts g).1 in
      let s = fields_read text ends at q.0 q.1 e in
      let same = sym (all_of 5 q.0 s.count) in
      let w = subst Words same s.words in
      rw (← v, ← p)
      (record {
        stands = subst (λ (l : List ℕ). Stands text at l q.1) (ap (λ (ms : List ℕ). fields ms ends) same ∙ old-line (old_record party q.0)) s.piece;
        held = are_words (line_numbers (old_record party q.0)) (w.0, (omega arith, (omega arith, (omega arith, w.1))));
        told = tt;
      })

  full-stands : FullRead party text at r next → LineRead Full text at r next
  full-stands f =
      let one = full_record party f.front f.form f.numbers in
      let v = (some-parts f.is).0 in
      let p = (some-parts f.is).1 in
      let s = fields_read text front_ends at f.front f.second f.first in
      let t = named-read text f.second tab f.form f.third f.named in
      let u = fields_read text ends f.third f.numbers f.last f.rest in
      let fronts = sym (all_of 2 f.front s.count) in
      let tails = sym (all_of 5 f.numbers u.count) in
      let w = subst Words fronts s.words in
      rw (← v, ← p)
      (record {
        stands =
            subst (λ (l : List ℕ). Stands text at l f.last)
            (ap₂ (λ (ms ks : List ℕ). fields ms front_ends ++ ((name_of f.form ++ (tab ∷ [])) ++ fields ks ends)) fronts tails ∙ full-line one)
            (stands-then s.piece (stands-then (stands-then t.name.piece t.byte) u.piece));
        held = are_words (line_numbers one) (w.0, (w.1.0, (t.name.below, subst Words tails u.words)));
        told = tt;
      })

  pub full-read : read_as party Full text at ≡ Some (r, next) → FullRead party text at r next
  unfolding read_as
  full-read f = by_front (fields_at text at front_ends) refl
    where
      by-tail : (q : List ℕ × ℕ) → fields_at text at front_ends ≡ some q → (form : Form) (b : ℕ) → named_at text q.1 tab ≡ Some (form, b) → (o : maybe.Option (List ℕ × ℕ)) → fields_at text b ends ≡ o → FullRead party text at r next
      by-tail q e form b n none t = absurd (no_number (rw (e, n, t) at f))
      by-tail q e form b n (some u) t =
          record { front = q.0; second = q.1; form = form; third = b; numbers = u.0; last = u.1; first = e; named = n; rest = t; is = rw (e, n, t) at f }

      by_name : (q : List ℕ × ℕ) → fields_at text at front_ends ≡ some q → (m : Option (Form × ℕ)) → named_at text q.1 tab ≡ m → FullRead party text at r next
      by_name q e None n = absurd (no_number (rw (e, n) at f))
      by_name q e (Some (form, b)) n = by-tail q e form b n (fields_at text b ends) refl

      by_front : (o : maybe.Option (List ℕ × ℕ)) → fields_at text at front_ends ≡ o → FullRead party text at r next
      by_front none e = absurd (no_number (rw e at f))
      by_front (some q) e = by_name q e (named_at text q.1 tab) refl

  read-stands : (kind : Kind) → read_as party kind text at ≡ Some (r, next) → LineRead kind text at r next
  read-stands Full f = full-stands (full-read f)
  read-stands Old f = old-read (fields_at text at ends) refl f

  -- what stands there is read
  full_back : T (may_stand party r) → T (fits64 r) → Stands text at (line_as Full r) next → read_as party Full text at ≡ Some (r, next)
  unfolding read_as
  full_back m h s =
      let w = words (line_numbers r) h in
      let p = stands_parts (fields (front_of r) front_ends) (subst (λ (l : List ℕ). Stands text at l next) (sym (full-line r)) s) in
      let q = stands_parts (name_of r.form ++ (tab ∷ [])) p.1 in
      let t = stands_parts (name_of r.form) q.0 in
      rw (
        fields_back text front_ends (front_of r) at _ (refl, (refl, tt)) (record { count = refl; words = (w.0, (w.1.0, tt)); piece = p.0 }),
        named_back text _ tab r.form _ refl (record { middle = _; name = record { named = may-named party r m; below = w.1.1.0; piece = t.0 }; byte = t.1 }),
        fields_back text ends (tail_of r.value r) _ next (refl, (refl, (refl, (refl, (refl, tt))))) (record { count = refl; words = w.1.1.1; piece = q.1 }),
      ) (ap (λ (p : ℕ). Some (full_record p (front_of r) r.form (tail_of r.value r), next)) (sym (may-party party r m)))

  old-back : T (may_stand party r) → T (is_whole r) → T (fits64 r) → Stands text at (line_as Old r) next → read_as party Old text at ≡ Some (r, next)
  unfolding read_as
  old-back m t h s =
      let w = words (line_numbers r) h in
      rw (fields_back text ends (tail_of r.bundle r) at next (refl, (refl, (refl, (refl, (refl, tt))))) (record { count = refl; words = (w.0, w.1.1.1.1); piece = subst (λ (l : List ℕ). Stands text at l next) (sym (old-line r)) s }))
      (ap (λ (p : ℕ). Some (whole_record p r.bundle r.old r.new, next)) (sym (may-party party r m)) ∙ ap (λ (q : Record). Some (q, next)) (sym (whole_is r t)))

  read_back : (kind : Kind) → T (may_stand party r) → T (fits64 r) → T (tells kind r) → Stands text at (line_as kind r) next → read_as party kind text at ≡ Some (r, next)
  read_back Full m h t s = full_back m h s
  read_back Old m h t s = old-back m t h s

  -- and so of lines whose records may stand
  pub line_taken : (kind : Kind) → line_at party kind text at ≡ Some (r, next) → T (may_stand party r) × (read_as party kind text at ≡ Some (r, next))
  unfolding line_at
  line_taken kind = go (read_as party kind text at) refl
    where
      by-test : (q : Record) (last : ℕ) → read_as party kind text at ≡ Some (q, last) → (t : Bool) → may_stand party q ≡ t → cond {A = Option (Record × ℕ)} t (Some (q, last)) None ≡ Some (r, next) → T (may_stand party r) × (read_as party kind text at ≡ Some (r, next))
      by-test q last e false m f = absurd (no_number f)
      by-test q last e true m f = let v = (some-parts f).0 in (subst T (sym m ∙ ap (may_stand party) v) tt, e ∙ f)

      go : (m : Option (Record × ℕ)) → read_as party kind text at ≡ m → tested party m ≡ Some (r, next) → T (may_stand party r) × (read_as party kind text at ≡ Some (r, next))
      go None e f = absurd (no_number f)
      go (Some (q, last)) e f = by-test q last e (may_stand party q) refl f

  pub line_read : (kind : Kind) → line_at party kind text at ≡ Some (r, next) → T (may_stand party r) × LineRead kind text at r next
  line_read kind e = let t = line_taken kind e in (t.0, read-stands kind t.1)

  pub line-back : (kind : Kind) → T (may_stand party r) → T (fits64 r) → T (tells kind r) → Stands text at (line_as kind r) next → line_at party kind text at ≡ Some (r, next)
  unfolding line_at
  line-back kind m h t s = rw (read_back kind m h t s, is_true (may_stand party r) m)
