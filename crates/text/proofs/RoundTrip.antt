-- Fields are read back as their numbers, and what is read are the fields of its numbers: one after the other, each is a decimal and
-- the byte that ends it. Assumes nothing.
use mathlib.Core.Path.{◌≡◌, refl, sym, ap, ◌∙◌}
use mathlib.Core.Bool.{Bool, true, false, decide_iff, false≢true}
use mathlib.Core.List.{List, [], ◌∷◌, ◌++◌, List-discrete}
use mathlib.Core.Option.{none, some, some-injective, none-ne-some}
use mathlib.Core.Option as maybe
use Rattle.std.specs.Prelude.{Option, Some, None}
use Prim.Native.Nat.{ℕ, suc, ◌+◌, ◌^◌, ◌≤◌, ◌<◌}
use native.Mathlib.Nat.{add-zero}
use native.Mathlib.Omega.{arith}
use native.Mathlib.Decide.{ℕ_discrete, dec_lt}
use borrow.Author.Tests.{eqb-true, eq-eqb}
use lib.Dec.{eqb}
use lib.ListN.{length, get_or, take, drop, set, drop_of_length-le, length-take, take-append-drop}
use lib.Seq.{drop-cons, drop-drop, append_snoc, take-append_seam}
use Rattle.text.specs.Ascii.{within, same_text, starts_with}
use Rattle.text.specs.Decimal.{decimal}
use Rattle.text.specs.Fields.{fields, Words, field_at, before, fields_at, read_to}
use Rattle.text.specs.Number.{digits_of, number_of}
use Rattle.text.proofs.Numbers.{differ, taken, no_number, some-parts, number_read, number-back}
use Rattle.text.proofs.Stands.{Stands, stands-then, stands_parts}

-- texts that are the same, and one that begins with another
pub same-as : (r : Bool) (a b : List ℕ) → (r ≡ true → a ≡ b) → (a ≡ b → r ≡ true) → r ≡ same_text a b
same-as true a b f g = sym ((decide_iff (List-discrete ℕ_discrete a b)).1 (f refl))
same-as false a b f g = sym (differ (List-discrete ℕ_discrete a b) (λ e. false≢true (g e)))

pub starts-short : (start text : List ℕ) → length text < length start → false ≡ starts_with start text
starts-short start text h = same-as false (take (length start) text) start (λ e. absurd (false≢true e)) (λ e. absurd (omega (arith, ap length e, length-take (length start) text)))

pub starts : (start rest : List ℕ) → starts_with start (start ++ rest) ≡ true
starts start rest = sym (same-as true (take (length start) (start ++ rest)) start (λ t. take-append_seam start rest) (λ e. refl))

pub starts_is : (start text : List ℕ) → starts_with start text ≡ true → text ≡ start ++ drop (length start) text
starts_is start text e =
    sym (take-append-drop (length start) text) ∙ ap (λ (l : List ℕ). l ++ drop (length start) text) ((decide_iff (List-discrete ℕ_discrete (take (length start) text) start)).0 e)

-- a byte stands at a place
module _ (text : List ℕ) (at byte : ℕ) where
  pub stands-past : length text ≤ at → false ≡ starts_with (byte ∷ []) (drop at text)
  stands-past h = rw (drop_of_length-le text h) (starts-short (byte ∷ []) [] (omega arith))

  pub stands-there : at < length text → eqb (get_or text at 0) byte ≡ starts_with (byte ∷ []) (drop at text)
  stands-there h =
      let c = get_or text at 0 in
      rw (drop-cons text at 0 h) (same-as (eqb c byte) (c ∷ []) (byte ∷ []) (λ t. ap (λ (b : ℕ). b ∷ []) (eqb-true c byte t)) (λ q. let e : c ≡ byte = cc in eq-eqb c byte e))

  pub stands-within : starts_with (byte ∷ []) (drop at text) ≡ true → at < length text
  stands-within e =
      elim (dec_lt at (length text)) [
        | yes h ↦ h
        | no h ↦ absurd (false≢true (stands-past (omega arith) ∙ e))
      ]

  pub byte-stands : starts_with (byte ∷ []) (drop at text) ≡ true → Stands text at (byte ∷ []) (at + 1)
  byte-stands e =
      let t : take 1 (drop at text) ≡ byte ∷ [] = (decide_iff (List-discrete ℕ_discrete (take 1 (drop at text)) (byte ∷ []))).0 e in
      record { found = sym (take-append-drop 1 (drop at text)) ∙ rw (t, drop-drop 1 at text); place = refl }

-- a field, by the number that it begins with
module _ (text : List ℕ) (at end : ℕ) where
  pub field-none : number_of text at ≡ None → None ≡ field_at text at end
  unfolding field_at
  field-none e = rw e

-- numbers read, by the first of them
pub read_more : (of : List ℕ) (i n : ℕ) (rest : maybe.Option (List ℕ × ℕ)) → read_to of i (before n rest) ≡ read_to (set of i n) (suc i) rest
read_more of i n none = refl
read_more of i n (some r) = refl

all-parts : {r s : List ℕ × ℕ} → some r ≡ some s → (r.0 ≡ s.0) × (r.1 ≡ s.1)
all-parts e = let p = some-injective _ _ e in (ap (λ (r : List ℕ × ℕ). r.0) p, ap (λ (r : List ℕ × ℕ). r.1) p)

-- numbers that were read: the first of them, and the others
record First (text : List ℕ) (at end : ℕ) (ends ns : List ℕ) (next : ℕ) : Type 0 where
  number : ℕ
  middle : ℕ
  others : List ℕ
  field : field_at text at end ≡ Some (number, middle)
  rest : fields_at text middle ends ≡ some (others, next)
  all : ns ≡ number ∷ others

fields-first : (text : List ℕ) (at end : ℕ) (ends ns : List ℕ) (next : ℕ) → fields_at text at (end ∷ ends) ≡ some (ns, next) → First text at end ends ns next
unfolding fields_at
fields-first text at end ends ns next e = by_field (field_at text at end) refl
  where
    by-rest : (n middle : ℕ) → field_at text at end ≡ Some (n, middle) → (o : maybe.Option (List ℕ × ℕ)) → fields_at text middle ends ≡ o → before n o ≡ some (ns, next) → First text at end ends ns next
    by-rest n middle f none q e = absurd (none-ne-some (ns, next) e)
    by-rest n middle f (some r) q e =
        let q' = all-parts e in
        record { number = n; middle = middle; others = r.0; field = f; rest = rw q'.1 at q; all = sym q'.0 }

    by_field : (m : Option (ℕ × ℕ)) → field_at text at end ≡ m → First text at end ends ns next
    by_field None f = absurd (none-ne-some (ns, next) (rw f at e))
    by_field (Some (n, middle)) f = by-rest n middle f (fields_at text middle ends) refl (rw f at e)

-- bytes that are no digits
abbrev pub NoDigits : List ℕ → Type 0
NoDigits [] = Unit {0}
NoDigits (c ∷ cs) = (within 48 57 c ≡ false) × NoDigits cs

-- the fields of some numbers stand at a place
pub record FieldsStand (text : List ℕ) (at : ℕ) (ends ns : List ℕ) (next : ℕ) : Type 0 where
  pub count : length ns ≡ length ends
  pub words : Words ns
  pub piece : Stands text at (fields ns ends) next

module _ (text : List ℕ) where
  -- what is read stands there
  module _ (at end n next : ℕ) where
    field-cases : (m : Option (ℕ × ℕ)) → number_of text at ≡ m → field_at text at end ≡ Some (n, next) → FieldsStand text at (end ∷ []) (n ∷ []) next
    unfolding field_at
    field-cases None e f = absurd (no_number (rw e at f))
    field-cases (Some (k, middle)) e f =
        let t = taken (starts_with (end ∷ []) (drop middle text)) (rw e at f) no_number in
        let p = some-parts t.1 in
        let r = number_read text at k middle e in
        rw (← p.0, ← p.1) (record { count = refl; words = (r.below, tt); piece = stands-then r.piece (byte-stands text middle end t.0) })

    pub field-read : field_at text at end ≡ Some (n, next) → FieldsStand text at (end ∷ []) (n ∷ []) next
    field-read = field-cases (number_of text at) refl

  pub fields_read : (ends : List ℕ) (at : ℕ) (ns : List ℕ) (next : ℕ) → fields_at text at ends ≡ some (ns, next) → FieldsStand text at ends ns next
  unfolding fields_at
  fields_read [] at ns next e =
      let q = all-parts e in
      rw (← q.0, ← q.1) (record { count = refl; words = tt; piece = record { found = refl; place = sym (add-zero at) } })
  fields_read (end ∷ ends) at ns next e =
      let f = fields-first text at end ends ns next e in
      let i = field-read at end f.number f.middle f.field in
      let j = fields_read ends f.middle f.others next f.rest in
      rw f.all
      (record { count = ap suc j.count; words = (i.words.0, j.words); piece = rw (append_snoc (decimal f.number) end (fields f.others ends)) at (stands-then i.piece j.piece) })

  -- what stands there is read, where the byte that ends it is no digit
  pub ended : (at end next : ℕ) → within 48 57 end ≡ false → Stands text at (end ∷ []) next → (digits_of (drop at text) ≡ []) × (starts_with (end ∷ []) (drop at text) ≡ true)
  unfolding digits_of
  ended at end next d s = (rw (s.found, d), rw s.found ((decide_iff (List-discrete ℕ_discrete (end ∷ []) (end ∷ []))).1 refl))

  pub field_back : (at end n next : ℕ) → within 48 57 end ≡ false → n < 2 ^ 64 → Stands text at (decimal n ++ (end ∷ [])) next → field_at text at end ≡ Some (n, next)
  unfolding field_at
  field_back at end n next d b s =
      let p = stands_parts (decimal n) s in
      let middle = at + length (decimal n) in
      let e = ended middle end next d p.1 in
      rw (number-back text at n middle e.0 (record { below = b; piece = p.0 }), e.1, p.1.place)

  pub fields_back : (ends ns : List ℕ) (at next : ℕ) → NoDigits ends → FieldsStand text at ends ns next → fields_at text at ends ≡ some (ns, next)
  unfolding fields_at
  fields_back [] [] at next d s = ap (λ (k : ℕ). some ([], k)) (sym (s.piece.place ∙ add-zero at))
  fields_back [] (n ∷ ns) at next d s = absurd (omega (arith, s.count))
  fields_back (end ∷ ends) [] at next d s = absurd (omega (arith, s.count))
  fields_back (end ∷ ends) (n ∷ ns) at next d s =
      let p = stands_parts (decimal n ++ (end ∷ [])) (rw (← append_snoc (decimal n) end (fields ns ends)) at s.piece) in
      let r = fields_back ends ns _ next d.1 (record { count = omega (arith, s.count); words = s.words.1; piece = p.1 }) in
      rw (field_back at end n _ d.0 s.words.0 p.0, r)

-- fields that end so, and more after them
pub record FieldsSplit (text : List ℕ) (at : ℕ) (ends more : List ℕ) (next : ℕ) : Type 0 where
  pub front : List ℕ
  pub middle : ℕ
  pub back : List ℕ
  pub first : fields_at text at ends ≡ some (front, middle)
  pub rest : fields_at text middle more ≡ some (back, next)

module _ (text more : List ℕ) (next : ℕ) where
  pub fields_split : (ends : List ℕ) (at : ℕ) (ns : List ℕ) → fields_at text at (ends ++ more) ≡ some (ns, next) → FieldsSplit text at ends more next
  unfolding fields_at
  fields_split [] at ns e = record { front = []; middle = at; back = ns; first = refl; rest = e }
  fields_split (end ∷ ends) at ns e =
      let f = fields-first text at end (ends ++ more) ns next e in
      let s = fields_split ends f.middle f.others f.rest in
      record { front = f.number ∷ s.front; middle = s.middle; back = s.back; first = rw (f.field, s.first); rest = s.rest }
