-- Changes that a code takes one after the other: the code stays one of as many bytes, its records may stand, and the last one is undone by
-- writing its old bundle back. Assumes nothing.
use mathlib.Core.Path.{◌≡◌, refl, sym, ap, ap₂, ◌∙◌, subst}
use mathlib.Core.Bool.{Bool, true, ◌&&◌}
use mathlib.Core.List.{List, [], ◌∷◌, ◌++◌, append_assoc, append-nil}
use Prim.Native.Nat.{ℕ, ◌+◌, ◌*◌, ◌≤◌, ◌<◌, ◌^◌}
use native.Mathlib.Nat.{mod-lt}
use native.Mathlib.Omega.{arith}
use borrow.Author.Tests.{eq-eqb, le-leb}
use lib.Dec.{T}
use lib.ListN.{length, length-append}
use lib.Pow.{pow_pos}
use Rattle.answer.specs.Answer.{accepted, first}
use Rattle.answer.proofs.Laws.{numbered}
use Rattle.bundle.specs.Bundle.{longest_code, number_at, halves_of, whole}
use Rattle.bundle.proofs.Bytes.{Bytes}
use Rattle.bundle.proofs.Whole.{whole-halves}
use Rattle.bundle.proofs.Laws.{number-at-lt}
use Rattle.bundle.proofs.Lies.{Lies, found-when}
use Rattle.form.specs.declared.Edit.{Edit}
use Rattle.immediate.specs.Immediate.{change_refusals}
use Rattle.record.specs.Record.{highest, edit_record, whole_record, may_stand}
use Rattle.record.specs.declared.Record.{Record}
use Rattle.record.proofs.Laws.{edit-passes, whole-passes}
use Rattle.records.specs.Journal.{all}
use Rattle.records.proofs.Standing.{all_append}
use Rattle.journal.proofs.Laws.{taken-changes, taken-lt, checked-taken}
use Rattle.journal.proofs.Rewritten.{rewritten-before, rewritten-past, rewritten-number, rewritten-length, rewritten-twice, rewritten-bytes, rewritten-own}
use Rattle.journal.specs.Change.{rewritten, Change, field, set, bundle_of, new_number, changed, change_record, made_all, records_of}
use Rattle.demands.specs.Demand3.{Making, edit, checked, refusals_of, changes_of}
use Rattle.demands.specs.Sets.{SetsOnlyItsOwn, EachSetsItsOwn}
use Rattle.demands.proofs.Edits.{Fits, in_code, only-its-bits}

-- the code takes the change
abbrev pub Takes : List ℕ → Change → Type 0
Takes code (field e) = Fits code e
Takes code (set k n) = Lies code k

-- a bundle lies in every code of the same length
pub lies-as : (code other : List ℕ) (k : ℕ) → length other ≡ length code → Lies code k → Lies other k
lies-as code other k e l = record { short = subst (λ (n : ℕ). n ≤ longest_code) (sym e) l.short; within = subst (λ (n : ℕ). 16 * k + 16 ≤ n) (sym e) l.within }

-- what holds of the record of every edit that a bundle takes, and of every whole bundle's
pub record OfChanges (party : ℕ) (test : Record → Bool) : Type 0 where
  pub edits : (n : ℕ) (e : Edit) → n < 2 ^ 128 → e.bundle ≤ highest → first (change_refusals n e) ≡ accepted → test (edit_record party n e) ≡ true
  pub wholes : (k n m : ℕ) → k ≤ highest → test (whole_record party k (halves_of n) (halves_of m)) ≡ true

pub changes-stand : (party : ℕ) → OfChanges party (may_stand party)
changes-stand party =
    record {
      edits = λ n e h low t. (λ i. le-leb e.bundle highest low i && (edit-passes n e t party h i && eq-eqb party party refl i));
      wholes = λ k n m low. (λ i. le-leb k highest low i && (whole-passes party k (halves_of n) (halves_of m) i && eq-eqb party party refl i));
    }

module _ (code : List ℕ) where
  pub lies_in_lem : (c : Change) → Takes code c → Lies code (bundle_of c)
  lies_in_lem (field e) t = in_code code e t
  lies_in_lem (set k n) t = t

  pub new-lt : Bytes code → (c : Change) → Takes code c → new_number code c < 2 ^ 128
  new-lt b (field e) t = taken-lt code e t b
  new-lt b (set k n) t = mod-lt n (pow_pos 128)

  -- the record tells the bundle, and what it was and is
  pub record-bundle : (party : ℕ) (c : Change) → (change_record party code c).bundle ≡ bundle_of c
  record-bundle party (field e) = refl
  record-bundle party (set k n) = refl

  pub record-party : (party : ℕ) (c : Change) → (change_record party code c).party ≡ party
  record-party party (field e) = refl
  record-party party (set k n) = refl

  pub record-old : (party : ℕ) (c : Change) → (change_record party code c).old ≡ halves_of (number_at code (bundle_of c))
  record-old party (field e) = refl
  record-old party (set k n) = refl

  pub record-new : (party : ℕ) (c : Change) → (change_record party code c).new ≡ halves_of (new_number code c)
  record-new party (field e) = refl
  record-new party (set k n) = refl

  -- a change that the code takes
  module _ (c : Change) (t : Takes code c) where
    pub changed-length : length (changed code c) ≡ length code
    changed-length = rewritten-length code (bundle_of c) (lies_in_lem c t) (new_number code c)

    pub changed-lies : Lies (changed code c) (bundle_of c)
    changed-lies = lies-as code (changed code c) (bundle_of c) changed-length (lies_in_lem c t)

    module _ (b : Bytes code) where
      pub old-lt : number_at code (bundle_of c) < 2 ^ 128
      old-lt = number-at-lt code (bundle_of c) (found-when code (bundle_of c) (lies_in_lem c t)) b

      pub changed-bytes : Bytes (changed code c)
      changed-bytes = rewritten-bytes code (bundle_of c) (lies_in_lem c t) b (new_number code c)

      pub changed-number : number_at (changed code c) (bundle_of c) ≡ new_number code c
      changed-number = rewritten-number code (bundle_of c) (lies_in_lem c t) (new_number code c) (new-lt b c t)

      -- the old bundle written back
      pub changed-back : rewritten (changed code c) (bundle_of c) (whole (halves_of (number_at code (bundle_of c)))) ≡ code
      changed-back =
          rewritten-twice code (bundle_of c) (lies_in_lem c t) (new_number code c) _
          ∙ ap (rewritten code (bundle_of c)) (whole-halves _ old-lt)
          ∙ rewritten-own code (bundle_of c) (lies_in_lem c t) b

  pub sets-its-own : Bytes code → (c : Change) → Takes code c → SetsOnlyItsOwn code c
  sets-its-own b (field e) t = only-its-bits code e t b
  sets-its-own b (set k n) t = record { number = changed-number (set k n) t b; before = rewritten-before code k t _; past = rewritten-past code k t _ }

  pub record-passes : (party : ℕ) (test : Record → Bool) → OfChanges party test → Bytes code → (c : Change) → Takes code c → test (change_record party code c) ≡ true
  record-passes party test o b (field e) t =
      let l = in_code code e t in o.edits (number_at code e.bundle) e (old-lt (field e) t b) (omega (arith, l.short, l.within)) (taken-changes code e t)
  record-passes party test o b (set k n) t = o.wholes k (number_at code k) (new_number code (set k n)) (omega (arith, t.short, t.within))

-- the code takes each of some changes after those before it
abbrev pub Stand : List ℕ → List Change → Type 0
Stand code [] = Unit {0}
Stand code (c ∷ cs) = Takes (made_all code cs) c × Stand code cs

module _ (code : List ℕ) where
  pub all-length : (cs : List Change) → Stand code cs → length (made_all code cs) ≡ length code
  all-length [] s = refl
  all-length (c ∷ cs) s = changed-length (made_all code cs) c s.0 ∙ all-length cs s.1

  pub all-bytes : Bytes code → (cs : List Change) → Stand code cs → Bytes (made_all code cs)
  all-bytes b [] s = b
  all-bytes b (c ∷ cs) s = changed-bytes (made_all code cs) c s.0 (all-bytes b cs s.1)

  pub each-sets-its-own : Bytes code → (cs : List Change) → Stand code cs → EachSetsItsOwn code cs
  each-sets-its-own b [] s = tt
  each-sets-its-own b (c ∷ cs) s = (sets-its-own (made_all code cs) (all-bytes b cs s.1) c s.0, each-sets-its-own b cs s.1)

  pub all-records : (party : ℕ) (test : Record → Bool) → OfChanges party test → Bytes code → (cs : List Change) → Stand code cs → all test (records_of party code cs) ≡ true
  all-records party test o b [] s = refl
  all-records party test o b (c ∷ cs) s =
      all_append test (records_of party code cs) _
      ∙ ap₂ (λ (t u : Bool). t && (u && true)) (all-records party test o b cs s.1) (record-passes (made_all code cs) party test o (all-bytes b cs s.1) c s.0)

  pub records-length : (party : ℕ) (cs : List Change) → length (records_of party code cs) ≡ length cs
  records-length party [] = refl
  records-length party (c ∷ cs) = length-append (records_of party code cs) _ ∙ omega (arith, records-length party cs)

  -- changes after others
  pub made_after : (ds cs : List Change) → made_all (made_all code cs) ds ≡ made_all code (ds ++ cs)
  made_after [] cs = refl
  made_after (d ∷ ds) cs = ap (λ (c : List ℕ). changed c d) (made_after ds cs)

  pub records-after : (party : ℕ) (ds cs : List Change) → records_of party code cs ++ records_of party (made_all code cs) ds ≡ records_of party code (ds ++ cs)
  records-after party [] cs = append-nil (records_of party code cs)
  records-after party (d ∷ ds) cs =
      sym (append_assoc (records_of party code cs) (records_of party (made_all code cs) ds) _)
      ∙ ap₂ (λ (rs : List Record) (c : List ℕ). rs ++ (change_record party c d ∷ [])) (records-after party ds cs) (made_after ds cs)

  pub stand-after : (ds cs : List Change) → Stand (made_all code cs) ds → Stand code cs → Stand code (ds ++ cs)
  stand-after [] cs t s = s
  stand-after (d ∷ ds) cs t s = (subst (λ (c : List ℕ). Takes c d) (made_after ds cs) t.0, stand-after ds cs t.1 s)

  -- what a call makes stands where the code doesn't refuse it
  pub making-stands : (m : Making) → first (refusals_of code m) ≡ accepted → Stand code (changes_of m)
  making-stands (edit e) a = (a, tt)
  making-stands (checked e) a = (checked-taken code e a, tt)

  pub making-numbered : (m : Making) → T (numbered (refusals_of code m))
  making-numbered (edit e) = tt
  making-numbered (checked e) = tt
