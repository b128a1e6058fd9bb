-- What acts keep: a refused one the journal and the code, and any one a valid journal valid and the code bytes; so a journal that serves a
-- party serves it after the party's act. By the definitions' cases. Assumes nothing.
use mathlib.Core.Path.{◌≡◌, refl, sym, ap, ap₂, ◌∙◌, subst}
use mathlib.Core.Bool.{Bool, true, false, cond, ◌&&◌}
use mathlib.Core.List.{List, [], ◌∷◌, ◌++◌, drop_last}
use Prim.Native.Nat.{ℕ, ◌+◌, ◌≤◌, ◌<◌}
use native.Mathlib.Decide.{ℕ_discrete}
use native.Mathlib.Omega.{arith}
use borrow.Author.Tests.{eq-eqb, le-leb, ltb-false, not-false}
use lib.Dec.{T, ltb, ltb→lt}
use lib.Ieee.Bits.{is_true}
use lib.ListN.{length, length-append}
use mir.Facts.{and_yes, yes_and}
use Rattle.answer.specs.Answer.{Reason, accepted, first, outcome}
use Rattle.answer.proofs.Laws.{numbered, none-applies, accepts, refuses, answered}
use Rattle.bundle.specs.Bundle.{number_at, whole}
use Rattle.bundle.proofs.Bytes.{Bytes}
use Rattle.bundle.proofs.Laws.{number-at-lt}
use Rattle.bundle.proofs.Lies.{Lies, lies}
use Rattle.form.specs.declared.Edit.{Edit}
use Rattle.record.specs.Record.{highest, may_stand}
use Rattle.record.specs.declared.Record.{Record}
use Rattle.record.proofs.Laws.{edit-passes}
use Rattle.records.specs.Journal.{Journal, all, standing, journal_of, valid_of, view_of}
use Rattle.records.specs.Shared.{Shared, places_of, with_own, serves, served_of}
use Rattle.records.proofs.Sharing.{serving, serves-when, still-serves, shown-serves}
use Rattle.records.proofs.Standing.{journal-valid, all_append, view-shows, view-counts, valid-counts, valid-few, valid-stand}
use Rattle.journal.specs.Change.{Change, field, new_number, made_all, records_of, Outcome, room_refusals, make_of}
use Rattle.journal.specs.Edit.{code_refusals, checked_refusals, undo_refusals, undo_of, SharedOutcome, by_party, act_by}
use Rattle.journal.specs.declared.Act.{Act}
use Rattle.journal.specs.declared.Act.TheVariants.{Edit as EditAct, Checked, Undo}
use Rattle.journal.proofs.Laws.{parts-accept, taken-found, taken-changes, checked-taken}
use Rattle.journal.proofs.Rewritten.{rewritten-bytes}

-- an outcome that is what a call makes of it or, refused, what it was
module _ (a : ℕ) (done : Outcome) (code : List ℕ) (j : Journal) (is : done.answer ≡ accepted) where
  abbrev Decided : Outcome
  Decided = outcome a done (record { answer = a; journal = j; code = code })

  answer-is : Decided.answer ≡ a
  answer-is = answered (λ (o : Outcome). o.answer) a done _ is refl

  kept : (Decided.answer ≡ accepted → ⊥) → (Decided.journal ≡ j) × (Decided.code ≡ code)
  kept d =
      let same = refuses a done (record { answer = a; journal = j; code = code }) (λ q. d (answer-is ∙ q)) in
      (ap (λ (o : Outcome). o.journal) same, ap (λ (o : Outcome). o.code) same)

module _ (party places : ℕ) (code : List ℕ) (j : Journal) where
  -- changes that are refused, or made
  module _ (refusals : List Reason) (cs : List Change) where
    pub make-answer : (make_of party places code j refusals cs).answer ≡ first (refusals ++ room_refusals places (view_of party places j) (length cs))
    unfolding make_of
    make-answer = answer-is (first (refusals ++ room_refusals places (view_of party places j) (length cs))) _ code j refl

    pub make-kept : ((make_of party places code j refusals cs).answer ≡ accepted → ⊥) → ((make_of party places code j refusals cs).journal ≡ j) × ((make_of party places code j refusals cs).code ≡ code)
    unfolding make_of
    make-kept = kept (first (refusals ++ room_refusals places (view_of party places j) (length cs))) _ code j refl

    pub make-taken : T (numbered refusals) → (make_of party places code j refusals cs).answer ≡ accepted
        → (first refusals ≡ accepted) × (valid_of party places j ≡ true) × (length (standing j) + length cs ≤ places)
        × (make_of party places code j refusals cs ≡ record { answer = accepted; journal = journal_of places (standing j ++ records_of party code cs); code = made_all code cs })
    unfolding make_of
    make-taken h q =
        let view = view_of party places j in
        let room = room_refusals places view (length cs) in
        let a = sym (answer-is (first (refusals ++ room)) _ code j refl) ∙ q in
        let p = parts-accept refusals room h a in
        let n = none-applies room tt p.1 in
        let valid = sym (view-shows party places j) ∙ not-false _ n.0 in
        (p.0, valid, omega (arith, ltb-false places (view.count + length cs) n.1.0, view-counts party places j valid, valid-counts party places j valid), accepts _ _ _ a)

  pub undo-answer : (undo_of party places code j).answer ≡ first (undo_refusals code (view_of party places j))
  unfolding undo_of
  undo-answer = answer-is (first (undo_refusals code (view_of party places j))) _ code j refl

  pub undo-kept : ((undo_of party places code j).answer ≡ accepted → ⊥) → ((undo_of party places code j).journal ≡ j) × ((undo_of party places code j).code ≡ code)
  unfolding undo_of
  undo-kept = kept (first (undo_refusals code (view_of party places j))) _ code j refl

  pub undo-taken : (undo_of party places code j).answer ≡ accepted → (valid_of party places j ≡ true) × (first (undo_refusals code (view_of party places j)) ≡ accepted)
  undo-taken q =
      let t = sym undo-answer ∙ q in
      (sym (view-shows party places j) ∙ not-false _ (none-applies (undo_refusals code (view_of party places j)) tt t).1.0, t)

-- a valid journal, and a code of bytes
pub record Good (party places : ℕ) (o : Outcome) : Type 0 where
  pub valid : valid_of party places o.journal ≡ true
  pub bytes : Bytes o.code

-- changes whose records may stand, a record each, and that leave a code of bytes
pub record MayBeMade (party : ℕ) (code : List ℕ) (cs : List Change) : Type 0 where
  pub stand : all (may_stand party) (records_of party code cs) ≡ true
  pub many : length (records_of party code cs) ≡ length cs
  pub bytes : Bytes (made_all code cs)

all_but_last : (test : Record → Bool) (rs : List Record) → T (all test rs) → T (all test (drop_last rs))
all_but_last test [] t = tt
all_but_last test (r ∷ []) t = tt
all_but_last test (r ∷ q ∷ rs) t = let s = and_yes (test r) (all test (q ∷ rs)) t in yes_and (test r) (all test (drop_last (q ∷ rs))) s.0 (all_but_last test (q ∷ rs) s.1)

fewer : (rs : List Record) → length (drop_last rs) ≤ length rs
fewer [] = omega arith
fewer (r ∷ []) = omega arith
fewer (r ∷ q ∷ rs) = omega (arith, fewer (q ∷ rs))

module _ (party places : ℕ) (o : Outcome) (g : Good party places o) where
  abbrev j : Journal
  j = o.journal

  pub make-good : (refusals : List Reason) (cs : List Change) → T (numbered refusals) → (first refusals ≡ accepted → MayBeMade party o.code cs) → Good party places (make_of party places o.code j refusals cs)
  make-good refusals cs h f = go (ℕ_discrete (make_of party places o.code j refusals cs).answer accepted)
    where
      go : Dec ((make_of party places o.code j refusals cs).answer ≡ accepted) → Good party places (make_of party places o.code j refusals cs)
      go (yes q) =
          let k = make-taken party places o.code j refusals cs h q in
          let rs = records_of party o.code cs in
          let m = f k.0 in
          let few : length (standing j ++ rs) ≤ places = omega (arith, length-append (standing j) rs, m.many, k.2) in
          let stand =
          all_append (may_stand party) (standing j) rs
          ∙ ap₂ (λ (t u : Bool). t && u) (is_true (all (may_stand party) (standing j)) (valid-stand party places j g.valid)) m.stand in
          subst (Good party places) (sym k.3)
          (record { valid = journal-valid party places (standing j ++ rs) ∙ ap₂ (λ (t u : Bool). t && u) (le-leb _ places few) stand; bytes = m.bytes })
      go (no d) =
          let k = make-kept party places o.code j refusals cs d in
          record { valid = ap (valid_of party places) k.0 ∙ g.valid; bytes = subst Bytes (sym k.1) g.bytes }

  pub undo-good : Good party places (undo_of party places o.code j)
  unfolding undo_of
  undo-good = go (ℕ_discrete (undo_of party places o.code j).answer accepted)
    where
      go : Dec ((undo_of party places o.code j).answer ≡ accepted) → Good party places (undo_of party places o.code j)
      go (yes q) =
          let view = view_of party places j in
          let t = (undo-taken party places o.code j q).1 in
          let n = none-applies (undo_refusals o.code view) tt t in
          let lies : Lies o.code view.last.bundle = record { short = ltb-false _ _ n.0; within = ltb-false _ _ n.1.1.1.0 } in
          let few : length (drop_last (standing j)) ≤ places = omega (arith, fewer (standing j), valid-few party places j g.valid) in
          subst (Good party places) (sym (accepts _ _ _ t))
          (record {
            valid =
                journal-valid party places (drop_last (standing j))
                ∙ ap₂ (λ (t u : Bool). t && u) (le-leb _ places few) (is_true _ (all_but_last (may_stand party) (standing j) (valid-stand party places j g.valid)));
            bytes = rewritten-bytes o.code view.last.bundle lies g.bytes (whole view.last.old);
          })
      go (no d) =
          let k = undo-kept party places o.code j d in
          record { valid = ap (valid_of party places) k.0 ∙ g.valid; bytes = subst Bytes (sym k.1) g.bytes }

-- an edit that the code takes may be made
field-made : (party : ℕ) (code : List ℕ) (e : Edit) → Bytes code → first (code_refusals code e) ≡ accepted → MayBeMade party code (field e ∷ [])
field-made party code e b taken =
    let found = taken-found code e taken in
    let l = lies code e.bundle found in
    let low : e.bundle ≤ highest = omega (arith, l.short, l.within) in
    record {
      stand = λ i. (le-leb e.bundle highest low i && (edit-passes (number_at code e.bundle) e (taken-changes code e taken) party (number-at-lt code e.bundle found b) i && eq-eqb party party refl i)) && true;
      many = refl;
      bytes = rewritten-bytes code e.bundle l b (new_number code (field e));
    }

-- every number of a list of refusals is below n
abbrev all_below : ℕ → List Reason → Bool
all_below n [] = true
all_below n (r ∷ rs) = ltb r.0 n && all_below n rs

first_below : (n : ℕ) (rs : List Reason) → 0 < n → T (all_below n rs) → first rs < n
first_below n [] h t = h
first_below n (r ∷ rs) h t =
    let s = and_yes (ltb r.0 n) (all_below n rs) t in
    elim r.1 as (λ b. cond b r.0 (first rs) < n) [ true ↦ ltb→lt r.0 n s.0 | false ↦ first_below n rs h s.1 ]

-- a party's act, with its journal of so many places
abbrev pub act_of : ℕ → ℕ → List ℕ → Journal → Act → Outcome
act_of party places code j (EditAct e) = make_of party places code j (code_refusals code e) (field e ∷ [])
act_of party places code j (Checked e) = make_of party places code j (checked_refusals code e) (field e ∷ [])
act_of party places code j Undo = undo_of party places code j

act-good : (party places : ℕ) (o : Outcome) → Good party places o → (act : Act) → Good party places (act_of party places o.code o.journal act)
act-good party places o g (EditAct e) = make-good party places o g (code_refusals o.code e) (field e ∷ []) tt (field-made party o.code e g.bytes)
act-good party places o g (Checked e) =
    make-good party places o g (checked_refusals o.code e) (field e ∷ []) tt (λ a. field-made party o.code e g.bytes (checked-taken o.code e a))
act-good party places o g Undo = undo-good party places o g

act-valid : (party places : ℕ) (code : List ℕ) (j : Journal) (act : Act) → (act_of party places code j act).answer ≡ accepted → valid_of party places j ≡ true
act-valid party places code j (EditAct e) a = (make-taken party places code j (code_refusals code e) (field e ∷ []) tt a).1
act-valid party places code j (Checked e) a = (make-taken party places code j (checked_refusals code e) (field e ∷ []) tt a).1
act-valid party places code j Undo a = (undo-taken party places code j a).0

-- what an act is answered has two digits at most
act-few : (party places : ℕ) (code : List ℕ) (j : Journal) (act : Act) → (act_of party places code j act).answer < 100
act-few party places code j (EditAct e) =
    subst (λ (a : ℕ). a < 100) (sym (make-answer party places code j (code_refusals code e) (field e ∷ []))) (first_below 100 (code_refusals code e ++ room_refusals places (view_of party places j) 1) (omega arith) tt)
act-few party places code j (Checked e) =
    subst (λ (a : ℕ). a < 100) (sym (make-answer party places code j (checked_refusals code e) (field e ∷ []))) (first_below 100 (checked_refusals code e ++ room_refusals places (view_of party places j) 1) (omega arith) tt)
act-few party places code j Undo =
    subst (λ (a : ℕ). a < 100) (sym (undo-answer party places code j)) (first_below 100 (undo_refusals code (view_of party places j)) (omega arith) tt)

-- a party's act with a journal that is shared
module _ (party : ℕ) (code : List ℕ) (s : Shared) (act : Act) where
  abbrev places : ℕ
  places = places_of s.parties party

  abbrev comes : Outcome
  comes = act_of party places code (served_of s party) act

  act_by_lem : act_by code s party act ≡ by_party s party comes
  act_by_lem = elim act as (λ a. act_by code s party a ≡ by_party s party (act_of party places code (served_of s party) a)) [ EditAct e ↦ refl | Checked e ↦ refl | Undo ↦ refl ]

  pub act-answer : (act_by code s party act).answer < 100
  act-answer = subst (λ (o : SharedOutcome). o.answer < 100) (sym act_by_lem) (act-few party places code (served_of s party) act)

  -- refused it leaves the journal
  pub act-refused : ((act_by code s party act).answer ≡ accepted → ⊥) → (act_by code s party act).journal ≡ s
  act-refused d = ap (λ (o : SharedOutcome). o.journal) act_by_lem ∙ refuses comes.answer _ _ (λ q. d (ap (λ (o : SharedOutcome). o.answer) act_by_lem ∙ q))

  -- taken it goes by a journal that serves the party, and leaves one
  pub act-serves : Bytes code → (act_by code s party act).answer ≡ accepted → serves (act_by code s party act).journal party ≡ true
  act-serves b a =
      let accepts-it = sym (ap (λ (o : SharedOutcome). o.answer) act_by_lem) ∙ a in
      let valid = act-valid party places code (served_of s party) act accepts-it in
      let v = serving s party (shown-serves s party places (view-shows party places (served_of s party) ∙ valid)) in
      let g = act-good party places (record { answer = accepted; journal = served_of s party; code = code }) (record { valid = valid; bytes = b }) act in
      ap (λ (o : SharedOutcome). serves o.journal party) act_by_lem
      ∙ ap (λ (t : Shared). serves t party) (accepts comes.answer (with_own s party comes.journal) s accepts-it)
      ∙ serves-when (with_own s party comes.journal) party (still-serves s party v comes.journal g.valid party v)
