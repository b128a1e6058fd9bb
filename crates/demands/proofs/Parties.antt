-- Each party has what it would have had alone: while the shared journal is valid a call of a party comes to what it comes to with that
-- party's journal and leaves the other part, and what it leaves is valid again; a call of a party that isn't served leaves all. So through
-- the calls. Assumes nothing.
use mathlib.Core.Path.{◌≡◌, refl, sym, ap, ap₂, ◌∙◌, subst}
use mathlib.Core.Bool.{Bool, true, false, cond}
use mathlib.Core.List.{List, [], ◌∷◌, map}
use mathlib.Core.Option.{Option, none, some}
use Prim.Native.Nat.{ℕ}
use native.Mathlib.Decide.{ℕ_discrete}
use native.Mathlib.Omega.{arith}
use borrow.Author.Tests.{eq-eqb, ne_eqb}
use lib.Dec.{eqb, leb}
use lib.ListN.{length}
use Rattle.answer.specs.Answer.{accepted, full, bad_journal}
use Rattle.answer.proofs.Laws.{accepts, refuses}
use Rattle.bundle.proofs.Bytes.{Bytes}
use Rattle.journal.specs.Change.{Outcome, JournalOutcome}
use Rattle.demands.specs.Demand3.{Call, step}
use Rattle.demands.proofs.Kept.{step-good, step_kept, step-valid}
use Rattle.journal.proofs.Kept.{Good}
use Rattle.demands.proofs.Run.{same_step}
use Rattle.record.specs.declared.Record.{Record}
use Rattle.records.specs.Journal.{Journal, limit, journal_of, valid_of}
use Rattle.records.specs.Shared.{Shared, own_of, with_own, places_of, fresh, serves, served_of, after_by}
use Rattle.records.proofs.Sharing.{Serving, serving, serves-when, by-party, served-own, still-serves, fresh-serves, places-within, shown-serves}
use Rattle.records.proofs.Standing.{view-shows}
use Rattle.text.specs.Whole.{wrote_of}
use Rattle.sheet.specs.Sheet.{sheet_of, sheet_line, write_refusals}
use Rattle.sheet.specs.Load.{loaded_with, records_in, load_of}
use Rattle.demands.specs.Across.{SheetCall, call, write, write_line, load, load_text, Wrote, nothing, sheet, line, State, loaded, after_writing, next, across}
use Rattle.demands.specs.Parties.{Mixed, left, loaded_by, ByContract, called_by, mixed, seen_by, calls_of, alone_of, AreCodes, Independent, Demand3Parties}
use Rattle.demands.proofs.Across.{demand-3-across}
use Rattle.sheet.proofs.Inverse.{load-only-written}

-- loading that is refused leaves the journal, and one that isn't goes by a valid one and gives a valid one
module _ (party places : ℕ) (given : Journal) (text : List ℕ) where
  load_kept : ((load_of limit party places given text).answer ≡ accepted → ⊥) → (load_of limit party places given text).journal ≡ given
  unfolding load_of
  load_kept = go (valid_of party places given) (records_in limit party text)
    where
      full-or : (rs : List Record) (t : Bool) → let l : JournalOutcome = cond t (record { answer = accepted; journal = journal_of places rs }) (record { answer = full; journal = given }) in (l.answer ≡ accepted → ⊥) → l.journal ≡ given
      full-or rs true d = absurd (d refl)
      full-or rs false d = refl

      go : (v : Bool) (o : Option (List Record)) → let l : JournalOutcome = cond v (loaded_with places given o) (record { answer = bad_journal; journal = given }) in (l.answer ≡ accepted → ⊥) → l.journal ≡ given
      go true (some rs) d = full-or rs (leb (length rs) places) d
      go true none d = refl
      go false o d = refl

  load-taken : (load_of limit party places given text).answer ≡ accepted → valid_of party places given ≡ true
  unfolding load_of
  load-taken = go (valid_of party places given)
    where
      go : (v : Bool) → (cond v (loaded_with places given (records_in limit party text)) (record { answer = bad_journal; journal = given })).answer ≡ accepted → v ≡ true
      go true a = refl
      go false a = absurd (omega arith)

-- what a call of a party leaves of a shared journal: those that it serves, and the others' parts
record Leaves (s : Shared) (party : ℕ) (t : Shared) : Type 0 where
  parties : t.parties ≡ s.parties
  serve : (q : ℕ) → Serving s q → Serving t q
  others : (q : ℕ) → Serving s q → (party ≡ q → ⊥) → own_of t q ≡ own_of s q

leaves-same : (s : Shared) (party : ℕ) → Leaves s party s
leaves-same s party = record { parties = refl; serve = λ q w. w; others = λ q w d. refl }

-- a valid journal in the place of the party's own
module _ (s : Shared) (party : ℕ) (v : Serving s party) (j : Journal) where
  own-with : own_of (with_own s party j) party ≡ j
  own-with = by-party s party v (λ p. own_of (with_own s p j) p ≡ j) refl (λ _. refl)

  leaves-own : valid_of party (places_of s.parties party) j ≡ true → Leaves s party (with_own s party j)
  leaves-own valid =
      record {
        parties = by-party s party v (λ p. (with_own s p j).parties ≡ s.parties) refl (λ _. refl);
        serve = still-serves s party v j valid;
        others = λ q w.
            by-party s party v (λ p. (p ≡ q → ⊥) → own_of (with_own s p j) q ≡ own_of s q)
            (by-party s q w (λ r. (0 ≡ r → ⊥) → own_of (with_own s 0 j) r ≡ own_of s r) (λ d. absurd (d refl)) (λ _ d. refl))
            (λ _. by-party s q w (λ r. (1 ≡ r → ⊥) → own_of (with_own s 1 j) r ≡ own_of s r) (λ d. refl) (λ _ d. absurd (d refl)));
      }

pub by-contract : (code : List ℕ) (s : Shared) (party : ℕ) → ByContract code s party
by-contract code s party = record { edits = λ e. refl; checks = λ e. refl; undoes = refl; folds = refl }

-- one call of a party
module _ (m : Mixed) (party : ℕ) (bytes : (q : ℕ) → Bytes (m.code q)) where
  abbrev s : Shared
  s = m.journal

  abbrev places : ℕ
  places = places_of s.parties party

  abbrev held : Journal
  held = served_of s party

  abbrev before : Outcome
  before = record { answer = accepted; journal = held; code = m.code party }

  -- what it comes to with the party's journal: refused it leaves all, and taken it goes by a valid journal and leaves one
  pub record Comes (o : Outcome) : Type 0 where
    keeps : (o.answer ≡ accepted → ⊥) → (o.journal ≡ held) × (o.code ≡ m.code party)
    taken : o.answer ≡ accepted → (valid_of party places held ≡ true) × Good party places o

  call-comes : (c : Call) → Comes (step party places before c)
  call-comes c =
      record {
        keeps = step_kept party places before c;
        taken = λ a. let v = step-valid party places before c a in (v, step-good party places before (record { valid = v; bytes = bytes party }) c);
      }

  load-comes : (text : List ℕ) → Comes (loaded party places before (sheet text))
  load-comes text =
      record {
        keeps = λ d. (load_kept party places held text d, refl);
        taken = λ a. (load-taken party places held text a, record { valid = (load-only-written limit party places held text a).1.valid; bytes = bytes party });
      }

  -- a valid journal is one that serves the party
  comes-serves : (o : Outcome) → Comes o → o.answer ≡ accepted → Serving s party
  comes-serves o c a = serving s party (shown-serves s party places (view-shows party places held ∙ (c.taken a).0))

  abbrev put : Outcome → Shared
  put o = after_by s party o.answer o.journal

  comes-leaves : (o : Outcome) → Comes o → Leaves s party (put o) × Bytes o.code
  comes-leaves o c =
      elim (ℕ_discrete o.answer accepted) [
        | yes a ↦ let g = (c.taken a).1 in (rw (accepts o.answer (with_own s party o.journal) s a) (leaves-own s party (comes-serves o c a) o.journal g.valid), g.bytes)
        | no d ↦ (rw (refuses o.answer (with_own s party o.journal) s d) (leaves-same s party), subst Bytes (sym (c.keeps d).1) (bytes party))
      ]

  -- what there is after it
  data Does : Mixed → Type 0 where
    does : (journal : Shared) (answer : ℕ) (code : List ℕ) (wrote : Wrote) → Leaves s party journal → Bytes code → Does (left m party journal answer code wrote)

  does-same : (answer : ℕ) (wrote : Wrote) → Does (left m party s answer (m.code party) wrote)
  does-same answer wrote = does s answer (m.code party) wrote (leaves-same s party) (bytes party)

  does-put : (o : Outcome) → Comes o → Does (left m party (put o) o.answer o.code nothing)
  does-put o c = let l = comes-leaves o c in does (put o) o.answer o.code nothing l.0 l.1

  load_does : (w : Wrote) → Does (loaded_by m party w)
  load_does nothing = does-same (m.answer party) nothing
  load_does (sheet text) = does-put (loaded party places before (sheet text)) (load-comes text)
  load_does (line text) = does-same (m.answer party) nothing

  called-does : (c : SheetCall) → Does (called_by m party c)
  called-does (call c) = does-put (step party places before c) (call-comes c)
  called-does (write out) = does-same _ _
  called-does (write_line i out) = does-same _ _
  called-does load = load_does (m.wrote party)
  called-does (load_text text) = load_does (sheet text)

  -- it leaves the journal so, every code bytes, and what another has as it was
  does-leaves : {n : Mixed} → Does n → Leaves s party n.journal
  does-leaves (does journal answer code wrote l b) = l

  does-bytes : {n : Mixed} → Does n → (q : ℕ) → Bytes (n.code q)
  does-bytes (does journal answer code wrote l b) q = go (eqb q party)
    where
      go : (t : Bool) → Bytes (cond t code (m.code q))
      go true = b
      go false = bytes q

  sees-still : {n : Mixed} → Does n → (q : ℕ) → Serving s q → (party ≡ q → ⊥) → seen_by n q ≡ seen_by m q
  sees-still (does journal answer code wrote l b) q w d = rw (ne_eqb q party (λ e. d (sym e)), l.others q w d)

  -- what the party has after it, where it is served
  module _ (served : serves s party ≡ true) where
    is-own : held ≡ own_of s party
    is-own = served-own s party served

    seen-left : (journal : Shared) (o : Outcome) (wrote : Wrote) → own_of journal party ≡ o.journal → seen_by (left m party journal o.answer o.code wrote) party ≡ record { after = o; wrote = wrote }
    seen-left journal o wrote j = rw (eq-eqb party party refl, j)

    seen-put : (o : Outcome) → Comes o → seen_by (left m party (put o) o.answer o.code nothing) party ≡ record { after = o; wrote = nothing }
    seen-put o c =
        seen-left (put o) o nothing
        (elim (ℕ_discrete o.answer accepted) [
          | yes a ↦ rw (accepts o.answer (with_own s party o.journal) s a) (own-with s party (comes-serves o c a) o.journal)
          | no d ↦ rw (refuses o.answer (with_own s party o.journal) s d) (sym ((c.keeps d).0 ∙ is-own))
        ])

    seen-load : (w : Wrote) → seen_by (loaded_by m party w) party ≡ record { after = loaded party places (seen_by m party).after w; wrote = nothing }
    seen-load nothing = seen-left s (seen_by m party).after nothing refl
    seen-load (sheet text) =
        seen-put (loaded party places before (sheet text)) (load-comes text)
        ∙ ap (λ (j : Journal). record { after = loaded party places (record { answer = accepted; journal = j; code = m.code party }) (sheet text); wrote = nothing }) is-own
    seen-load (line text) = seen-left s (seen_by m party).after nothing refl

    -- a text of a journal written
    abbrev text_written : (List ℕ → Wrote) → (Journal → List ℕ) → List ℕ → Journal → State
    text_written kind text out j = after_writing (seen_by m party).after kind (wrote_of (write_refusals party places j) (text j) out)

    seen-written : (kind : List ℕ → Wrote) (text : Journal → List ℕ) (out : List ℕ) → let w = text_written kind text out held in
        seen_by (left m party s w.after.answer (m.code party) w.wrote) party ≡ text_written kind text out (own_of s party)
    seen-written kind text out = let w = text_written kind text out held in seen-left s w.after w.wrote refl ∙ ap (text_written kind text out) is-own

    sees-next : (c : SheetCall) → seen_by (called_by m party c) party ≡ next party places (seen_by m party) c
    sees-next (call c) =
        seen-put (step party places before c) (call-comes c)
        ∙ ap (λ (o : Outcome). record { after = o; wrote = nothing }) (same_step party places before (seen_by m party).after refl is-own c)
    sees-next (write out) = seen-written sheet sheet_of out
    sees-next (write_line i out) = seen-written line (λ j. sheet_line j i) out
    sees-next load = seen-load (m.wrote party)
    sees-next (load_text text) = seen-load (sheet text)

-- through the calls
module _ (s : Shared) (codes : ℕ → List ℕ) (bytes : AreCodes codes) where
  -- what a party has at the start, and what its own calls come to from there
  abbrev pub start : ℕ → Outcome
  start q = record { answer = accepted; journal = own_of s q; code = codes q }

  abbrev pub own : ℕ → List SheetCall → State
  own q calls = across q (places_of s.parties q) (start q) calls

  pub record Reached (calls : List (ℕ × SheetCall)) : Type 0 where
    pub leaves : (mixed s codes calls).journal.parties ≡ s.parties
    pub serve : (q : ℕ) → Serving s q → Serving (mixed s codes calls).journal q
    all-bytes : (q : ℕ) → Bytes ((mixed s codes calls).code q)
    pub sees : (q : ℕ) → Serving s q → seen_by (mixed s codes calls) q ≡ own q (calls_of q calls)

  called : (p : ℕ) (c : SheetCall) (cs : List (ℕ × SheetCall)) → Reached cs → Reached ((p, c) ∷ cs)
  called p c cs r =
      record {
        leaves = (does-leaves m p r.all-bytes d).parties ∙ r.leaves;
        serve = λ q w. (does-leaves m p r.all-bytes d).serve q (r.serve q w);
        all-bytes = does-bytes m p r.all-bytes d;
        sees = λ q w. by q w (ℕ_discrete p q);
      }
    where
      m : Mixed
      m = mixed s codes cs

      d : Does m p r.all-bytes (called_by m p c)
      d = called-does m p r.all-bytes c

      own-call : (q : ℕ) → Serving s q → seen_by (called_by m q c) q ≡ own q (c ∷ calls_of q cs)
      own-call q w =
          sees-next m q r.all-bytes (serves-when m.journal q (r.serve q w)) c
          ∙ ap₂ (λ (n : ℕ) (t : State). next q (places_of n q) t c) r.leaves (r.sees q w)

      by : (q : ℕ) → Serving s q → Dec (p ≡ q) → seen_by (called_by m p c) q ≡ own q (calls_of q ((p, c) ∷ cs))
      by q w (yes e) = rw (e, eq-eqb q q refl) (own-call q w)
      by q w (no n) = rw (ne_eqb p q n) (sees-still m p r.all-bytes d q (r.serve q w) n ∙ r.sees q w)

  pub reached : (calls : List (ℕ × SheetCall)) → Reached calls
  reached [] = record { leaves = refl; serve = λ q w. w; all-bytes = bytes; sees = λ q w. refl }
  reached ((p, c) ∷ cs) = called p c cs (reached cs)

pub demand-3-parties : Demand3Parties
unfolding fresh
demand-3-parties parties codes opened bytes calls party h =
    let v = serving (fresh parties) party (fresh-serves parties party opened h) in
    record {
      has =
          (reached (fresh parties) codes bytes calls).sees party v
          ∙ ap (λ (j : Journal). across party (places_of parties party) (record { answer = accepted; journal = j; code = codes party }) (calls_of party calls))
          (by-party (fresh parties) party v (λ q. own_of (fresh parties) q ≡ journal_of (places_of parties q) []) refl (λ _. refl));
      holds = λ short own. demand-3-across party (places_of parties party) (codes party) (places-within parties party) (bytes party) short (calls_of party calls) own;
    }

-- alone, a party's calls are the same
calls_alone : (party : ℕ) (cs : List SheetCall) → calls_of party (map (λ (c : SheetCall). (party, c)) cs) ≡ cs
calls_alone party [] = refl
calls_alone party (c ∷ cs) = rw (eq-eqb party party refl) (ap (λ (ds : List SheetCall). c ∷ ds) (calls_alone party cs))

pub independent : Independent
independent s codes bytes calls party served =
    let v = serving s party served in
    (reached s codes bytes calls).sees party v
    ∙ sym ((reached s codes bytes (alone_of party calls)).sees party v ∙ ap (own s codes bytes party) (calls_alone party (calls_of party calls)))
