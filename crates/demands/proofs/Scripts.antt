-- A script's lines are gone through one after the other, so cutting it is a law of going through a list, and each line is a call. Assumes nothing.
use mathlib.Core.Path.{◌≡◌, refl, sym, ap, ap₂, ◌∙◌, subst}
use mathlib.Core.Bool.{Bool, true, false, cond, not, ◌&&◌}
use mathlib.Core.List.{List, [], ◌∷◌, ◌++◌, append-nil, append_assoc}
use mathlib.Core.Logic.{⊎_elim}
use Prim.Native.Nat.{ℕ, zero, suc, ◌+◌, ◌-◌, ◌%◌, ◌^◌, ◌<◌}
use native.Mathlib.Nat.{add-zero}
use native.Mathlib.Omega.{arith}
use borrow.Author.Tests.{eq-eqb, ne_eqb, ltb-true, leb-true, not-true}
use lib.Dec.{T, eqb, leb, ltb}
use lib.ListN.{length, drop}
use Rattle.journal.specs.Change.{Outcome}
use Rattle.journal.specs.Edit.{act_by}
use Rattle.journal.specs.declared.Act.{Act}
use Rattle.journal.specs.declared.Act.TheVariants.{Edit as EditAct, Checked, Undo}
use Rattle.records.specs.Journal.{Journal, view_of}
use Rattle.records.specs.Shared.{Shared, own_of, places_of, fresh, serves}
use Rattle.records.proofs.Sharing.{both, serving, serves-when, served-own}
use Rattle.text.specs.Ascii.{newline}
use Rattle.script.specs.Line.{in_first, lines_of, asked_in}
use Rattle.script.specs.Script.{SoFar, standing_of, answer_line, bad_script, gone_on, stopped_at, asked, line_by, lines_by, longest_line, fitting, run_by, begun, ended_in}
use Rattle.script.specs.inner.Going.{line_at}
use Rattle.std.specs.Prelude.{Option, Some, None}
use Rattle.script.proofs.Lines.{line_first, line-some}
use Rattle.script.proofs.Turns.{line-moves, lines-stopped, runs-no-further, runs-line}
use Rattle.demands.specs.Across.{SheetCall, call, own_sheets, State}
use Rattle.demands.specs.Parties.{mixed, seen_by, calls_of, alone_of, AreCodes}
use Rattle.demands.specs.Scripts.{whole_by, joined, Cut, RoomCuts, call_of, after_asked, then_lines, then_script, ScriptIsCalls, Demand3Scripts, seen_of, ScriptAlone}
use Rattle.demands.proofs.Parties.{reached, demand-3-parties, independent}

-- lines of a text up to a newline, and after it
in_some : (c : ℕ) (ls : List (List ℕ)) → 0 < length (in_first c ls)
in_some c [] = omega arith
in_some c (l ∷ ls) = omega arith

some-line : (one : List ℕ) → 0 < length (lines_of (one ++ (newline ∷ [])))
unfolding lines_of
some-line [] = omega arith
some-line (c ∷ one) =
    let ls = lines_of (one ++ (newline ∷ [])) in
    elim (eqb c newline) as (λ b. 0 < length (cond b ((c ∷ []) ∷ ls) (in_first c ls))) [ true ↦ omega arith | false ↦ in_some c ls ]

in-append : (c : ℕ) (ls ms : List (List ℕ)) → 0 < length ls → in_first c (ls ++ ms) ≡ in_first c ls ++ ms
in-append c [] ms h = absurd (omega arith)
in-append c (l ∷ ls) ms h = refl

lines_cut : (one other : List ℕ) → lines_of (one ++ (newline ∷ other)) ≡ lines_of (one ++ (newline ∷ [])) ++ lines_of other
unfolding lines_of
lines_cut [] other = refl
lines_cut (c ∷ one) other =
    let ls = lines_of (one ++ (newline ∷ [])) in
    ap (λ (ms : List (List ℕ)). cond (eqb c newline) ((c ∷ []) ∷ ms) (in_first c ms)) (lines_cut one other)
    ∙ elim (eqb c newline) as (λ b. cond b ((c ∷ []) ∷ (ls ++ lines_of other)) (in_first c (ls ++ lines_of other)) ≡ cond b ((c ∷ []) ∷ ls) (in_first c ls) ++ lines_of other)
    [ true ↦ refl | false ↦ in-append c ls (lines_of other) (some-line one) ]

-- going through a list
lines-append : (party : ℕ) (s : SoFar) (ls ms : List (List ℕ)) → lines_by party s (ls ++ ms) ≡ lines_by party (lines_by party s ls) ms
lines-append party s [] ms = refl
lines-append party s (l ∷ ls) ms = lines-append party (line_by party s l) ls ms

-- from what there is, or begun anew
abbrev anew : SoFar → SoFar
anew s = begun s.code s.journal s.next s.stopped

joined-none : (s : SoFar) → s ≡ joined s (anew s)
joined-none s = λ i. record { journal = s.journal; code = s.code; next = s.next; stopped = s.stopped; done = sym (add-zero s.done) i; written = sym (append-nil s.written) i }

joined-assoc : (s t u : SoFar) → joined (joined s t) u ≡ joined s (joined t u)
joined-assoc s t u =
    let done : s.done + t.done + u.done ≡ s.done + (t.done + u.done) = omega arith in
    λ i. record { journal = u.journal; code = u.code; next = u.next; stopped = u.stopped; done = done i; written = append_assoc s.written t.written u.written i }

line-anew : (party : ℕ) (s : SoFar) (l : List ℕ) → line_by party s l ≡ joined s (line_by party (anew s) l)
unfolding line_by
line-anew party s l = by-stop s.stopped
  where
    by-asked : (a : Option Act) → asked party s l a ≡ joined s (asked party (anew s) l a)
    by-asked (Some act) =
        let t = gone_on party s l (act_by s.code s.journal party act) in
        let on : s.done + length l ≡ s.done + (0 + length l) = omega arith in
        λ i. record { journal = t.journal; code = t.code; next = t.next; stopped = false; done = on i; written = t.written }
    by-asked None =
        let t = stopped_at party s in
        λ i. record { journal = t.journal; code = t.code; next = t.next; stopped = true; done = sym (add-zero s.done) i; written = t.written }

    by-stop : (b : Bool) → cond b s (asked party s l (asked_in s.next l)) ≡ joined s (cond b (anew s) (asked party (anew s) l (asked_in s.next l)))
    by-stop true = joined-none s
    by-stop false = by-asked (asked_in s.next l)

lines-anew : (party : ℕ) (s : SoFar) (ls : List (List ℕ)) → lines_by party s ls ≡ joined s (lines_by party (anew s) ls)
lines-anew party s [] = joined-none s
lines-anew party s (l ∷ ls) =
    let t = line_by party (anew s) l in
    ap (λ (u : SoFar). lines_by party u ls) (line-anew party s l)
    ∙ lines-anew party (joined s t) ls
    ∙ joined-assoc s t (lines_by party (anew t) ls)
    ∙ ap (joined s) (sym (lines-anew party t ls))

pub cut : Cut
cut code s party next stopped one other =
    let start = begun code s next stopped in
    ap (lines_by party start) (lines_cut one other)
    ∙ lines-append party start (lines_of (one ++ (newline ∷ []))) (lines_of other)
    ∙ lines-anew party (whole_by code s party next stopped (one ++ (newline ∷ []))) (lines_of other)

-- a line of what is left of a text
line_on : (party : ℕ) (s : SoFar) (text : List ℕ) → s.stopped ≡ false → s.done < length text
    → let u = line_by party s (line_at text s.done) in lines_by party s (lines_of (drop s.done text)) ≡ lines_by party u (lines_of (drop u.done text))
line_on party s text running h =
    let l = line_at text s.done in
    let u = line_by party s l in
    ap (lines_by party s) (line_first text s.done h)
    ∙ ⊎_elim
    (λ m. lines-stopped party u m.0 (lines_of (drop (s.done + length l) text)) ∙ sym (lines-stopped party u m.0 (lines_of (drop u.done text))))
    (λ m. ap (λ (n : ℕ). lines_by party u (lines_of (drop n text))) (sym m.1))
    (line-moves party s l running)

-- whatever the room, what is done and what is left come to the same
module _ (party room : ℕ) (text : List ℕ) where
  abbrev Same : SoFar → Type 0
  Same s = let part = run_by party room s (drop s.done text) in lines_by party s (lines_of (drop s.done text)) ≡ lines_by party part (lines_of (drop part.done text))

  abbrev goes : SoFar → Bool
  goes s = not s.stopped && ltb s.done (length text) && leb (length s.written + longest_line) room

  no-further : (s : SoFar) → goes s ≡ false → Same s
  no-further s e = ap (λ (u : SoFar). lines_by party u (lines_of (drop u.done text))) (sym (runs-no-further party room s text e))

  stops : (s : SoFar) → s.stopped ≡ true → Same s
  stops s e = no-further s (ap (λ (b : Bool). not b && ltb s.done (length text) && leb (length s.written + longest_line) room) e)

  same-room : (k : ℕ) (s : SoFar) → length text - s.done < k → Same s
  same-room zero s h = absurd (omega arith)
  same-room (suc k) s h = by-goes (goes s) refl (same-room k)
    where
      further : goes s ≡ true → ((u : SoFar) → length text - u.done < k → Same u) → Same s
      further e rec =
          let a = both (not s.stopped && ltb s.done (length text)) (leb (length s.written + longest_line) room) e in
          let b = both (not s.stopped) (ltb s.done (length text)) a.0 in
          let running = not-true s.stopped b.0 in
          let some = ltb-true s.done (length text) b.1 in
          let l = line_at text s.done in
          let u = line_by party s l in
          let next : Same u =
          ⊎_elim (λ m. stops u m.0) (λ m. rec u (omega (arith, m.1, some, line-some text s.done some))) (line-moves party s l running) in
          line_on party s text running some
          ∙ next
          ∙ ap (λ (v : SoFar). lines_by party v (lines_of (drop v.done text))) (sym (runs-line party room s text running some (leb-true _ _ a.1)))

      by-goes : (b : Bool) → goes s ≡ b → ((u : SoFar) → length text - u.done < k → Same u) → Same s
      by-goes true e rec = further e rec
      by-goes false e rec = no-further s e

pub room-cuts : RoomCuts
room-cuts code s party next stopped text out =
    let start = begun code s next stopped in
    let part = run_by party (length out) start text in
    (refl, same-room party (length out) text (suc (length text)) start (omega arith) ∙ lines-anew party part (lines_of (drop part.done text)))

-- each line is a call
module _ (s : Shared) (codes : ℕ → List ℕ) (party : ℕ) where
  -- what there is of a script after some calls
  abbrev told : List (ℕ × SheetCall) → ℕ → ℕ → List ℕ → SoFar
  told calls next done written =
      let m = mixed s codes calls in
      record { journal = m.journal; code = m.code party; next = next; stopped = false; done = done; written = written }

  -- the line that is written after them
  abbrev answers : List (ℕ × SheetCall) → ℕ → List ℕ
  answers calls next = let m = mixed s codes calls in answer_line next (m.answer party) (standing_of m.journal party)

  act-called : (calls : List (ℕ × SheetCall)) (next done : ℕ) (written l : List ℕ) (act : Act)
      → let m = mixed s codes calls in let more : List (ℕ × SheetCall) = (party, call (call_of act)) ∷ calls in
      gone_on party (told calls next done written) l (act_by (m.code party) m.journal party act) ≡ told more ((next + 1) % 2 ^ 64) (done + length l) (written ++ answers more next)
  act-called calls next done written l (EditAct e) = rw (eq-eqb party party refl)
  act-called calls next done written l (Checked e) = rw (eq-eqb party party refl)
  act-called calls next done written l Undo = rw (eq-eqb party party refl)

  -- the journal and the code after lines are those after their calls
  abbrev After : SoFar → List (ℕ × SheetCall) → Type 0
  After u calls = (u.journal ≡ (mixed s codes calls).journal) × (u.code ≡ (mixed s codes calls).code party)

  lines_called : (ls : List (List ℕ)) (calls : List (ℕ × SheetCall)) (next done : ℕ) (written : List ℕ) → After (lines_by party (told calls next done written) ls) (then_lines party next ls calls)
  unfolding line_by
  lines_called [] calls next done written = (refl, refl)
  lines_called (l ∷ ls) calls next done written = go (asked_in next l) (lines_called ls)
    where
      go : (a : Option Act) → ((calls : List (ℕ × SheetCall)) (next done : ℕ) (written : List ℕ) → After (lines_by party (told calls next done written) ls) (then_lines party next ls calls))
          → After (lines_by party (asked party (told calls next done written) l a) ls) (after_asked a (λ act. then_lines party ((next + 1) % 2 ^ 64) ls ((party, call (call_of act)) ∷ calls)) calls)
      go (Some act) rec =
          subst (λ (u : SoFar). After (lines_by party u ls) (then_lines party ((next + 1) % 2 ^ 64) ls ((party, call (call_of act)) ∷ calls)))
          (sym (act-called calls next done written l act)) (rec _ _ _ _)
      go None rec =
          let u = stopped_at party (told calls next done written) in
          subst (λ (v : SoFar). After v calls) (sym (lines-stopped party u refl ls)) (refl, refl)

  -- others' codes stay, and no sheet is loaded
  call-others : (calls : List (ℕ × SheetCall)) (act : Act) (q : ℕ) → (q ≡ party → ⊥) → (mixed s codes ((party, call (call_of act)) ∷ calls)).code q ≡ (mixed s codes calls).code q
  call-others calls act q d = rw (ne_eqb q party d)

  lines-others : (ls : List (List ℕ)) (calls : List (ℕ × SheetCall)) (next q : ℕ) → (q ≡ party → ⊥) → (mixed s codes (then_lines party next ls calls)).code q ≡ (mixed s codes calls).code q
  lines-others [] calls next q d = refl
  lines-others (l ∷ ls) calls next q d = go (asked_in next l) (lines-others ls)
    where
      go : (a : Option Act) → ((calls : List (ℕ × SheetCall)) (next q : ℕ) → (q ≡ party → ⊥) → (mixed s codes (then_lines party next ls calls)).code q ≡ (mixed s codes calls).code q)
          → (mixed s codes (after_asked a (λ act. then_lines party ((next + 1) % 2 ^ 64) ls ((party, call (call_of act)) ∷ calls)) calls)).code q ≡ (mixed s codes calls).code q
      go (Some act) rec = rec ((party, call (call_of act)) ∷ calls) _ q d ∙ call-others calls act q d
      go None rec = refl

pub script-is-calls : ScriptIsCalls
script-is-calls s codes calls party next true text out =
    let m = mixed s codes calls in
    let start = begun (m.code party) m.journal next true in
    let same = lines-stopped party start refl (fitting party (length out) start (lines_of text)) in
    (ap (λ (u : SoFar). u.journal) same, ap (λ (u : SoFar). u.code) same, λ q d. refl)
script-is-calls s codes calls party next false text out =
    let m = mixed s codes calls in
    let ls = fitting party (length out) (begun (m.code party) m.journal next false) (lines_of text) in
    let done = lines_called s codes party ls calls next 0 [] in
    (done.0, done.1, lines-others s codes party ls calls next)

-- its lines load no sheet
lines-own : (party : ℕ) (ls : List (List ℕ)) (calls : List (ℕ × SheetCall)) (next : ℕ) → T (own_sheets (calls_of party calls)) → T (own_sheets (calls_of party (then_lines party next ls calls)))
lines-own party [] calls next t = t
lines-own party (l ∷ ls) calls next t = go (asked_in next l) (lines-own party ls)
  where
    go : (a : Option Act) → ((calls : List (ℕ × SheetCall)) (next : ℕ) → T (own_sheets (calls_of party calls)) → T (own_sheets (calls_of party (then_lines party next ls calls))))
        → T (own_sheets (calls_of party (after_asked a (λ act. then_lines party ((next + 1) % 2 ^ 64) ls ((party, call (call_of act)) ∷ calls)) calls)))
    go (Some act) rec = rec ((party, call (call_of act)) ∷ calls) _ (rw (eq-eqb party party refl) t)
    go None rec = t

script-own : (code : List ℕ) (s : Shared) (party next : ℕ) (stopped : Bool) (text out : List ℕ) (calls : List (ℕ × SheetCall)) → T (own_sheets (calls_of party calls))
    → T (own_sheets (calls_of party (then_script code s party next stopped text out calls)))
script-own code s party next true text out calls t = t
script-own code s party next false text out calls t = lines-own party (fitting party (length out) (begun code s next false) (lines_of text)) calls next t

pub demand-3-scripts : Demand3Scripts
demand-3-scripts parties codes opened bytes calls party known short own next stopped text out =
    let m = mixed (fresh parties) codes calls in
    let all = then_script (m.code party) m.journal party next stopped text out calls in
    let is = script-is-calls (fresh parties) codes calls party next stopped text out in
    let h = demand-3-parties parties codes opened bytes all party known in
    let d = h.holds short (script-own (m.code party) m.journal party next stopped text out calls own) in
    let has = ap (λ (t : State). t.after) h.has in (
      is.1 ∙ ap (λ (o : Outcome). o.code) has ∙ d.code_is ∙ d.holds.code_is,
      ap (λ (j : Shared). own_of j party) is.0 ∙ ap (λ (o : Outcome). o.journal) has ∙ d.journal-is ∙ d.holds.journal-is,
    )

-- a party's script alone
module _ (s : Shared) (codes : ℕ → List ℕ) (bytes : AreCodes codes) (party room : ℕ) (served : serves s party ≡ true) where
  abbrev alone : List (ℕ × SheetCall) → List (ℕ × SheetCall)
  alone calls = alone_of party calls

  same : (calls : List (ℕ × SheetCall)) → seen_by (mixed s codes calls) party ≡ seen_by (mixed s codes (alone calls)) party
  same calls = independent s codes bytes calls party served

  -- how many edits stand is what the party's own journal shows
  stand-is : (calls : List (ℕ × SheetCall)) → let j = (mixed s codes calls).journal in standing_of j party ≡ (view_of party (places_of s.parties party) (own_of j party)).count
  stand-is calls =
      let r = reached s codes bytes calls in
      let j = (mixed s codes calls).journal in
      ap₂ (λ (n : ℕ) (own : Journal). (view_of party (places_of n party) own).count) r.leaves (served-own j party (serves-when j party (r.serve party (serving s party served))))

  same-stand : (calls : List (ℕ × SheetCall)) → standing_of (mixed s codes calls).journal party ≡ standing_of (mixed s codes (alone calls)).journal party
  same-stand calls =
      stand-is calls ∙ ap (λ (t : State). (view_of party (places_of s.parties party) t.after.journal).count) (same calls) ∙ sym (stand-is (alone calls))

  same-answers : (calls : List (ℕ × SheetCall)) (next : ℕ) → answers s codes party calls next ≡ answers s codes party (alone calls) next
  same-answers calls next = λ i. answer_line next (same calls i).after.answer (same-stand calls i)

  alone-more : (c : SheetCall) (calls : List (ℕ × SheetCall)) → alone ((party, c) ∷ calls) ≡ (party, c) ∷ alone calls
  alone-more c calls = rw (eq-eqb party party refl)

  -- what the party has of what there is
  abbrev seen : SoFar → Journal × List ℕ × ℕ × Bool × ℕ × List ℕ
  seen u = (own_of u.journal party, u.code, u.next, u.stopped, u.done, u.written)

  abbrev ran : SoFar → List (List ℕ) → SoFar
  ran u ls = lines_by party u (fitting party room u ls)

  abbrev Alike : List (List ℕ) → Type 0
  Alike ls = (calls : List (ℕ × SheetCall)) (next done : ℕ) (written : List ℕ)
      → seen (ran (told s codes party calls next done written) ls) ≡ seen (ran (told s codes party (alone calls) next done written) ls)

  alike : (ls : List (List ℕ)) → Alike ls
  unfolding line_by
  alike [] calls next done written = λ i. ((same calls i).after.journal, (same calls i).after.code, next, false, done, written)
  alike (l ∷ ls) calls next done written = by-room (leb (length written + longest_line) room) (alike ls)
    where
      by-asked : (a : Option Act) → Alike ls → seen (ran (asked party (told s codes party calls next done written) l a) ls) ≡ seen (ran (asked party (told s codes party (alone calls) next done written) l a) ls)
      by-asked (Some act) rec =
          let more : List (ℕ × SheetCall) = (party, call (call_of act)) ∷ calls in
          let on = (next + 1) % 2 ^ 64 in
          let is-alone = alone-more (call (call_of act)) calls in
          ap (λ (v : SoFar). seen (ran v ls)) (act-called s codes party calls next done written l act)
          ∙ rec more on (done + length l) (written ++ answers s codes party more next)
          ∙ ap₂ (λ (cs : List (ℕ × SheetCall)) (w : List ℕ). seen (ran (told s codes party cs on (done + length l) (written ++ w)) ls)) is-alone
          (same-answers more next ∙ ap (λ (cs : List (ℕ × SheetCall)). answers s codes party cs next) is-alone)
          ∙ sym (ap (λ (v : SoFar). seen (ran v ls)) (act-called s codes party (alone calls) next done written l act))
      by-asked None rec =
          let v = stopped_at party (told s codes party calls next done written) in
          let w = stopped_at party (told s codes party (alone calls) next done written) in
          ap seen (lines-stopped party v refl (fitting party room v ls))
          ∙ (λ i. ((same calls i).after.journal, (same calls i).after.code, next, true, done, written ++ answer_line next bad_script (same-stand calls i)))
          ∙ sym (ap seen (lines-stopped party w refl (fitting party room w ls)))

      by-room : (b : Bool) → Alike ls
          → let t = told s codes party calls next done written in let u = told s codes party (alone calls) next done written in
          seen (lines_by party t (cond b (l ∷ fitting party room (line_by party t l) ls) [])) ≡ seen (lines_by party u (cond b (l ∷ fitting party room (line_by party u l) ls) []))
      by-room true rec = by-asked (asked_in next l) rec
      by-room false rec = λ i. ((same calls i).after.journal, (same calls i).after.code, next, false, done, written)

pub script-alone : ScriptAlone
script-alone s codes bytes calls party served next true text out =
    let m = mixed s codes calls in
    let a = mixed s codes (alone_of party calls) in
    let start = begun (m.code party) m.journal next true in
    let other = begun (a.code party) a.journal next true in
    let same = independent s codes bytes calls party served in
    ap (λ (u : SoFar). seen_of party (ended_in out u)) (lines-stopped party start refl (fitting party (length out) start (lines_of text)))
    ∙ (λ i. ((same i).after.journal, (same i).after.code, next, true, 0, 0, out))
    ∙ sym (ap (λ (u : SoFar). seen_of party (ended_in out u)) (lines-stopped party other refl (fitting party (length out) other (lines_of text))))
script-alone s codes bytes calls party served next false text out =
    ap (λ (t : Journal × List ℕ × ℕ × Bool × ℕ × List ℕ). (t.0, t.1, t.2, t.3, t.4, length t.5, t.5 ++ drop (length t.5) out))
    (alike s codes bytes party (length out) served (lines_of text) calls next 0 [])
