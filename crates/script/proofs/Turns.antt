-- One line after the other: what is kept from line to line is what the definition has, since a line that is written has at most 29 bytes and the
-- output has room for them; and lines are gone through till the script stops, ends, or has no room. Assumes nothing.
use Rattle.std.proofs.Common.{◌≡◌, ℕ, ◌+◌, ◌-◌, ◌%◌, ◌^◌, ◌<◌, ◌≤◌, Bool, true, false, cond, not, ◌&&◌, ltb, leb, ◌⊎◌, List, [], ◌∷◌, ◌++◌, length, take, drop, sym, refl, ap, ◌∙◌, subst, ap₂, inl, inr, ⊎_elim, arith, length-append, drop_of_length-le, length-take-le, take_at, drop_at, ltb-false, le-leb}
use mathlib.Core.Bool.{false≢true}
use Rattle.record.specs.declared.Record.{Record}
use Rattle.records.specs.Journal.{Journal, Shown, limit, view_of, valid_of, view_if, record_at}
use Rattle.records.specs.Shared.{Shared, sharing, places_of, served_of}
use Rattle.records.specs.declared.Counts.{Counts}
use Rattle.records.specs.declared.Own.{Own}
use Rattle.records.specs.inner.Shows.{OwnView, as_shown, as_own_view, ShowsPart}
use Rattle.records.proofs.Sharing.{places-within}
use Rattle.records.proofs.Standing.{view-shown, view-counts, valid-counts, valid-few}
use Rattle.journal.specs.Edit.{SharedOutcome, act_by}
use Rattle.journal.specs.declared.Act.{Act}
use Rattle.journal.proofs.Kept.{act-answer}
use Rattle.text.specs.Ascii.{tab, newline}
use Rattle.text.specs.Decimal.{decimal}
use Rattle.text.specs.Put.{Put}
use Rattle.text.proofs.Numerals.{decimal-length}
use Rattle.text.proofs.Writing.{written_is, put-length}
use Rattle.script.specs.Line.{lines_of, asked_in}
use Rattle.script.specs.Script.{SoFar, standing_of, answer_line, bad_script, gone_on, asked, line_by, lines_by, longest_line, fitting, run_by}
use Rattle.script.specs.inner.Going.{line_at, so_far, stopped_with, Keeps, Goes}
use Rattle.script.specs.declared.State.{State}
use Rattle.std.specs.Prelude.{Option, Some, None}
use Rattle.script.proofs.Lines.{line_first}

-- a line that is written isn't longer than the longest
answer-length : (next answer count : ℕ) → next < 2 ^ 64 → answer < 100 → count ≤ limit → length (answer_line next answer count) ≤ longest_line
answer-length next answer count n a c =
    let third = decimal count ++ (newline ∷ []) in
    let second = decimal answer ++ (tab ∷ third) in
    omega (
      arith,
      length-append (decimal next) (tab ∷ second),
      length-append (decimal answer) (tab ∷ third),
      length-append (decimal count) (newline ∷ []),
      decimal-length 19 next (omega arith),
      decimal-length 1 answer (omega arith),
      decimal-length 3 count (omega arith),
    )

-- no more edits of a party stand than there are places
stand-few : (s : Shared) (party : ℕ) → standing_of s party ≤ limit
stand-few s party = go (valid_of party places j) refl
  where
    places : ℕ
    places = places_of s.parties party

    j : Journal
    j = served_of s party

    go : (t : Bool) → valid_of party places j ≡ t → (view_of party places j).count ≤ limit
    go true e = omega (arith, view-counts party places j e, valid-counts party places j e, valid-few party places j e, places-within s.parties party)
    go false e = subst (λ (n : ℕ). n ≤ limit) (sym (ap (λ (w : Shown). w.count) (view-shown party places j ∙ ap (λ (t : Bool). view_if t j.count (record_at j (j.count - 1))) e))) (omega arith)

-- a text that was written where there is room
module _ {out out' text : List ℕ} {at next : ℕ} (p : Put out at text out' next) (room : at + length text ≤ length out) (short : length out < 2 ^ 64) where
  put-end : next ≡ at + length text
  put-end = omega (arith, p.place)

  put_is : out' ≡ (take at out ++ text) ++ drop (at + length text) out
  put_is = p.bytes ∙ written_is out at text room

  front_length : length (take at out ++ text) ≡ at + length text
  front_length = length-append (take at out) text ∙ ap (λ (n : ℕ). n + length text) (length-take-le at out (omega arith))

  put_front : take next out' ≡ take at out ++ text
  put_front = ap₂ (λ (n : ℕ) (o : List ℕ). take n o) put-end put_is ∙ take_at (take at out ++ text) _ (at + length text) front_length

  put_rest : drop next out' ≡ drop next out
  put_rest =
      ap₂ (λ (n : ℕ) (o : List ℕ). drop n o) put-end put_is
      ∙ drop_at (take at out ++ text) _ (at + length text) front_length
      ∙ ap (λ (n : ℕ). drop n out) (sym put-end)

-- a line of a script that runs
line-running : (party : ℕ) (s : SoFar) (l : List ℕ) → s.stopped ≡ false → line_by party s l ≡ asked party s l (asked_in s.next l)
unfolding line_by
line-running party s l e = ap (λ (t : Bool). cond t s (asked party s l (asked_in s.next l))) e

-- what is kept, before a line for which there is room
module _ (party : ℕ) (t : State) (records : List Record) (code out : List ℕ) (l : List ℕ) (k : Keeps party t records out) (running : t.ran.stopped ≡ false)
    (room : t.ran.length + longest_line ≤ length out) (next_fits : t.ran.next < 2 ^ 64) (short : length out < 2 ^ 64) where
  abbrev s : SoFar
  s = so_far t records code out

  shown-count : {c : _} {rs : List Record} {o : OwnView} → ShowsPart c rs party o → o.view.count ≡ standing_of (sharing c rs) party
  shown-count h = ap (λ (o : OwnView). o.view.count) h.is

  -- it stops the script
  pub stopped-right : (r : State) (out' : List ℕ) → asked_in t.ran.next l ≡ None → r ≡ stopped_with t r.ran.length
      → Put out t.ran.length (answer_line t.ran.next bad_script (as_shown t.own.view).count) out' r.ran.length
      → Keeps party r records out' × Goes t r out out' × (so_far r records code out' ≡ line_by party s l)
  stopped-right r out' nothing is p =
      let few = subst (λ (n : ℕ). n ≤ limit) (sym (shown-count k.shows)) (stand-few (sharing t.ran.counts records) party) in
      let fits : t.ran.length + length (answer_line t.ran.next bad_script (as_shown t.own.view).count) ≤ length out =
      omega (arith, answer-length t.ran.next bad_script (as_shown t.own.view).count next_fits (omega arith) few) in
      let ends = put-end p fits short in
      let written = put_front p fits short ∙ ap (λ (n : ℕ). take t.ran.length out ++ answer_line t.ran.next bad_script n) (shown-count k.shows) in (
        record { shows = subst (λ (u : State). ShowsPart u.ran.counts records party (as_own_view u.own)) (sym is) k.shows; within = omega (arith, put-length p) },
        record { more = omega arith; rest = put_rest p fits short },
        (λ i. so_far (is i) records code out')
            ∙ (λ i. record { journal = s.journal; code = code; next = t.ran.next; stopped = true; done = t.ran.done; written = written i })
            ∙ sym (line-running party s l running ∙ ap (asked party s l) nothing),
      )

  -- or it is done
  pub gone-right : (act : Act) (answer : ℕ) (counts : Counts) (own : Own) (records' : List Record) (code' : List ℕ) (r : State) (end : ℕ) (out' : List ℕ)
      → asked_in t.ran.next l ≡ Some act → record { answer = answer; journal = sharing counts records'; code = code' } ≡ act_by code (sharing t.ran.counts records) party act
      → ShowsPart counts records' party (as_own_view own)
      → end ≡ t.ran.done + length l → r ≡ record { ran = record { counts = counts; next = (t.ran.next + 1) % 2 ^ 64; stopped = false; done = end; length = r.ran.length }; own = own }
      → Put out t.ran.length (answer_line t.ran.next answer (as_shown own.view).count) out' r.ran.length
      → Keeps party r records' out' × Goes t r out out' × (so_far r records' code' out' ≡ line_by party s l)
  gone-right act answer counts own records' code' r end out' does comes shows ends is p =
      let few = subst (λ (n : ℕ). n ≤ limit) (sym (shown-count shows)) (stand-few (sharing counts records') party) in
      let small = subst (λ (n : ℕ). n < 100) (sym (ap (λ (u : SharedOutcome). u.answer) comes)) (act-answer party code (sharing t.ran.counts records) act) in
      let fits : t.ran.length + length (answer_line t.ran.next answer (as_shown own.view).count) ≤ length out =
      omega (arith, answer-length t.ran.next answer (as_shown own.view).count next_fits small few) in
      let end_is = put-end p fits short in
      let written = put_front p fits short ∙ ap (λ (n : ℕ). take t.ran.length out ++ answer_line t.ran.next answer n) (shown-count shows) in (
        record { shows = subst (λ (u : State). ShowsPart u.ran.counts records' party (as_own_view u.own)) (sym is) shows; within = omega (arith, put-length p) },
        record { more = omega arith; rest = put_rest p fits short },
        (λ i. so_far (is i) records' code' out')
            ∙ (λ i. record { journal = sharing counts records'; code = code'; next = (t.ran.next + 1) % 2 ^ 64; stopped = false; done = ends i; written = written i })
            ∙ ap (gone_on party s l) comes
            ∙ sym (line-running party s l running ∙ ap (asked party s l) does),
      )

-- a line moves on, or stops
module _ (party : ℕ) (s : SoFar) (l : List ℕ) (running : s.stopped ≡ false) where
  abbrev Stops : SoFar → Type 0
  Stops u = (u.stopped ≡ true) × (u.done ≡ s.done)

  abbrev Moves : SoFar → Type 0
  Moves u = (u.stopped ≡ false) × (u.done ≡ s.done + length l)

  pub line-moves : Stops (line_by party s l) ⊎ Moves (line_by party s l)
  line-moves = subst (λ (u : SoFar). Stops u ⊎ Moves u) (sym (line-running party s l running)) (go (asked_in s.next l))
    where
      go : (a : Option Act) → Stops (asked party s l a) ⊎ Moves (asked party s l a)
      go (Some act) = inr (refl, refl)
      go None = inl (refl, refl)

-- a script that stopped stays so
pub lines-stopped : (party : ℕ) (s : SoFar) → s.stopped ≡ true → (ls : List (List ℕ)) → lines_by party s ls ≡ s
unfolding line_by
lines-stopped party s e [] = refl
lines-stopped party s e (l ∷ ls) = ap (λ (t : Bool). lines_by party (cond t s (asked party s l (asked_in s.next l))) ls) e ∙ lines-stopped party s e ls

-- where lines are gone through no further
pub runs-no-further : (party room : ℕ) (s : SoFar) (text : List ℕ) → (not s.stopped && ltb s.done (length text) && leb (length s.written + longest_line) room) ≡ false
    → run_by party room s (drop s.done text) ≡ s
unfolding lines_of
runs-no-further party room s text e = by-stop s.stopped refl (ltb s.done (length text)) refl (leb (length s.written + longest_line) room) refl e
  where
    no_room_lem : leb (length s.written + longest_line) room ≡ false → (ls : List (List ℕ)) → lines_by party s (fitting party room s ls) ≡ s
    no_room_lem e [] = refl
    no_room_lem e (l ∷ ls) = rw e

    by-stop : (t : Bool) → s.stopped ≡ t → (u : Bool) → ltb s.done (length text) ≡ u → (v : Bool) → leb (length s.written + longest_line) room ≡ v → (not t && u && v) ≡ false
        → run_by party room s (drop s.done text) ≡ s
    by-stop true q u d v r e = lines-stopped party s q (fitting party room s (lines_of (drop s.done text)))
    by-stop false q false d v r e = rw (drop_of_length-le text {i = s.done} (ltb-false _ _ d))
    by-stop false q true d false r e = no_room_lem r (lines_of (drop s.done text))
    by-stop false q true d true r e = absurd (false≢true (sym e))

-- a turn
pub runs-line : (party room : ℕ) (s : SoFar) (text : List ℕ) → s.stopped ≡ false → s.done < length text → length s.written + longest_line ≤ room
    → let u = line_by party s (line_at text s.done) in run_by party room s (drop s.done text) ≡ run_by party room u (drop u.done text)
runs-line party room s text running h fits =
    let l = line_at text s.done in
    let u = line_by party s l in
    let others = lines_of (drop (s.done + length l) text) in
    ap (λ (ls : List (List ℕ)). lines_by party s (fitting party room s ls)) (line_first text s.done h)
    ∙ ap (λ (t : Bool). lines_by party s (cond t (l ∷ fitting party room u others) [])) (le-leb (length s.written + longest_line) room fits)
    ∙ ⊎_elim
    (λ m. lines-stopped party u m.0 (fitting party room u others) ∙ sym (lines-stopped party u m.0 (fitting party room u (lines_of (drop u.done text)))))
    (λ m. ap (λ (n : ℕ). run_by party room u (drop n text)) (sym m.1))
    (line-moves party s l running)
