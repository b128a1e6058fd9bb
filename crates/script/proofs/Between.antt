-- What is so between two lines of a script: what is kept is right, and going on from it comes to what the whole text comes to. Assumes
-- nothing.
use Rattle.std.proofs.Common.{◌≡◌, ℕ, suc, ◌+◌, ◌-◌, ◌<◌, ◌≤◌, true, false, cond, not, ◌&&◌, ltb, leb, List, ◌++◌, length, take, drop, sym, ap, ◌∙◌, ap₂, ⊎_elim, arith, take-append-drop, length-take-le, drop-drop, ltb-true, leb-true}
use borrow.Author.Tests.{not-true}
use Rattle.record.specs.declared.Record.{Record}
use Rattle.records.proofs.Sharing.{both}
use Rattle.script.specs.Script.{SoFar, longest_line, line_by, run_by, ended_in}
use Rattle.script.specs.inner.Going.{line_at, so_far, Keeps}
use Rattle.script.specs.declared.State.{State}
use Rattle.script.proofs.Lines.{line-within, line-some}
use Rattle.script.proofs.Turns.{line-moves, runs-no-further, runs-line}

-- what there is between two lines of a text, begun with an output
pub record Between (party : ℕ) (text first : List ℕ) (start : SoFar) (records : List Record) (code out : List ℕ) (t : State) : Type 0 where
  pub keeps : Keeps party t records out
  pub rest : drop t.ran.length out ≡ drop t.ran.length first
  pub long : length out ≡ length first
  pub within : t.ran.done ≤ length text
  pub goes : run_by party (length first) (so_far t records code out) (drop t.ran.done text) ≡ run_by party (length first) start text

-- how far it is to the end
abbrev pub left : ℕ → State → ℕ
left size t = cond t.ran.stopped 0 (suc (size - t.ran.done))

-- a turn is taken
pub record Turn (text out : List ℕ) (t : State) : Type 0 where
  pub running : t.ran.stopped ≡ false
  pub some : t.ran.done < length text
  pub room : t.ran.length + longest_line ≤ length out

pub turn-of : (text out : List ℕ) (t : State) → (not t.ran.stopped && ltb t.ran.done (length text) && leb (t.ran.length + longest_line) (length out)) ≡ true → Turn text out t
turn-of text out t e =
    let a = both (not t.ran.stopped && ltb t.ran.done (length text)) (leb (t.ran.length + longest_line) (length out)) e in
    let b = both (not t.ran.stopped) (ltb t.ran.done (length text)) a.0 in
    record { running = not-true t.ran.stopped b.0; some = ltb-true _ _ b.1; room = leb-true _ _ a.1 }

-- one line more
module _ (party : ℕ) (text first : List ℕ) (start : SoFar) (records records' : List Record) (code code' out out' : List ℕ) (t r : State) (b : Between party text first start records code out t) (u : Turn text out t)
    (is : so_far r records' code' out' ≡ line_by party (so_far t records code out) (line_at text t.ran.done)) where
  abbrev l : List ℕ
  l = line_at text t.ran.done

  abbrev s : SoFar
  s = so_far t records code out

  stop_is : r.ran.stopped ≡ (line_by party s l).stopped
  stop_is = ap (λ (v : SoFar). v.stopped) is

  done-is : r.ran.done ≡ (line_by party s l).done
  done-is = ap (λ (v : SoFar). v.done) is

  pub less : left (length text) r < left (length text) t
  less =
      ⊎_elim
      (λ m. rw (stop_is ∙ m.0, u.running) (omega arith))
      (λ m. let d = done-is ∙ m.1 in rw (stop_is ∙ m.0, u.running) (omega (arith, d, u.some, line-some text t.ran.done u.some)))
      (line-moves party s l u.running)

  pub moved : r.ran.done ≤ length text
  moved = ⊎_elim (λ m. omega (arith, done-is, m.1, b.within)) (λ m. omega (arith, done-is, m.1, line-within text t.ran.done u.some)) (line-moves party s l u.running)

  pub again : run_by party (length first) (so_far r records' code' out') (drop r.ran.done text) ≡ run_by party (length first) start text
  again =
      let written : length (take t.ran.length out) ≡ t.ran.length = length-take-le t.ran.length out b.keeps.within in
      ap (λ (v : SoFar). run_by party (length first) v (drop v.done text)) is
      ∙ sym (runs-line party (length first) s text u.running u.some (omega (arith, written, u.room, b.long)))
      ∙ b.goes

-- what was past what is written still is
pub rest-on : (out first : List ℕ) (n m : ℕ) → n ≤ m → drop n out ≡ drop n first → drop m out ≡ drop m first
rest-on out first n m h e =
    let k : n + (m - n) ≡ m = omega arith in
    ap (λ (i : ℕ). drop i out) (sym k) ∙ sym (drop-drop (m - n) n out) ∙ ap (drop (m - n)) e ∙ drop-drop (m - n) n first ∙ ap (λ (i : ℕ). drop i first) k

-- what is handed back at the end
pub done : (party : ℕ) (text first : List ℕ) (start : SoFar) (records : List Record) (code out : List ℕ) (t : State) → Between party text first start records code out t
    → (not t.ran.stopped && ltb t.ran.done (length text) && leb (t.ran.length + longest_line) (length out)) ≡ false
    → record { journal = (so_far t records code out).journal; code = code; next = t.ran.next; stopped = t.ran.stopped; done = t.ran.done; length = t.ran.length; out = out }
    ≡ ended_in first (run_by party (length first) start text)
done party text first start records code out t b ends =
    let s = so_far t records code out in
    let written : length (take t.ran.length out) ≡ t.ran.length = length-take-le t.ran.length out b.keeps.within in
    let end =
    sym (runs-no-further party (length first) s text (ap₂ (λ (n m : ℕ). not t.ran.stopped && ltb t.ran.done (length text) && leb (n + longest_line) m) written (sym b.long) ∙ ends)) ∙ b.goes in
    let out-is : out ≡ take t.ran.length out ++ drop (length (take t.ran.length out)) first =
    sym (take-append-drop t.ran.length out) ∙ ap (λ (ys : List ℕ). take t.ran.length out ++ ys) (b.rest ∙ ap (λ (n : ℕ). drop n first) (sym written)) in
    (λ i. record { journal = s.journal; code = code; next = t.ran.next; stopped = t.ran.stopped; done = t.ran.done; length = sym written i; out = out-is i }) ∙ ap (ended_in first) end
