-- Each line that is read gives a record more. Assumes nothing.
use mathlib.Core.Path.{◌≡◌, refl, sym, ◌∙◌}
use mathlib.Core.List.{List, [], ◌∷◌, ◌++◌}
use Prim.Native.Nat.{ℕ, ◌+◌, ◌-◌, ◌≤◌}
use native.Mathlib.Omega.{arith}
use borrow.Author.Tests.{le-leb, lt-leb, eq-eqb, ne_eqb}
use lib.ListN.{length-append}
use Rattle.records.specs.Journal.{limit}
use Rattle.std.specs.Prelude.{Some}
use Rattle.sheet.specs.Load.{records_at, head_of, records_as}
use Rattle.sheet.specs.declared.line.Kind.{Kind}
use Rattle.sheet.proofs.Reading.{left, done}
use Rattle.sheet.proofs.Seen.{none-joined, more-joined}
use Rattle.sheet.proofs.look.look_as.Goals as goal

pub returns-in_default : goal.returns-in_default
unfolding records_as
returns-in_default c = rw (sym c.in_default.ensures) refl

pub returns-then-count-gt-LIMIT : goal.returns-then-count-gt-LIMIT
unfolding records_as
returns-then-count-gt-LIMIT c = rw (sym c.in-Some.ensures, lt-leb _ limit c.if-count-gt-LIMIT.true) refl

-- the lines after the count, of which none is read
all_left : (party : ℕ) (text : List ℕ) (kind : Kind) (count first : ℕ) → head_of text ≡ Some (count, first) → count ≤ limit
    → records_as limit party kind text ≡ records_at party kind text first (count - 0)
unfolding records_as
all_left party text kind count first head few =
    let all : count - 0 ≡ count = omega arith in
    rw (head, le-leb count limit few, all)

pub lines-init : goal.lines-init
lines-init c =
    record {
      within = omega arith;
      records = [];
      long = refl;
      gives =
          all_left c.args.party c.args.text.now c.args.kind c.in-Some.count c.in-Some.first (sym c.in-Some.ensures) c.if-count-gt-LIMIT.false
          ∙ none-joined _;
    }

pub returns-in_default-read_line : goal.returns-in_default-read_line
unfolding records_at
returns-in_default-read_line c =
    let l = c.lines in
    rw (l.invariant.gives, left l.counter _ c.lines-test.true, sym c.in_default-read_line.ensures) refl

pub lines-preserved : goal.lines-preserved
unfolding records_at
lines-preserved c =
    let l = c.lines in
    let a = c.args in
    let one = c.in-Some-read_line.field-0-0 in
    let qs = l.invariant.records in
    let others = records_at a.party a.kind a.text.now c.in-Some-read_line.next (c.in-Some.count - (l.counter + 1)) in
    record {
      within = omega arith;
      records = qs ++ (one ∷ []);
      long = rw length-append (omega (arith, l.invariant.long));
      gives = l.invariant.gives ∙ rw (left l.counter _ c.lines-test.true, sym c.in-Some-read_line.ensures) (more-joined qs one others);
    }

pub returns-then-at-text : goal.returns-then-at-text
unfolding records_at
returns-then-at-text c =
    let l = c.lines in
    rw (l.invariant.gives, done l.counter _ c.lines-test.false, ne_eqb l.at _ c.if-at-text.true) refl

pub returns : goal.returns
unfolding records_at
returns c =
    let l = c.lines in
    let whole = rw (done l.counter _ c.lines-test.false, eq-eqb l.at _ c.if-at-text.false) at l.invariant.gives in
    rw whole
    (record {
      counts = rw length-append (omega (arith, l.invariant.long, l.invariant.within, c.lines-test.false));
      lines =
          sym (all_left c.args.party c.args.text.now c.args.kind c.in-Some.count c.in-Some.first (sym c.in-Some.ensures) c.if-count-gt-LIMIT.false)
          ∙ whole;
    })
