-- A field read is one field less to read, and its number is stored where it has a place.
use Rattle.std.proofs.Common.{◌≡◌, ℕ, arith, sym, refl, ◌∙◌, set, length-set, drop_of_length-le, add-one, drop-cons}
use lib.Seq.{set_out}
use Rattle.text.specs.Fields.{fields_at, fields_of}
use Rattle.text.proofs.RoundTrip.{read_more}
use Rattle.text.proofs.fields.read_fields.Goals as goal
use Rattle.text.proofs.fields.read_fields.Goals.{then-i-lt8, else-i-lt8}

pub loop-i-init : goal.loop-i-init
unfolding fields_of
loop-i-init c = (refl, refl)

pub returns-in_err-n : goal.returns-in_err-n
unfolding fields_at
returns-in_err-n c = rw (c.from_residual.ensures, c.loop-i.invariant.1, drop-cons {A = ℕ} _ c.loop-i.i 0 c.loop-i-test.true, sym c.in_err-n.ensures)

pub loop-i-preserved : goal.loop-i-preserved
unfolding fields_at
loop-i-preserved c =
    let l = c.loop-i in
    let joined : (c.if-i-lt8.of ≡ set l.of l.i c.in_ok-n.n) × (c.if-i-lt8.next ≡ c.in_ok-n.after) =
    elim c.if-i-lt8.branch [ then-i-lt8 w ↦ (w.of-is, w.next-is) | else-i-lt8 w ↦ (w.of-is ∙ sym (set_out _ _ _ (omega arith)), w.next-is) ] in (
      rw (joined.0, length-set) l.invariant.0,
      rw (l.invariant.1, drop-cons c.args.ends.now l.i 0 c.loop-i-test.true, sym c.in_ok-n.ensures, read_more, joined.0, joined.1, add-one),
    )

pub returns : goal.returns
unfolding fields_at
returns c = rw (c.loop-i.invariant.1, drop_of_length-le _ c.loop-i-test.false)
