-- What is written from a place on is written at the start of what is there.
use Rattle.std.proofs.Common.{◌≡◌, sym, ◌∙◌, arith}
use Rattle.text.specs.Put.{written}
use Rattle.text.proofs.Writing.{written_from, written-lost}
use Rattle.text.proofs.put.put_text.Goals as goal
use Rattle.text.proofs.put.put_text.Goals.{then-at-out, else-at-out}

pub returns : goal.returns
returns c =
    let stored : c.if-at-out.out ≡ written c.args.out.now c.args.at c.args.text.now =
    elim c.if-at-out.branch [
      | then-at-out w ↦ w.out-is ∙ written_from c.args.out.now c.args.at c.args.text.now _ (omega arith) w.put_front.ensures
      | else-at-out w ↦ w.out-is ∙ sym (written-lost c.args.out.now c.args.at c.args.text.now w.if-at-out.false)
    ] in
    record { bytes = stored; place = c.saturating_add.ensures }
