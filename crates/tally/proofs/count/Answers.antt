-- One more bundle is counted.
use Rattle.std.proofs.Common.{◌*◌, ◌%◌, get_or, arith, sym}
use Rattle.bundle.specs.Bundle.{tag_of, number_at}
use Rattle.tally.specs.Report.{tags_to}
use Rattle.tally.proofs.Counts.{counted-few, bundle-counted}
use Rattle.tally.proofs.Lists.{length_to}
use Rattle.tally.proofs.count.Goals as goal

pub overflow_add-counts : goal.overflow_add-counts
overflow_add-counts c =
    let image = c.args.image.now in
    let few = counted-few (tags_to image c.args.n) (omega (arith, length_to (λ k. tag_of (number_at image k)) c.args.n, c.requires.0, c.requires.1)) in
    record { fits = omega (arith, rw (sym c.requires.2) at (few (get_or image (16 * c.args.n) 0 % 32) (omega arith))) }

pub returns : goal.returns
returns c = bundle-counted c.args.image.now c.args.n c.args.counts.now (omega (arith, c.requires.1)) c.requires.2
