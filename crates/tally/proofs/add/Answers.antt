-- An image that is too long is refused first.
use Rattle.std.proofs.Common.{[], sym, ap, ◌∙◌}
use Rattle.tally.specs.Report.{added_by}
use Rattle.tally.proofs.Sums.{long_kept, short-added}
use Rattle.tally.proofs.add.Goals as goal

pub returns-then-image-gt-LONGEST_CODE : goal.returns-then-image-gt-LONGEST_CODE
returns-then-image-gt-LONGEST_CODE c = sym (long_kept c.args.report.now c.args.image.now c.if-image-gt-LONGEST_CODE.true)

pub returns : goal.returns
returns c =
    c.add_up.ensures ∙ ap (added_by [] c.args.report.now) c.report_of.ensures ∙ sym (short-added c.args.report.now c.args.image.now c.if-image-gt-LONGEST_CODE.false)
