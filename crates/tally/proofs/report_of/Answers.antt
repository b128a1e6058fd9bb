-- The counts of the tags, then the four numbers after them.
use Rattle.std.proofs.Common.{arith}
use Rattle.tally.specs.Report.{tags_of}
use Rattle.tally.proofs.Counts.{counted-few}
use Rattle.tally.proofs.Reports.{tags-length, report-made}
use Rattle.tally.proofs.report_of.Goals as goal

pub shares_of-shares-requires : goal.shares_of-shares-requires
shares_of-shares-requires c = rw c.by_tag-report.ensures (counted-few (tags_of c.args.image.now) (omega (arith, tags-length c.args.image.now, c.requires)))

pub returns : goal.returns
returns c = report-made c.args.image.now c.by_tag-report.result c.shares_of-shares.result c.by_tag-report.ensures c.shares_of-shares.ensures
