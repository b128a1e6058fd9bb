-- `half::load_half` meets its contract: the bytes are below 256, so no shift loses a bit, and eight bytes are their list.
use Rattle.std.proofs.Common.{ap, arith}
use Rattle.bundle.specs.Bytes.{number}
use Rattle.bundle.proofs.Elements.{listed}
use Rattle.bundle.proofs.half.load_half.Goals as goal

pub returns : goal.returns
unfolding number
returns c = omega (arith, ap number (listed c.args.half.now 0 8 c.requires))
