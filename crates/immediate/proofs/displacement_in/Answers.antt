-- `displacement_in` meets its contract: the number gathered has as many bits as the parts.
use Rattle.bundle.specs.Bundle.{whole}
use Rattle.parts.proofs.Steps.{gathered-lt}
use Rattle.immediate.proofs.displacement_in.Goals as goal

pub displacement-requires : goal.displacement-requires
displacement-requires c =
    let a = c.args in
    rw (c.requires.0.1, c.gather-raw.ensures)
    (rw c.requires.1 at c.requires.0.0.fitting, gathered-lt (whole a.bundle) a.slot a.row.now.parts.now)
