-- `value_in` meets its contract: the number gathered has as many bits as the parts.
use Rattle.bundle.specs.Bundle.{whole}
use Rattle.parts.proofs.Steps.{gathered-lt}
use Rattle.immediate.proofs.value_in.Goals as goal

pub value_of-requires : goal.value_of-requires
value_of-requires c =
    let a = c.args in
    rw (c.requires.1, c.gather-raw.ensures) (c.requires.0.fitting, gathered-lt (whole a.bundle) a.slot a.row.now.parts.now)
