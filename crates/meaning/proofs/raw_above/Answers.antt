-- `raw_above` meets its contract: its tests are the definition's, the second on what stands above the last bit but one.
use Rattle.std.proofs.Common.{◌-◌, ◌^◌, le-ltb, lt-ltb}
use Rattle.meaning.proofs.Units.{below_top}
use Rattle.meaning.proofs.raw_above.Goals as goal

pub returns-then-raw-width-lt2 : goal.returns-then-raw-width-lt2
returns-then-raw-width-lt2 c =
    let a = c.args in
    rw (le-ltb a.high a.low c.if-high-low.false, lt-ltb (a.high - a.low) (2 ^ a.width) (below_top a.width _ c.requires.0 c.if-raw-width-lt2.true))
