-- `half::store_half` meets its contract: eight stores from the front leave just what was stored, and shifts by 8 add up.
use native.Mathlib.Nat.{div-div-eq-div-mul}
use Rattle.bundle.specs.Bytes.{bytes}
use Rattle.bundle.proofs.Elements.{overwritten}
use Rattle.bundle.proofs.half.store_half.Goals as goal

pub returns : goal.returns
unfolding bytes
returns c = simp div-div-eq-div-mul (overwritten c.args.half.now _ c.requires)
