-- `template::stops` meets its contract: at each tag the three bits are the table's stops.
use Rattle.std.proofs.Common.{[], ◌∷◌, ◌/◌, ◌%◌, ◌^◌}
use lib.Dec.{eqb}
use Rattle.bundle.specs.Template.{stops_of}
use Rattle.bundle.proofs.Templates.{stops-are}
use Rattle.bundle.proofs.template.stops.Goals as goal

pub returns : goal.returns
unfolding stops_of
returns c = stops-are (λ tag. eqb (_ / 2 ^ tag % 2) 1 ∷ eqb (_ / 2 ^ tag % 2) 1 ∷ eqb (_ / 2 ^ tag % 2) 1 ∷ []) tt c.args.tag c.requires
