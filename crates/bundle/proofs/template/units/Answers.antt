-- `template::units` meets its contract: each arm's units are the table's, and a number that no arm names has none.
use Rattle.std.proofs.Common.{[], ◌∷◌}
use Rattle.table.proofs.Match.{ones, otherwise}
use Rattle.bundle.specs.Template.{no_units}
use Rattle.bundle.proofs.Templates.{units_by_half, units-by-half}
use Rattle.bundle.proofs.template.units.Goals as goal

pub returns-in-0 : goal.returns-in-0
returns-in-0 c = rw (units-by-half c.args.tag c.requires, c.in-0.is)

pub returns-in-1 : goal.returns-in-1
returns-in-1 c = rw (units-by-half c.args.tag c.requires, c.in-1.is)

pub returns-in-2 : goal.returns-in-2
returns-in-2 c = rw (units-by-half c.args.tag c.requires, c.in-2.is)

pub returns-in-4 : goal.returns-in-4
returns-in-4 c = rw (units-by-half c.args.tag c.requires, c.in-4.is)

pub returns-in-5 : goal.returns-in-5
returns-in-5 c = rw (units-by-half c.args.tag c.requires, c.in-5.is)

pub returns-in-6 : goal.returns-in-6
returns-in-6 c = rw (units-by-half c.args.tag c.requires, c.in-6.is)

pub returns-in-7 : goal.returns-in-7
returns-in-7 c = rw (units-by-half c.args.tag c.requires, c.in-7.is)

pub returns-in-8 : goal.returns-in-8
returns-in-8 c = rw (units-by-half c.args.tag c.requires, c.in-8.is)

pub returns-in-9 : goal.returns-in-9
returns-in-9 c = rw (units-by-half c.args.tag c.requires, c.in-9.is)

pub returns-in-11 : goal.returns-in-11
returns-in-11 c = rw (units-by-half c.args.tag c.requires, c.in-11.is)

pub returns-in-12 : goal.returns-in-12
returns-in-12 c = rw (units-by-half c.args.tag c.requires, c.in-12.is)

pub returns-in-14 : goal.returns-in-14
returns-in-14 c = rw (units-by-half c.args.tag c.requires, c.in-14.is)

pub returns-in_default : goal.returns-in_default
returns-in_default c = rw (units-by-half c.args.tag c.requires) (otherwise (ones (14 ∷ 12 ∷ 11 ∷ 9 ∷ 8 ∷ 7 ∷ 6 ∷ 5 ∷ 4 ∷ 2 ∷ 1 ∷ 0 ∷ [])) _ units_by_half no_units tt c.in_default.in_default-own.rest)
