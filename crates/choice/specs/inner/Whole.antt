-- What the functions of the choice tell each other: no promise to a caller. Assumes nothing.
use Rattle.std.specs.Prelude.{ℕ}
use Rattle.std.specs.declared.option.Option.{Option}
use Rattle.std.specs.declared.option.Option.TheVariants.{None, Some}
use Rattle.answer.specs.Answer.{bad_opcode}
use Rattle.opcodes.specs.declared.Named.{Named}
use Rattle.choice.specs.Choice.{Choice, chose, no_choice}

-- the choice of a word that is none too large: a form's number is of that family
abbrev pub in_family : ℕ → Option Named → Choice
in_family family (Some named) = chose (named.0, record { family = family; number = named.1 })
in_family family None = no_choice bad_opcode
