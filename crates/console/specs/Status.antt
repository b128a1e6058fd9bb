-- The statuses' numbers. Assumes nothing.
use Rattle.std.specs.Prelude.{ℕ}
use Rattle.console.specs.declared.status.Status.{Status}
use Rattle.console.specs.declared.status.Status.TheVariants.{Done, Refused, Usage, System, Locked, Unread}

abbrev pub number_of : Status → ℕ
number_of Done = 0
number_of Refused = 1
number_of Usage = 2
number_of System = 3
number_of Locked = 4
number_of Unread = 141
