-- The text gives the records that were read, and then those of the lines left. Assumes nothing.
use Rattle.sheet.proofs.Seen.{Seen}
use Rattle.sheet.proofs.look.look_as.Given as goal

abbrev pub invariant-lines : goal.invariant-lines
invariant-lines l = Seen l.party l.text l.kind l.count l.at l.counter
