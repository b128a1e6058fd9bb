-- A party's part that is shown with what is said of its numbers is shown. Assumes nothing.
use Rattle.records.proofs.Sharing.{part-shown}
use Rattle.journal.proofs.perform.Goals as goal

pub act_on-requires : goal.act_on-requires
act_on-requires c = part-shown _ _ _ _ c.own_of-own.ensures
