-- So many zeros are so many; written out, since the search would count them.
use Rattle.std.proofs.Common.{ℕ, sym}
use Rattle.std.proofs.lemmas.List.{length-replicate}
use Rattle.operator.proofs.room.code.Goals as goal

pub returns : goal.returns
returns c = sym (length-replicate {0} {A = ℕ} 65536 0)
