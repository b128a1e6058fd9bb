-- As long as it was made. By the law, since to count the bytes takes seconds.
use Rattle.std.proofs.Common.{sym, ℕ}
use Rattle.std.proofs.lemmas.List.{length-replicate}
use Rattle.probe.proofs.code_room.Goals as goal

pub returns : goal.returns
returns c = sym (length-replicate {A = ℕ} 65600 0)
