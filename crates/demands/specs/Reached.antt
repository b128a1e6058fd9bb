-- An edit with the value that `displacement` gives for a wanted address: after it `target` gives that address. With any shared journal.
-- Proved in `proofs/Reached.antt`. Assumes nothing.
use Rattle.std.specs.Prelude.{ℕ, ◌<◌, ◌^◌, ◌≡◌, List, get_or}
use Rattle.answer.specs.Answer.{accepted}
use Rattle.form.specs.declared.Form.{Form}
use Rattle.form.specs.declared.Edit.{Edit}
use Rattle.immediate.specs.Immediate.{target_of}
use Rattle.displacement.specs.Displacement.{displacement_of}
use Rattle.displacement.specs.Reached.{reaching_edit}
use Rattle.records.specs.Shared.{Shared}
use Rattle.journal.specs.Edit.{SharedOutcome, edit_by, checked_by}

-- what is so of a call that makes a party's edit of a code of bytes, where the value is given and the edit accepted
abbrev pub ReachesBy : (List ℕ → Shared → ℕ → Edit → SharedOutcome) → Type 0
ReachesBy call =
    (code : List ℕ) (s : Shared) (party k slot : ℕ) (form : Form) (address wanted : ℕ) → ((i : ℕ) → get_or code i 0 < 2 ^ 8) → address < 2 ^ 64 → wanted < 2 ^ 64
    → (displacement_of form address wanted).answer ≡ accepted
    → let after = call code s party (reaching_edit k slot form address wanted) in
    after.answer ≡ accepted → target_of after.code k slot form address ≡ record { answer = accepted; address = wanted }

-- a plain edit and a checked one
abbrev pub EditsReach : Type 0
EditsReach = ReachesBy edit_by × ReachesBy checked_by
