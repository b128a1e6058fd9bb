-- What is left of the text is compared.
use Rattle.std.proofs.Common.{◌≡◌, ◌-◌, length, take, drop, length-drop, sym, ◌∙◌}
use native.Mathlib.Nat.{le_of_eq}
use lib.Seq.{take_all}
use Rattle.text.proofs.RoundTrip.{same-as}
use Rattle.redo.proofs.reader.is_last.Goals as goal

pub returns : goal.returns
returns c =
    let a = c.args in
    let all : take (length a.text.now - a.at) (drop a.at a.text.now) ≡ drop a.at a.text.now = take_all (length a.text.now - a.at) (drop a.at a.text.now) (le_of_eq (length-drop a.at a.text.now)) in
    same-as _ _ _ (λ t. sym all ∙ c.same.ensures.0 t) (λ e. c.same.ensures.1 (all ∙ e))
