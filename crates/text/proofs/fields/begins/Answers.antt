-- The library compares the text's front with the start.
use Rattle.std.proofs.Common.{sym}
use Rattle.std.proofs.lemmas.Bool.Decides.{Decides-eqb}
use Rattle.std.proofs.lemmas.Slice.Eq.{slice_eq-Decides}
use Rattle.text.proofs.RoundTrip.{same-as}
use Rattle.text.proofs.fields.begins.Goals as goal

pub returns : goal.returns
returns c =
    let d = slice_eq-Decides Decides-eqb _ _ c.starts_with.result c.starts_with.ensures.value in
    same-as _ _ _ (λ t. sym (d.0 t)) (λ e. d.1 (sym e))
