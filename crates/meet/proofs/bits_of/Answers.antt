-- A row can be read in each slot.
use Rattle.std.proofs.Common.{◌≡◌, Some, false, List, T, sym, ap, ◌∙◌, subst, arith}
use Rattle.std.specs.Option.{option_copied}
use Rattle.std.specs.Result.{result_ok}
use Rattle.parts.specs.Placed.{readable}
use Rattle.parts.specs.declared.Part.{Part}
use Rattle.row.specs.Row.{is_none, row_of}
use Rattle.row.proofs.Rows.{row-good, good-has}
use Rattle.meet.proofs.bits_of.Goals as goal

pub invariant_of-result : goal.invariant_of-result
invariant_of-result c =
    let form = c.args.edit.form in
    let same : option_copied c.packed_of.result ≡ Some c.in_ok-row.row.now = ap option_copied (c.ok_or.ensures.ok_part ∙ ap result_ok c.in_ok-row.was) in
    let packs = rw same at c.packed_of.ensures in
    let some : is_none (row_of form) ≡ false = sym (ap (λ x. x.2) packs) in
    let reads = (good-has form.family (row_of form) (row-good form) some).reads in
    record { in_bundle = (omega arith, subst (λ (ps : List Part). T (readable ps)) (sym (ap (λ x. x.0.parts) packs)) reads) }
