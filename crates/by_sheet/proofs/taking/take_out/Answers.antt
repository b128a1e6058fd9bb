-- The copy's first bytes are the code, and where all went they are copied back. Assumes nothing.
use mathlib.Core.Path.{◌≡◌, refl, ap, ◌∙◌}
use mathlib.Core.List.{List, ◌++◌}
use Prim.Native.Nat.{ℕ}
use lib.ListN.{length, take}
use lib.Seq.{take_at, take-append_seam}
use Rattle.std.proofs.lemmas.Result.{err_from_is_err_and}
use Rattle.answer.specs.Answer.{accepted}
use Rattle.by_sheet.specs.Taking.{none_named, taken_in}
use Rattle.by_sheet.proofs.Backs.{too_long_lem, all-out, none_out, untaken-answer}
use Rattle.by_sheet.proofs.taking.take_out.Goals as goal

-- the code, copied, stands first
front : (code copied rest : List ℕ) → copied ≡ code → take (length code) (copied ++ rest) ≡ code
front code copied rest e = ap (λ (l : List ℕ). take (length code) (l ++ rest)) e ∙ take-append_seam code rest

pub returns-then-length-gt-LONGEST_CODE : goal.returns-then-length-gt-LONGEST_CODE
returns-then-length-gt-LONGEST_CODE c = too_long_lem c.args.code.now c.args.sheet.now c.if-length-gt-LONGEST_CODE.true

pub returns-in_err-take_out_of : goal.returns-in_err-take_out_of
returns-in_err-take_out_of c =
    let code = c.args.code.now in
    let untaken = err_from_is_err_and c.from_residual.result c.from_residual.ensures.1 in
    let here = front code c.copy_from_slice.new.self _ c.copy_from_slice.ensures.after in
    let is = c.in_err-take_out_of.ensures ∙ ap (λ (l : List ℕ). taken_in l c.args.sheet.now) here in
    rw (untaken.1, untaken.2) (none_out code _ c.if-length-gt-LONGEST_CODE.false is (untaken-answer c.in_err-take_out_of.field-0.0))

pub returns : goal.returns
returns c =
    let code = c.args.code.now in
    let part = c.take_out_of.new.code in
    let here = front code c.copy_from_slice.new.self _ c.copy_from_slice.ensures.after in
    let is = c.in_ok-take_out_of.ensures ∙ ap (λ (l : List ℕ). taken_in l c.args.sheet.now) here in
    let long : length part ≡ length code = c.take_out_of.auto.code ∙ ap length here in
    let back = c.copy_from_slice-2.ensures.after ∙ take_at part _ (length code) long in
    ap (λ (l : List ℕ). (none_named accepted, l)) back ∙ all-out code _ c.if-length-gt-LONGEST_CODE.false is refl
