-- Each turn puts the last of those left back. Assumes nothing.
use mathlib.Core.Path.{◌≡◌, refl, sym, ap, ◌∙◌}
use mathlib.Core.List.{[], ◌∷◌, ◌++◌}
use Prim.Native.Nat.{ℕ, ◌-◌}
use native.Mathlib.Omega.{arith}
use lib.ListN.{length, length-append}
use Rattle.std.proofs.lemmas.Result.{err_from_is_err_and}
use Rattle.std.proofs.lemmas.Iterator.Adapters.{YieldsList-from_rev_slice}
use Rattle.std.proofs.lemmas.Iterator.Consumers.{YieldsList-turn, YieldsList-end}
use Rattle.std.proofs.lemmas.List.{length-reverse}
use Rattle.by_sheet.specs.inner.Back.{put_back, all_back}
use Rattle.by_sheet.proofs.Backs.{back_on, back-stops, from-last, untaken-answer}
use Rattle.by_sheet.proofs.taking.put_all_back.Goals as goal

pub returns-in_err-put_back : goal.returns-in_err-put_back
returns-in_err-put_back c =
    let records = c.args.records.now in
    let l = c.loop-one in
    let untaken = err_from_is_err_and c.from_residual.result c.from_residual.ensures.1 in
    let turn = YieldsList-turn (YieldsList-from_rev_slice records (cc)) l.yielded l.one-iterator l.yielded_by c.next.result c.next.new.self c.in-Some.one c.in-Some.is c.next.ensures.steps in
    let last = from-last records (length l.yielded) c.in-Some.one.now turn.0 turn.1 in
    let put = c.in_err-put_back.ensures ∙ ap (put_back l.code) last.1 in
    rw (untaken.1, untaken.2)
    (sym (l.invariant ∙ back-stops records (length records - length l.yielded) l.code (omega (arith, last.0)) put (untaken-answer c.in_err-put_back.field-0.0)))

pub loop-one-preserved : goal.loop-one-preserved
loop-one-preserved c =
    let records = c.args.records.now in
    let l = c.loop-one in
    let turn = YieldsList-turn (YieldsList-from_rev_slice records (cc)) l.yielded l.one-iterator l.yielded_by c.next.result c.next.new.self c.in-Some.one c.in-Some.is c.next.ensures.steps in
    let last = from-last records (length l.yielded) c.in-Some.one.now turn.0 turn.1 in
    let put = c.in_ok-put_back.ensures ∙ ap (put_back l.code) last.1 in
    let less : length records - length l.yielded - 1 ≡ length records - length (l.yielded ++ (c.in-Some.one ∷ [])) = simp length-append (omega arith) in
    l.invariant ∙ back_on records (length records - length l.yielded) l.code (omega (arith, last.0)) put refl ∙ ap (λ (n : ℕ). all_back records n c.put_back.new.code) less

pub returns : goal.returns
unfolding all_back
returns c =
    let records = c.args.records.now in
    let l = c.loop-one in
    let end = YieldsList-end (YieldsList-from_rev_slice records (cc)) l.yielded l.one-iterator l.yielded_by c.next.result c.next.new.self c.in-None.is c.next.ensures.steps in
    let none : length records - length l.yielded ≡ 0 = omega (arith, end.1, length-reverse records) in
    sym (l.invariant ∙ ap (λ (n : ℕ). all_back records n l.code) none)
