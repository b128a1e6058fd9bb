-- By what looking found, and the windows that are left at first are all.
use Rattle.std.proofs.Common.{eqb, sym, rules, tests}
use Rattle.std.proofs.lemmas.Iterator.Consumers.{YieldsList-from_first}
use Rattle.std.proofs.lemmas.Iterator.Search.{any_from_yields_List}
use Rattle.layout.specs.Read.{windows_at, layout_in}
use Rattle.layout.specs.inner.Left.{windows_left}
use Rattle.layout.proofs.reader.has.Goals as goal

pub returns-in-Some : goal.returns-in-Some
unfolding layout_in
returns-in-Some c =
    let all = windows_at c.args.text.now c.in-Some.found.first c.in-Some.found.count in
    rw (sym c.in-Some.ensures)
    (any_from_yields_List (λ v. eqb v c.args.window) c.any.new.self _ _ c.any.ensures.ran (YieldsList-from_first (λ x. x) windows_left all c.windows_at.ensures)
    (λ x b q k. search (rules, tests)))

pub returns-in-None : goal.returns-in-None
unfolding layout_in
returns-in-None c = rw (sym c.in-None.ensures)
